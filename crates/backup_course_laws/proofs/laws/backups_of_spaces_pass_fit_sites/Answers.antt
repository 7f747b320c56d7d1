use Rattle.backup_course_laws.specs.Passing.{spaces_pass}
use Rattle.backup_course_laws.proofs.laws.backups_of_spaces_pass_fit_sites.Goals as goal

pub returns : goal.returns
returns c = spaces_pass
