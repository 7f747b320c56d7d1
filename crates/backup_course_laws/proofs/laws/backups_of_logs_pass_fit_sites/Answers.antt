use Rattle.backup_course_laws.specs.Passing.{logs_pass}
use Rattle.backup_course_laws.proofs.laws.backups_of_logs_pass_fit_sites.Goals as goal

pub returns : goal.returns
returns c = logs_pass
