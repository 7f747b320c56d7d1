use Rattle.site_stories.specs.RestartLaws.{restore_begins}
use Rattle.site_stories.proofs.laws.a_restore_begins.Goals as goal

pub returns : goal.returns
returns c = restore_begins
