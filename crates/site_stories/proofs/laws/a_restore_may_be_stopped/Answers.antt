use Rattle.site_stories.specs.RestoreLaws.{restore_stops}
use Rattle.site_stories.proofs.laws.a_restore_may_be_stopped.Goals as goal

pub returns : goal.returns
returns c = restore_stops
