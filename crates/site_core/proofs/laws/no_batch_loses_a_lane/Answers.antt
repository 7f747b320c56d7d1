use Rattle.site_core.specs.LostLaws.{none_lost_behind}
use Rattle.site_core.proofs.laws.no_batch_loses_a_lane.Goals as goal

pub returns : goal.returns
returns c = none_lost_behind
