use Rattle.lane_ways.specs.StepLaws.{taken_append}
use Rattle.lane_ways.proofs.laws.a_step_goes_on_behind_its_front.Goals as goal

pub returns : goal.returns
returns c = taken_append
