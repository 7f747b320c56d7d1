use Rattle.lane_ways.specs.RestLaws.{step_place}
use Rattle.lane_ways.proofs.laws.behind_a_step_stands_its_place.Goals as goal

pub returns : goal.returns
returns c = step_place
