use Rattle.lane_ways.specs.ChangesLaws.{laid_within}
use Rattle.lane_ways.proofs.laws.a_place_lies_on_the_way.Goals as goal

pub returns : goal.returns
returns c = laid_within
