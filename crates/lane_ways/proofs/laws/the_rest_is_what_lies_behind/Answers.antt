use Rattle.lane_ways.specs.RestLaws.{rest_is, cut_of_rest}
use Rattle.lane_ways.proofs.laws.the_rest_is_what_lies_behind.Goals as goal

pub returns-clause-rest : goal.returns-clause-rest
returns-clause-rest c = rest_is

pub returns-clause-cuts : goal.returns-clause-cuts
returns-clause-cuts c = cut_of_rest
