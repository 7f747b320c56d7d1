use Rattle.lane_ways.specs.CutLaws.{cut_is_place, cut_lays}
use Rattle.lane_ways.proofs.laws.a_cut_is_a_place.Goals as goal

pub returns-clause-place : goal.returns-clause-place
returns-clause-place c = cut_is_place

pub returns-clause-lays : goal.returns-clause-lays
returns-clause-lays c = cut_lays
