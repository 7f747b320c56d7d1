use Rattle.lane_ways.specs.CutLaws.{cut_is_not_before, cut_differs}
use Rattle.lane_ways.proofs.laws.cuts_are_in_order.Goals as goal

pub returns-clause-not_before : goal.returns-clause-not_before
returns-clause-not_before c = cut_is_not_before

pub returns-clause-differs : goal.returns-clause-differs
returns-clause-differs c = cut_differs
