use Rattle.lane_ways.specs.RestLaws.{cut_at_end, cut_before_end}
use Rattle.lane_ways.proofs.laws.the_way_ends_where_it_leads.Goals as goal

pub returns-clause-end : goal.returns-clause-end
returns-clause-end c = cut_at_end

pub returns-clause-before : goal.returns-clause-before
returns-clause-before c = cut_before_end
