use Rattle.std.proofs.Common.{map}
use Rattle.txn_table.specs.Table.{change_of}
use Rattle.site_lanes.proofs.AdvancingLemmas.{Partway}
use Rattle.site_lanes.proofs.advancing.advance_lanes.Given as goal

abbrev pub invariant-loop-space : goal.invariant-loop-space
invariant-loop-space g l = Partway g.D.Disk l.era l.to (map change_of l.changes) l.count l.space l.initial.lanes l.lanes
