use Rattle.std.proofs.Common.{◌≡◌, ◌-◌, length, map}
use Rattle.txn_table.specs.Table.{change_of}
use Rattle.lane_advance.proofs.LoopLemmas.{AdvancesSoFar}
use Rattle.lane_advance.proofs.advancing.advance.Given as goal

abbrev pub invariant-loop : goal.invariant-loop
invariant-loop g l = record {
  images : l.images ≡ l.initial.images;
  so_far : AdvancesSoFar g.D.Disk l.era l.space l.count l.state l.fn.from.0 l.fn.from.1 l.to (map change_of l.changes) l.initial.mark l.initial.disk l.progress l.mark l.disk;
}

abbrev pub decreases-loop : goal.decreases-loop
decreases-loop g l = length l.changes - l.progress.taken
