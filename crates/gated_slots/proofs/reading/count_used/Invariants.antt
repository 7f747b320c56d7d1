use Rattle.std.proofs.Common.{◌-◌}
use Rattle.gated_slots.proofs.Counting.{Counted}
use Rattle.gated_slots.proofs.reading.count_used.Given as goal

abbrev pub invariant-loop-at : goal.invariant-loop-at
invariant-loop-at g l =
    Counted g.D.Disk.is_modelled g.D.Disk.bytes g.D.Disk.image g.D.Disk.ledger l.era l.gates l.capacity l.at l.used l.initial.disk l.disk

abbrev pub decreases-loop-at : goal.decreases-loop-at
decreases-loop-at g l = l.capacity - l.at
