use Rattle.std.proofs.Common.{◌-◌}
use Rattle.site_disk.proofs.Zeroing.{Zeroed}
use Rattle.site_disk.proofs.filling.put_zeros.Given as goal

abbrev pub invariant-loop-at : goal.invariant-loop-at
invariant-loop-at g l =
    Zeroed g.D.Disk.is_modelled g.D.Disk.bytes g.D.Disk.image g.D.Disk.ledger l.era l.from l.to l.at l.initial.disk l.disk

abbrev pub decreases-loop-at : goal.decreases-loop-at
decreases-loop-at g l = l.to - l.at
