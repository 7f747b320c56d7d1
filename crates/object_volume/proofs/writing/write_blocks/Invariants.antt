use Rattle.std.proofs.Common.{◌-◌, length}
use Rattle.object_volume.proofs.PuttingLemmas.{Putting}
use Rattle.object_volume.proofs.writing.write_blocks.Given as goal

abbrev pub invariant-loop-at : goal.invariant-loop-at
invariant-loop-at g l =
    Putting g.D.Disk.is_modelled g.D.Disk.bytes g.D.Disk.image g.D.Disk.ledger l.era l.piece l.fn.chains l.chains l.fn.list l.list l.start l.from l.at l.reached l.fn.disk l.disk

abbrev pub decreases-loop-at : goal.decreases-loop-at
decreases-loop-at g l = length l.piece - l.at
