use Rattle.std.proofs.Common.{◌-◌, length}
use Rattle.object_volume.proofs.ReadingLemmas.{Reading}
use Rattle.object_volume.proofs.reading.read_object.Given as goal

abbrev pub invariant-loop-next : goal.invariant-loop-next
invariant-loop-next g l =
    Reading g.D.Disk.is_modelled g.D.Disk.bytes g.D.Disk.image g.D.Disk.ledger l.era l.runs l.size l.wanted l.fn.cursor l.cursor l.next l.done (length l.fn.into) l.fn.into l.into l.initial.disk l.disk

abbrev pub decreases-loop-next : goal.decreases-loop-next
decreases-loop-next g l = length l.runs - l.next.run
