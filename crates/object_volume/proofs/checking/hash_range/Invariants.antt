use Rattle.std.proofs.Common.{◌-◌}
use Rattle.object_volume.proofs.CheckingLemmas.{Hashing}
use Rattle.object_volume.proofs.checking.hash_range.Given as goal

abbrev pub invariant-loop-done : goal.invariant-loop-done
invariant-loop-done g l =
    Hashing g.D.Disk.is_modelled g.D.Disk.bytes g.D.Disk.image g.D.Disk.ledger l.era l.place l.len l.done l.initial.hasher l.hasher l.initial.disk l.disk

abbrev pub decreases-loop-done : goal.decreases-loop-done
decreases-loop-done g l = l.len - l.done
