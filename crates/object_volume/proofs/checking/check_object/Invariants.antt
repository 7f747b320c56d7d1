use Rattle.object_volume.proofs.CheckingLemmas.{Judging}
use Rattle.object_volume.proofs.checking.check_object.Given as goal

abbrev pub invariant-loop-run : goal.invariant-loop-run
invariant-loop-run g l =
    Judging g.D.Disk.is_modelled g.D.Disk.bytes g.D.Disk.image g.D.Disk.ledger l.era l.runs l.size l.run-index l.left l.hasher l.initial.disk l.disk
