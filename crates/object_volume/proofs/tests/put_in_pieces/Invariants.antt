use Rattle.std.specs.Prelude.{true}
use Rattle.site_disk.specs.Ledger.{MayUse}
use Rattle.site_disk.specs.MemDisk.{disk_bytes, disk_ledger}
use Rattle.object_volume.specs.Volumes.{disk_of, IsOpen, IsSending}
use Rattle.object_volume.proofs.tests.put_in_pieces.Given as goal

abbrev pub invariant-loop-piece : goal.invariant-loop-piece
invariant-loop-piece l = record {
  may : MayUse l.era (disk_ledger (disk_of l.volume));
  opened : IsOpen l.volume;
  begun : IsSending true disk_bytes l.volume;
}
