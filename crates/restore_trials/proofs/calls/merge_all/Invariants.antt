use Rattle.std.proofs.Common.{◌≡◌, None}
use Rattle.site_disk.specs.Ledger.{MayUse}
use Rattle.site_disk.specs.MemDisk.{disk_ledger}
use Rattle.space_lane.specs.Lanes.{IsOpen, count_of, disk_of as chunk_of, space_of}
use Rattle.object_volume.specs.Volumes.{disk_of}
use Rattle.restore_trials.proofs.calls.merge_all.Given as goal

abbrev pub invariant-loop-made : goal.invariant-loop-made
invariant-loop-made l = record {
  may : MayUse l.era (disk_ledger (chunk_of l.job.lane));
  volume : MayUse l.era (disk_ledger (disk_of l.job.volume));
  space : space_of l.job.lane ≡ 2;
  opened : l.job.ended ≡ None → IsOpen l.job.lane;
  count : l.job.ended ≡ None → count_of l.job.lane ≡ l.pages;
}
