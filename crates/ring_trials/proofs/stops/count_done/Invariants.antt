use Rattle.std.proofs.Common.{◌<◌}
use Rattle.site_disk.specs.Ledger.{MayUse}
use Rattle.site_disk.specs.MemDisk.{disk_ledger}
use Rattle.logical_log.specs.Rings.{disk_of, IsMade, IsOpen}
use Rattle.ring_trials.proofs.stops.count_done.Given as goal

-- the log is open behind the first call
abbrev pub invariant-loop-number : goal.invariant-loop-number
invariant-loop-number l = record {
  may : MayUse l.era (disk_ledger (disk_of l.ring));
  made : IsMade l.ring;
  opened : 0 < l.number → IsOpen l.ring;
}
