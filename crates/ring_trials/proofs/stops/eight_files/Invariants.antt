use Rattle.site_disk.specs.Ledger.{MayUse}
use Rattle.site_disk.specs.MemDisk.{disk_ledger}
use Rattle.logical_log.specs.Rings.{disk_of, IsOpen}
use Rattle.ring_trials.proofs.stops.eight_files.Given as goal

-- the log is open
abbrev pub invariant-loop-txn : goal.invariant-loop-txn
invariant-loop-txn l = record {
  may : MayUse l.era (disk_ledger (disk_of l.ring));
  opened : IsOpen l.ring;
}
