use Rattle.site_disk.specs.Ledger.{MayUse}
use Rattle.site_disk.specs.MemDisk.{disk_ledger}
use Rattle.twin_mark.proofs.tests.the_last_record_is_loaded.Given as goal

abbrev pub invariant-loop-n : goal.invariant-loop-n
invariant-loop-n g l = MayUse l.era (disk_ledger l.disk)
