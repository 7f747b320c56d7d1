use Rattle.site_disk.specs.Ledger.{MayUse}
use Rattle.site_disk.specs.MemDisk.{disk_ledger}
use Rattle.site_disk.proofs.memory.tests.a_disk_reads_as_it_was_written.Given as goal

abbrev pub invariant-loop-at : goal.invariant-loop-at
invariant-loop-at g l = MayUse l.era (disk_ledger l.disk)

abbrev pub invariant-loop-at-2 : goal.invariant-loop-at-2
invariant-loop-at-2 g l = MayUse l.era (disk_ledger l.disk)
