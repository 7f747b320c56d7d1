use Rattle.site_disk.specs.Ledger.{MayUse}
use Rattle.site_disk.specs.MemDisk.{disk_ledger}
use Rattle.catalogue_trials.proofs.tests.opened_with.Given as goal

abbrev pub invariant-loop-at : goal.invariant-loop-at
invariant-loop-at l = MayUse l.era (disk_ledger l.cat)
