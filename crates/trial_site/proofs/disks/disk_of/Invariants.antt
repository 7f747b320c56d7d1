use Rattle.site_disk.specs.Ledger.{MayUse}
use Rattle.site_disk.specs.MemDisk.{disk_ledger}
use Rattle.trial_site.proofs.disks.disk_of.Given as goal

-- the disk may be used
abbrev pub invariant-loop-at : goal.invariant-loop-at
invariant-loop-at l = MayUse l.era (disk_ledger l.disk)
