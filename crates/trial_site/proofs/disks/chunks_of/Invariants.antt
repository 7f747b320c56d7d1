use Rattle.std.proofs.Common.{◌≡◌, All, length}
use Rattle.site_disk.specs.Ledger.{MayUse}
use Rattle.site_disk.specs.MemDisk.{disk_ledger}
use Rattle.trial_site.proofs.disks.chunks_of.Given as goal

-- the disks so far may be used
abbrev pub invariant-loop-n : goal.invariant-loop-n
invariant-loop-n l = All (λ disk. MayUse l.era (disk_ledger disk)) l.disks.items × (length l.disks.items ≡ l.n)
