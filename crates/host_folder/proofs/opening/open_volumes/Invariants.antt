use Rattle.std.proofs.Common.{◌≡◌, All, length}
use Rattle.host_disk.specs.Files.{file_ledger}
use Rattle.site_disk.specs.Ledger.{MayUse}
use Rattle.host_folder.proofs.opening.open_volumes.Given as goal

-- the disks so far may be used
abbrev pub invariant-loop-n : goal.invariant-loop-n
invariant-loop-n g l = All (λ disk. MayUse l.era (file_ledger disk)) l.disks.items × (length l.disks.items ≡ l.n)
