use Rattle.std.proofs.Common.{◌≡◌, length, All}
use Rattle.site_disk.specs.Ledger.{MayUse}
use Rattle.site_disk.specs.MemDisk.{disk_ledger}
use Rattle.init_command.proofs.tests.empty_disks.Given as goal

abbrev pub invariant-loop : goal.invariant-loop
invariant-loop l = record {
  count : length l.disks.items ≡ l.counter;
  may : All (λ disk. MayUse l.era (disk_ledger disk)) l.disks.items;
}
