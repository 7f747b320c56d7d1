-- What contracts see of a file as a disk. Of its bytes nothing is told.
use Rattle.std.specs.Prelude.{ℕ, List, []}
use Rattle.site_disk.specs.Ledger.{Ledger}
use Rattle.host_disk.specs.declared.file.FileDisk.{FileDisk}

-- faults, bytes read and written, eras
abbrev pub file_ledger : FileDisk → Ledger
file_ledger disk = record {
  faults = disk.errors.count;
  read = disk.read;
  written = disk.written;
  last = disk.last;
  synced = disk.synced;
  key = disk.key;
}

-- what a read gives isn't told
abbrev pub file_bytes : FileDisk → List ℕ
file_bytes disk = []

-- a crash may leave any bytes
abbrev pub file_image : FileDisk → ℕ → List ℕ → Type 0
file_image disk era bytes = Unit {0}
