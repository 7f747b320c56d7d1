-- What contracts see of a disk in memory.
use Rattle.std.specs.Prelude.{ℕ, ◌<◌, ◌≤◌, List}
use Rattle.site_disk.specs.declared.memory.disk.MemDisk.{MemDisk}
use Rattle.site_disk.specs.declared.memory.disk.FaultCounts.{FaultCounts}
use Rattle.site_disk.specs.declared.memory.plan.DiskPlan.{DiskPlan}
use Rattle.site_disk.specs.FaultCounts.{fault_count}
use Rattle.site_disk.specs.Ledger.{Ledger}
use Rattle.site_disk.specs.Past.{contents, Pending, IsImage, past_at}
use Rattle.site_disk.specs.PastLaws.{later_counts, image_contents, pending_at_image}
use Rattle.site_disk.specs.Recording.{first_bytes, past_events, calls_room, bytes_room}

-- what a read gives
abbrev pub disk_bytes : MemDisk → List ℕ
disk_bytes disk = contents (first_bytes disk.recording) (past_events disk.recording)

-- what a crash in an era may leave
abbrev pub disk_image : MemDisk → ℕ → List ℕ → Type 0
disk_image disk f c = IsImage (first_bytes disk.recording) (past_events disk.recording) f c

-- what a crash may leave at the moment after the first n of the writes and syncs that an era has recorded
abbrev pub disk_left_at : MemDisk → ℕ → ℕ → List ℕ → Type 0
disk_left_at disk f n c = Pending (first_bytes disk.recording) (past_at f n (past_events disk.recording)) c

-- faults, bytes read and written, eras
abbrev pub disk_ledger : MemDisk → Ledger
disk_ledger disk = record {
  faults = fault_count disk.faults;
  read = disk.read;
  written = disk.written;
  last = disk.last;
  synced = disk.synced;
  key = disk.key;
}

-- which calls fail
abbrev pub disk_plan : MemDisk → DiskPlan
disk_plan disk = disk.plan

-- the failures by their causes
abbrev pub disk_faults : MemDisk → FaultCounts
disk_faults disk = disk.faults

-- how many more writes and syncs take no memory, and how many bytes of writes
abbrev pub disk_calls_room : MemDisk → ℕ
disk_calls_room disk = calls_room disk.recording

abbrev pub disk_bytes_room : MemDisk → ℕ
disk_bytes_room disk = bytes_room disk.recording

-- so many more writes and syncs, whose writes have together so many bytes, take no memory
pub record HasRoom (disk : MemDisk) (calls bytes : ℕ) : Type 0 where
  pub for_calls : calls ≤ disk_calls_room disk
  pub for_bytes : bytes ≤ disk_bytes_room disk

-- that is among what a crash in the era may leave
pub disk_left_in_era : (disk : MemDisk) (f n : ℕ) (c : List ℕ) → disk_left_at disk f n c → disk_image disk f c
disk_left_in_era disk f n c left = pending_at_image f n disk.last (first_bytes disk.recording) (past_events disk.recording) c disk.in_order left

pub disk_now_counts : (disk : MemDisk) (f g : ℕ) (c : List ℕ) → disk.last ≤ f → disk.last < g → disk_image disk g c → disk_image disk f c
disk_now_counts disk f g c le lt image =
    later_counts disk.last (first_bytes disk.recording) (past_events disk.recording) f g c disk.in_order le lt image

pub disk_reads_as : (disk : MemDisk) (f : ℕ) → disk.last ≤ f → disk_image disk f (disk_bytes disk)
disk_reads_as disk f le = image_contents disk.last (first_bytes disk.recording) (past_events disk.recording) f disk.in_order le
