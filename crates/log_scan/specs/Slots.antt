-- What stands in the slots of a file.
use Rattle.std.specs.Prelude.{◌≡◌, ℕ, zero, suc, ◌+◌, ◌*◌, ◌%◌, ◌<◌, List, false}
use Rattle.log_history.specs.History.{LogEntry}
use Rattle.log_record.specs.Layout.{IsRecord, spelling}
use Rattle.site_disk.specs.Bytes.{extent}
use Rattle.gated_slots.specs.Slots.{place_of}
use Rattle.log_files.specs.Files.{GoesBack, is_reset}
use Rattle.log_files.specs.Ring.{area_of}

-- A Reset stands in the first slot of a file alone, and goes back to a position before its own, which is the file's first.
abbrev pub MayStand : ℕ → ℕ → LogEntry → Type 0
MayStand first zero entry = GoesBack first entry
MayStand first (suc slot) entry = is_reset entry ≡ false

-- a slot of a file spells a record that may stand there
pub record SlotStands (first file slot : ℕ) (bytes : List ℕ) : Type 0 where
  pub entry : LogEntry
  pub fits : IsRecord entry
  pub may : MayStand first slot entry
  pub spelled : extent (place_of (area_of file) slot) 128 bytes ≡ spelling entry

-- of so many slots of a file this is the first one that doesn't, numbered 256 × place + slot
pub record StopsIn (first file count : ℕ) (bytes : List ℕ) (number : ℕ) : Type 0 where
  pub slot : ℕ
  pub number_is : number ≡ 256 * (file % 8) + slot
  pub within : slot < count
  pub before : (earlier : ℕ) → earlier < slot → SlotStands first file earlier bytes
  pub bad : SlotStands first file slot bytes → ⊥
