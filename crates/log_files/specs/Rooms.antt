-- Whether a batch of records fits into the current file, and what making room for it would drop.
use Rattle.std.specs.Prelude.{◌≡◌, ℕ, ◌+◌, ◌^◌, ◌≤◌, ◌&&◌, List, [], ◌∷◌, length, ◌<◌, true, false, not, nat_lt, nat_le, if◌then◌else◌, Option, None, Some}
use Rattle.log_files.specs.Files.{LogFiles, end_of, next_of, is_full}
use Rattle.log_history.specs.History.{History}
use Rattle.log_files.specs.declared.room.Room.{Room}
use Rattle.log_files.specs.declared.room.Room.TheVariants.{Fits, Next, Full}
use Rattle.log_files.specs.declared.room.LogFull.TheVariants.{NotBackedUp, Needed, Positions}

-- so many records fit into the current file
pub record HasRoom (count : ℕ) (files : LogFiles) : Type 0 where
  pub open_file : files.is_closed ≡ false
  pub few : length files.current + count ≤ 256
  pub positions : next_of files + count ≤ 2 ^ 48 + 1

-- the next file may become the current one: that has records, a position is left, and where all places are held the oldest file is backed up
pub record HasNext (files : LogFiles) : Type 0 where
  pub position : end_of files < 2 ^ 48
  pub some : 1 ≤ length files.current
  pub backed : is_full files ≡ true → files.oldest ≤ files.backed

-- the position behind the oldest file, unless it is the current one
abbrev pub second_first : ℕ → List History → ℕ
second_first first [] = first
second_first first (entries ∷ past) = first + length entries

-- the oldest file may go, unless the oldest open Begin is in it
abbrev pub unless_needed : LogFiles → Option (ℕ × ℕ) → Room
unless_needed files None = Next (Some files.oldest)
unless_needed files (Some low) =
    if nat_lt low.0 (second_first files.first files.past) then Full (Needed files.oldest low.1) else Next (Some files.oldest)

-- the next file, where the oldest one has to go only if all places are held; then that has to be backed up first
abbrev pub next_room : LogFiles → Option (ℕ × ℕ) → Room
next_room files low =
    if is_full files then (if nat_lt files.backed files.oldest then Full (NotBackedUp files.oldest) else unless_needed files low)
    else Next None

-- First no position is left; then the batch fits; then the next file is wanted.
abbrev pub room_of : LogFiles → ℕ → Option (ℕ × ℕ) → Room
room_of files count low =
    if nat_lt (2 ^ 48) (end_of files + count) then Full (Positions (end_of files))
    else (if not files.is_closed && nat_le (length files.current + count) 256 then Fits else next_room files low)
