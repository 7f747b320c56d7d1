-- A Begin among the records held that the transactions read as open don't allow.
use Rattle.std.specs.Prelude.{◌≡◌, ℕ, ◌+◌, ◌-◌, ◌*◌, ◌%◌, List, [], ◌∷◌, ◌++◌, length, reverse, Bool, false, if◌then◌else◌, Option, None, Some}
use Rattle.std.specs.Option.{option_or, is_some}
use Rattle.log_history.specs.History.{LogEntry, History, begin}
use Rattle.log_history.specs.Transactions.{Table, lookup, unless_new}
use Rattle.log_files.specs.Files.{LogFiles, filled}
use Rattle.held_laws.specs.Reading.{read_back}

-- its transaction is open, or 64 are
abbrev pub is_stray : LogEntry → Table → Bool
is_stray (begin txn) table = is_some (unless_new (lookup txn table) (length table))
is_stray entry table = false

-- the slot of the first one of a file's records, which begin at a slot and come behind others, given newest first; before those so many
-- records aren't held
abbrev pub stray_from : ℕ → ℕ → List LogEntry → History → Option ℕ
stray_from slot before past [] = None
stray_from slot before past (entry ∷ entries) =
    if is_stray entry (read_back before past) then Some slot else stray_from (slot + 1) before (entry ∷ past) entries

-- the first one of files from one on, numbered 256 × place + slot
abbrev pub stray_in : ℕ → ℕ → List LogEntry → List History → Option ℕ
stray_in file before past [] = None
stray_in file before past (entries ∷ files) =
    option_or (stray_from (256 * (file % 8)) before past entries) (stray_in (file + 1) before (reverse entries ++ past) files)

-- the records of the files held that have some, in order
abbrev pub held_files : LogFiles → List History
held_files files = files.past ++ filled files.current

-- among these
abbrev pub first_stray : LogFiles → Option ℕ
first_stray files = stray_in files.oldest (files.first - 1) [] (held_files files)

abbrev pub FirstStray : LogFiles → ℕ → Type 0
FirstStray files slot = first_stray files ≡ Some slot
