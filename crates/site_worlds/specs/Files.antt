-- The files of the log, by the first position of each; and what the lines of the boot file say of them.
use Rattle.std.specs.Prelude.{◌≡◌, ℕ, zero, suc, ◌+◌, ◌-◌, ◌<◌, ◌≤◌, max, List, [], ◌∷◌, length, take, true, false, Option, None, Some, Contains}
use Rattle.log_history.specs.History.{LogEntry, History, reset, entry_at}
use Rattle.log_history.specs.Transactions.{last_time, low}
use Rattle.backup_lines.specs.Lines.{Span, Line, archived, logged, gone}
use Rattle.backup_lines.specs.Spans.{Active}
use Rattle.site_worlds.specs.Worlds.{Ring}

abbrev pub first_from : List ℕ → ℕ → ℕ → ℕ
first_from [] end n = suc end
first_from (start ∷ starts) end zero = start
first_from (start ∷ starts) end (suc n) = first_from starts end n

-- the first position of a file, counted from 1; of one that isn't there the position behind the end
abbrev pub first_of_file : List ℕ → History → ℕ → ℕ
first_of_file starts history file = first_from starts (length history) (file - 1)

-- the last position of a file: the one before the next file's first
abbrev pub last_of_file : List ℕ → History → ℕ → ℕ
last_of_file starts history file = first_of_file starts history (file + 1) - 1

-- the file has a record
abbrev pub HasRecords : List ℕ → History → ℕ → Type 0
HasRecords starts history file = first_of_file starts history file < first_of_file starts history (file + 1)

-- the current file has none
abbrev pub IsEmptyAtEnd : List ℕ → History → Type 0
IsEmptyAtEnd starts history = first_of_file starts history (length starts) ≡ suc (length history)

-- the position of the oldest Begin that is open at a position, else the one behind it
abbrev pub low_at : History → ℕ → ℕ
low_at history n = low (take n history)

-- the position that a record goes back to, if it is a Reset
abbrev pub target_of : Option LogEntry → Option ℕ
target_of (Some (reset restore target time)) = Some target
target_of entry = None

-- A line tells of a file of the history what is there: its positions, the target of a Reset at its head, the times before it and at
-- its end.
pub record Agrees (history : History) (starts : List ℕ) (span : Span) : Type 0 where
  pub some_file : 1 ≤ span.file
  pub there : span.file ≤ length starts
  pub first : span.first ≡ first_of_file starts history span.file
  pub last : span.last ≡ last_of_file starts history span.file
  pub some : span.first ≤ span.last
  pub target : span.reset ≡ target_of (entry_at history span.first)
  pub before : span.before ≡ last_time (take (span.first - 1) history)
  pub time : span.time ≡ last_time (take span.last history)
  pub kept : span.gone ≡ false

-- a file was backed up: it has a line
abbrev pub IsLogged : List Line → ℕ → Type 0
IsLogged lines file = (span : Span) × Contains lines (logged span) × (span.file ≡ file)

-- the last position that a line of a log file has, 0 where there is none; a copy that is gone counts as well
abbrev pub last_logged : List Line → ℕ
last_logged [] = 0
last_logged (logged span ∷ lines) = max span.last (last_logged lines)
last_logged (archived archive ∷ lines) = last_logged lines
last_logged (gone copy ∷ lines) = last_logged lines

-- each held file that has records is backed up, and the current one is closed or empty
pub record IsSaved (history : History) (starts : List ℕ) (ring : Ring) : Type 0 where
  pub backed : (file : ℕ) → ring.oldest ≤ file → file ≤ length starts → HasRecords starts history file → file ≤ ring.backed
  pub current : ring.is_open ≡ true → IsEmptyAtEnd starts history

-- the last record is the Reset of a restore, to its position
pub record EndsInReset (history : History) (restore : Active) : Type 0 where
  pub time : ℕ
  pub is : entry_at history (length history) ≡ Some (reset restore.number restore.to time)
