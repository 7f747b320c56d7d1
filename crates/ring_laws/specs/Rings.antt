-- The files that the disk of a site's log holds, as the layers of the log have them: stretches of the site's history.
use Rattle.std.specs.Prelude.{ℕ, zero, suc, ◌+◌, ◌-◌, ◌^◌, ◌≤◌, List, [], ◌∷◌, ◌++◌, length, take, drop, Bool, true, false, not, Option}
use Rattle.std.specs.List.{AllByRecursion}
use Rattle.std.specs.Option.{option_map}
use Rattle.log_history.specs.History.{History, reset}
use Rattle.log_history.specs.Transactions.{last_time}
use Rattle.log_record.specs.Layout.{IsRecord}
use Rattle.log_files.specs.Files.{LogFiles, appended, closed, with_next, with_backed, without_oldest}
use Rattle.site_worlds.specs.Worlds.{Ring, Site}
use Rattle.site_worlds.specs.Files.{first_of_file}
use Rattle.site_worlds.specs.Moves.{Move, append_batch, append_reset, close_file, drop_oldest, next_file, mark_backed, format_log, commit_objects, append_lines, begin_restore, set_prepared, end_restore, move_lanes}

-- the records of a file
abbrev pub file_records : List ℕ → History → ℕ → History
file_records starts history file =
    take (first_of_file starts history (file + 1) - first_of_file starts history file) (drop (first_of_file starts history file - 1) history)

-- those of so many files, from one on
abbrev pub records_by_file : List ℕ → History → ℕ → ℕ → List History
records_by_file starts history file zero = []
records_by_file starts history file (suc count) = file_records starts history file ∷ records_by_file starts history (file + 1) count

-- the time of the last Commit or Reset before a file
abbrev pub time_before : List ℕ → History → ℕ → ℕ
time_before starts history file = last_time (take (first_of_file starts history file - 1) history)

-- What the log's disk holds: the files from the oldest one held up to the last one that has begun, which is the current one.
abbrev pub files_of : List ℕ → History → Ring → LogFiles
files_of starts history ring = record {
  oldest = ring.oldest;
  first = first_of_file starts history ring.oldest;
  before = time_before starts history ring.oldest;
  past = records_by_file starts history ring.oldest (length starts - ring.oldest);
  current = file_records starts history (length starts);
  is_closed = not ring.is_open;
  backed = ring.backed;
}

-- those that a site's log holds, none where it is lost
abbrev pub files_in : Site → Option LogFiles
files_in site = option_map (files_of site.starts site.history) site.ring

-- what a move makes of the files that the log holds
abbrev pub files_after : Move → LogFiles → LogFiles
files_after (append_batch records) files = appended files records
files_after (append_reset restore target time) files = appended files (reset restore target time ∷ [])
files_after close_file files = closed files
files_after drop_oldest files = without_oldest files
files_after next_file files = with_next files
files_after (mark_backed file) files = with_backed files file
files_after format_log files = files
files_after (commit_objects added deleted) files = files
files_after (append_lines more) files = files
files_after (begin_restore point to) files = files
files_after (set_prepared prepared) files = files
files_after end_restore files = files
files_after (move_lanes goals) files = files

-- What the log's layout takes: records that have a spelling, and a current file that has a position for its first record.
pub record FitsLayout (starts : List ℕ) (history : History) : Type 0 where
  pub records : AllByRecursion IsRecord history
  pub place : first_of_file starts history (length starts) ≤ 2 ^ 48

-- what moves pass, one after another
abbrev pub files_on_way : List Move → LogFiles → List LogFiles
files_on_way [] files = []
files_on_way (move ∷ moves) files = files_after move files ∷ files_on_way moves (files_after move files)

-- the moves that make the next file the current one: where all places are held, the oldest file is dropped first
abbrev pub opening : Bool → List Move
opening true = drop_oldest ∷ next_file ∷ []
opening false = next_file ∷ []

-- those that write a Reset at the head of a file: of the current one, if that is empty, else of the next one
abbrev pub heading : Bool → History → Move → List Move
heading full [] write = write ∷ []
heading full (entry ∷ entries) write = opening full ++ write ∷ []
