-- The files that the log's disk holds: their part of the history.
use Rattle.std.specs.Prelude.{◌≡◌, ℕ, ◌+◌, ◌-◌, ◌%◌, ◌^◌, ◌<◌, ◌≤◌, List, [], ◌∷◌, ◌++◌, length, map, replicate, slice_set, ◌==◌, Bool, true, false, if◌then◌else◌, Option, None, Some}
use Rattle.std.specs.List.{AllByRecursion}
use Rattle.log_history.specs.History.{LogEntry, History, commit, reset}
use Rattle.log_record.specs.Layout.{IsRecord}
use Rattle.backup_lines.specs.Lines.{Span}
use Rattle.log_mark.specs.declared.mark.LogMark.{LogMark}

-- The files held, from the oldest one on: its id, the position of its first record, the time of the last Commit or Reset before it; the
-- records of each file but the current one, oldest first; those of the current file, and whether it is closed; the id up to which all
-- files are backed up.
pub record LogFiles : Type 0 where
  pub oldest : ℕ
  pub first : ℕ
  pub before : ℕ
  pub past : List History
  pub current : History
  pub is_closed : Bool
  pub backed : ℕ

-- how many records some files have
abbrev pub count_in : List History → ℕ
count_in [] = 0
count_in (entries ∷ files) = length entries + count_in files

-- the records of some files, one after another
abbrev pub joined : List History → History
joined [] = []
joined (entries ∷ files) = entries ++ joined files

-- the part of the history that the files hold
abbrev pub part_of : LogFiles → History
part_of files = joined files.past ++ files.current

-- the id of the current file, and the position of its first record
abbrev pub current_id : LogFiles → ℕ
current_id files = files.oldest + length files.past

abbrev pub current_first : LogFiles → ℕ
current_first files = files.first + count_in files.past

-- the id of the last file that is closed
abbrev pub closed_id : LogFiles → ℕ
closed_id files = if files.is_closed then current_id files else (current_id files - 1)

-- the position of the next record, and of the last one
abbrev pub next_of : LogFiles → ℕ
next_of files = current_first files + length files.current

abbrev pub end_of : LogFiles → ℕ
end_of files = next_of files - 1

-- the time of the last Commit or Reset after a record
abbrev pub time_after : ℕ → LogEntry → ℕ
time_after before (commit txn time) = time
time_after before (reset restore target time) = time
time_after before entry = before

-- after some records, and after the records of some files
abbrev pub time_at : ℕ → History → ℕ
time_at before [] = before
time_at before (entry ∷ entries) = time_at (time_after before entry) entries

abbrev pub time_behind : ℕ → List History → ℕ
time_behind before [] = before
time_behind before (entries ∷ files) = time_behind (time_at before entries) files

abbrev pub last_time_in : LogFiles → ℕ
last_time_in files = time_at (time_behind files.before files.past) files.current

-- where the first record is a Reset, the position that it goes back to
abbrev pub target_in : History → Option ℕ
target_in (reset restore target time ∷ entries) = Some target
target_in entries = None

-- what is known of a file that has records
abbrev pub span_of : ℕ → ℕ → ℕ → History → Span
span_of file first before entries = record {
  file = file;
  first = first;
  last = first + length entries - 1;
  reset = target_in entries;
  before = before;
  time = time_at before entries;
  copy = 0;
  gone = false;
}

-- of files from one on
abbrev pub spans_from : ℕ → ℕ → ℕ → List History → List Span
spans_from file first before [] = []
spans_from file first before (entries ∷ files) =
    span_of file first before entries ∷ spans_from (file + 1) (first + length entries) (time_at before entries) files

-- a file, where it has records
abbrev pub filled : History → List History
filled [] = []
filled (entry ∷ entries) = (entry ∷ entries) ∷ []

-- of the files held that have records, in order
abbrev pub spans_of : LogFiles → List Span
spans_of files = spans_from files.oldest files.first files.before (files.past ++ filled files.current)

-- the records of a file, none where it isn't held
abbrev pub records_from : ℕ → List History → ℕ → History
records_from id [] file = []
records_from id (entries ∷ files) file = if id == file then entries else records_from (id + 1) files file

abbrev pub records_of : LogFiles → ℕ → History
records_of files file = records_from files.oldest (files.past ++ files.current ∷ []) file

-- how many records each file held has, the current one last
abbrev pub counts_of : LogFiles → List ℕ
counts_of files = map length (files.past ++ files.current ∷ [])

abbrev pub total : List ℕ → ℕ
total [] = 0
total (count ∷ counts) = count + total counts

-- the first positions of files that follow one another, each put at the place of its file
abbrev pub laid : List ℕ → ℕ → ℕ → List ℕ → List ℕ
laid firsts file first [] = firsts
laid firsts file first (count ∷ counts) = laid (slice_set firsts (file % 8) first) (file + 1) (first + count) counts

-- the first positions by place, 0 where no file is held
abbrev pub firsts_by : ℕ → ℕ → List ℕ → List ℕ
firsts_by oldest first counts = laid (replicate 8 0) oldest first counts

-- what the log's mark says of the files
abbrev pub mark_of : LogFiles → LogMark
mark_of files = record {
  current = current_id files;
  oldest = files.oldest;
  backed_up_to = files.backed;
  before = files.before;
  is_closed = files.is_closed;
  firsts = firsts_by files.oldest files.first (counts_of files);
}

-- a record is no Reset, or one that goes back to a position before one
abbrev pub is_reset : LogEntry → Bool
is_reset (reset restore target time) = true
is_reset entry = false

abbrev pub GoesBack : ℕ → LogEntry → Type 0
GoesBack position (reset restore target time) = target < position
GoesBack position entry = Unit {0}

-- of the records of a file, the first of which has this position, only that one may be a Reset
abbrev pub Leads : ℕ → History → Type 0
Leads first [] = Unit {0}
Leads first (entry ∷ entries) = GoesBack first entry × AllByRecursion (λ other. is_reset other ≡ false) entries

-- at most 256 records, each with a spelling
pub record FitFile (first : ℕ) (entries : History) : Type 0 where
  pub few : length entries ≤ 256
  pub records : AllByRecursion IsRecord entries
  pub leads : Leads first entries

-- files behind which another follows, so that none is empty
abbrev pub FitPast : ℕ → List History → Type 0
FitPast first [] = Unit {0}
FitPast first (entries ∷ files) = FitFile first entries × ((1 ≤ length entries) × FitPast (first + length entries) files)

-- What the log's disk may hold: at most eight files, of which only the current one may be empty, and then it isn't closed. The files from
-- the one before the oldest on up to some are backed up. Positions and times go up to 2^48, and each file's id is at most its first position.
pub record AreFiles (files : LogFiles) : Type 0 where
  pub some : 1 ≤ files.oldest
  pub first : files.oldest ≤ files.first
  pub few : length files.past ≤ 7
  pub past : FitPast files.first files.past
  pub current : FitFile (current_first files) files.current
  pub filled : files.is_closed ≡ true → 1 ≤ length files.current
  pub dropped : files.oldest ≤ files.backed + 1
  pub backed : files.backed ≤ current_id files
  pub place : current_first files ≤ 2 ^ 48
  pub positions : next_of files ≤ 2 ^ 48 + 1
  pub before : files.before ≤ 2 ^ 48

-- what calls make of the files

-- one empty file, which is current and open; those before it count as backed up
abbrev pub new_files : ℕ → ℕ → ℕ → LogFiles
new_files file first before = record {
  oldest = file;
  first = first;
  before = before;
  past = [];
  current = [];
  is_closed = false;
  backed = file - 1;
}

-- records go into the current file
abbrev pub appended : LogFiles → History → LogFiles
appended files entries = record files { current = files.current ++ entries }

-- the current file is closed
abbrev pub closed : LogFiles → LogFiles
closed files = record files { is_closed = true }

-- the next file becomes the current one
abbrev pub with_next : LogFiles → LogFiles
with_next files = record files { past = files.past ++ files.current ∷ []; current = []; is_closed = false }

-- a file is the last one that is backed up
abbrev pub with_backed : LogFiles → ℕ → LogFiles
with_backed files file = record files { backed = file }

-- the files without those before some
abbrev pub from_past : LogFiles → List History → LogFiles
from_past files [] = files
from_past files (entries ∷ past) = record files {
  oldest = files.oldest + 1;
  first = files.first + length entries;
  before = time_at files.before entries;
  past = past;
}

-- the oldest file is dropped, unless it is the current one
abbrev pub without_oldest : LogFiles → LogFiles
without_oldest files = from_past files files.past

-- all eight places are held, so that the next file takes the oldest one's
abbrev pub is_full : LogFiles → Bool
is_full files = length files.past == 7

-- the files with a place for the next one
abbrev pub with_place : LogFiles → LogFiles
with_place files = if is_full files then without_oldest files else files

-- all records held are backed up, and the current file takes no more: it is closed or empty
pub record AreSaved (files : LogFiles) : Type 0 where
  pub past : current_id files ≤ files.backed + 1
  pub current : 1 ≤ length files.current → (files.is_closed ≡ true) × (files.backed ≡ current_id files)

-- the next file, unless the current one is empty
abbrev pub next_unless_empty : LogFiles → History → LogFiles
next_unless_empty files [] = files
next_unless_empty files (entry ∷ entries) = with_next (with_place files)

abbrev pub with_empty : LogFiles → LogFiles
with_empty files = next_unless_empty files files.current

-- what writing a record at the head of an empty file passes, the last of these what it comes to
abbrev pub passed_to_head : LogFiles → History → LogEntry → List LogFiles
passed_to_head files [] entry = appended files (entry ∷ []) ∷ []
passed_to_head files (other ∷ entries) entry =
    with_place files ∷ with_next (with_place files) ∷ appended (with_next (with_place files)) (entry ∷ []) ∷ []
