-- How records come into the log: room is made for them where the current file can't take them.
use Rattle.std.specs.Prelude.{ℕ, ◌+◌, ◌^◌, List, [], ◌∷◌, ◌++◌, length, Bool, ◌&&◌, nat_lt, nat_le, if◌then◌else◌, Option, None, Some}
use Rattle.log_history.specs.History.{LogEntry, History}
use Rattle.log_history.specs.Transactions.{Table, table_of, low_of}
use Rattle.walks.specs.Courses.{only, make, for_each}
use Rattle.site_worlds.specs.Worlds.{Ring}
use Rattle.site_worlds.specs.Files.{first_of_file, last_of_file}
use Rattle.site_worlds.specs.Moves.{append_batch, drop_oldest, next_file, site_rules}
use Rattle.site_courses.specs.Faults.{LogFull, not_backed_up, needed_by, no_position, Fault, log_full}
use Rattle.site_courses.specs.Courses.{SiteCourse, check, in_turn, if_active, if_log_lost, if_any_lost, lanes_to_end}

-- what the log says to so many records: they fit into the current file; the next file has to be opened, behind the drop of the oldest one
-- where eight are held; or none can be
pub data Room : Type 0 where
  fits : Room
  wants_next : Room
  wants_drop : Room
  is_full : (why : LogFull) → Room

-- the transaction that was opened first
abbrev pub oldest_of : Table → ℕ
oldest_of [] = 0
oldest_of (o ∷ others) = o.txn

-- eight files are held
abbrev pub is_ring_full : List ℕ → Ring → Bool
is_ring_full starts ring = nat_le (ring.oldest + 7) (length starts)

-- Where eight are held the oldest is dropped: it has to be backed up, and no open transaction may need it.
abbrev pub room_behind : History → List ℕ → Ring → Room
room_behind history starts ring =
    if is_ring_full starts ring then (
    if nat_lt ring.backed ring.oldest then is_full (not_backed_up ring.oldest)
    else (if nat_le (low_of (table_of history) (length history)) (last_of_file starts history ring.oldest)
    then is_full (needed_by ring.oldest (oldest_of (table_of history))) else wants_drop)
    )
    else wants_next

-- positions go up to 2^48, and a file takes 256 records
abbrev pub room : History → List ℕ → Ring → ℕ → Room
room history starts ring count =
    if nat_lt (2 ^ 48) (length history + count) then is_full (no_position (length history))
    else (if ring.is_open && nat_lt (length history + count) (first_of_file starts history (length starts) + 256) then fits
    else room_behind history starts ring)

-- The next file is opened; before the oldest is dropped all lanes go to the end, so that none needs it.
abbrev pub append_with : Room → List LogEntry → SiteCourse
append_with fits records site = make (append_batch records ∷ [])
append_with wants_next records site = make (next_file ∷ append_batch records ∷ [])
append_with wants_drop records site = make (lanes_to_end site ++ drop_oldest ∷ next_file ∷ append_batch records ∷ [])
append_with (is_full why) records site = only (Some (log_full why))

abbrev pub append_to : Option Ring → List LogEntry → SiteCourse
append_to None records site = only None
append_to (Some ring) records site = append_with (room site.history site.starts ring (length records)) records site

-- a batch of records
abbrev pub append_course : List LogEntry → SiteCourse
append_course records site = append_to site.ring records site

-- `-T`: the batches that its script says, one after another, and how the script ends
abbrev pub transactions_course : List (List LogEntry) → Option Fault → SiteCourse
transactions_course batches ending =
    in_turn (check if_active ∷ check if_log_lost ∷ check if_any_lost ∷ for_each site_rules append_course batches ∷ check (λ site. ending) ∷ [])
