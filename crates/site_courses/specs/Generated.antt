-- The generated story: transactions that are drawn from a seed, backups among them, the loss of both chunks, and a restore.
use Rattle.std.specs.Prelude.{ℕ, zero, suc, ◌+◌, ◌*◌, ◌/◌, ◌%◌, ◌^◌, ◌==◌, min, max, List, [], ◌∷◌, ◌++◌, map, ◌||◌, if◌then◌else◌, None, Some, codes}
use Rattle.log_history.specs.History.{LogEntry, begin, write, commit, abort}
use Rattle.log_history.specs.Transactions.{last_time}
use Rattle.site_headers.specs.Heads.{Head}
use Rattle.backup_lines.specs.Spans.{at_end}
use Rattle.walks.specs.Courses.{Course, only, make}
use Rattle.site_worlds.specs.Worlds.{Site, World, lost, unformatted, formatted, new_site}
use Rattle.site_worlds.specs.Moves.{Move, move_lanes, WorldMove, format_site, moves_on}
use Rattle.site_courses.specs.Faults.{Fault, already_formatted}
use Rattle.site_courses.specs.Courses.{SiteCourse, in_turn, lanes_to_end}
use Rattle.site_courses.specs.Appending.{append_course}
use Rattle.site_courses.specs.Backups.{spaces_course}
use Rattle.site_courses.specs.Restores.{restore_course}

-- draws

-- what is drawn, and the state behind it
pub record Drawn (A : Type 0) : Type 0 where
  pub value : A
  pub state : ℕ

unfoldable pub next_state : ℕ → ℕ
next_state x = (x * 6364136223846793005 + 1442695040888963407) % 2 ^ 64

-- a number below another one
unfoldable pub draw : ℕ → ℕ → Drawn ℕ
draw n x = record { value = next_state x / 2 ^ 33 % n; state = next_state x }

abbrev pub draw_bytes : ℕ → ℕ → Drawn (List ℕ)
draw_bytes zero x = record { value = []; state = x }
draw_bytes (suc count) x =
    let byte = draw 256 x in
    let rest = draw_bytes count byte.state in
    record { value = byte.value ∷ rest.value; state = rest.state }

-- space 0 has 64 pages, space 1 has 48
abbrev pub pages_drawn_from : ℕ → ℕ
pages_drawn_from space = if space == 0 then 64 else 48

abbrev pub draw_write : ℕ → ℕ → Drawn LogEntry
draw_write txn x =
    let space = draw 2 x in
    let page = draw (pages_drawn_from space.value) space.state in
    let offset = draw 4017 page.state in
    let length = draw 64 offset.state in
    let bytes = draw_bytes (1 + length.value) length.state in
    record {
      value = write txn (record { space = space.value; page = page.value; offset = offset.value; bytes = bytes.value });
      state = bytes.state;
    }

abbrev pub draw_writes : ℕ → ℕ → ℕ → Drawn (List LogEntry)
draw_writes txn zero x = record { value = []; state = x }
draw_writes txn (suc count) x =
    let first = draw_write txn x in
    let rest = draw_writes txn count first.state in
    record { value = first.value ∷ rest.value; state = rest.state }

-- the records of a transaction, which ends at a time: 1 to 4 Writes, and one in eight aborts
abbrev pub draw_transaction : ℕ → ℕ → ℕ → Drawn (List LogEntry)
draw_transaction txn time x =
    let count = draw 4 x in
    let writes = draw_writes txn (1 + count.value) count.state in
    let aborts = draw 8 writes.state in
    record {
      value = begin txn ∷ (writes.value ++ (if aborts.value == 0 then abort txn else commit txn time) ∷ []);
      state = aborts.state;
    }

-- the story

-- the moment of a transaction, and of a backup behind it
abbrev pub moment_of : ℕ → ℕ → ℕ
moment_of moment i = min (moment + i) 253402300799

abbrev pub drawn_batch : ℕ → ℕ → ℕ → SiteCourse
drawn_batch moment i x site = append_course (draw_transaction i (max (moment_of moment i) (last_time site.history)) x).value site

-- What is left of the transactions, from one on, with so many backups made: behind each fiftieth and the last comes a backup of both spaces.
abbrev pub transactions_from : ℕ → ℕ → ℕ → ℕ → ℕ → SiteCourse
transactions_from moment zero i backups x = λ site. only None
transactions_from moment (suc left) i backups x =
    if (i % 50 == 0) || (left == 0)
    then in_turn (drawn_batch moment i x ∷ spaces_course (backups % 3) (0 ∷ 1 ∷ []) (moment_of moment i)
    ∷ transactions_from moment left (suc i) (suc backups) (draw_transaction i 0 x).state ∷ [])
    else in_turn (drawn_batch moment i x ∷ transactions_from moment left (suc i) backups (draw_transaction i 0 x).state ∷ [])

-- all lanes go to the end, both chunks are lost, and a restore goes to the end of the log
abbrev pub story_course : ℕ → ℕ → ℕ → SiteCourse
story_course seed count moment =
    in_turn (transactions_from moment count 1 0 seed ∷ (λ site. make (lanes_to_end site)) ∷ (λ site. make (move_lanes (map (λ lane. lost) site.lanes) ∷ []))
    ∷ restore_course (moment_of moment count) at_end ∷ [])

abbrev pub generated_head : ℕ → Head
generated_head moment = record {
  site = moment;
  blocks = 1048576;
  spaces = record { name = codes "A"; pages = 64 } ∷ record { name = codes "B"; pages = 48 } ∷ [];
}

abbrev pub behind_formatting : Head → Course Move Fault → Course WorldMove Fault
behind_formatting head course = record { moves = format_site head ∷ map moves_on course.moves; fault = course.fault }

-- `-gen`
abbrev pub generated_course : ℕ → ℕ → ℕ → World → Course WorldMove Fault
generated_course seed count moment unformatted =
    behind_formatting (generated_head moment) (story_course seed count moment (new_site (generated_head moment)))
generated_course seed count moment (formatted site) = only (Some already_formatted)
