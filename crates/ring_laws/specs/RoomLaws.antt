-- The answer on room, by the files that the log holds, is the one by the whole history.
use Rattle.std.specs.Prelude.{◌≡◌, ℕ, suc, ◌+◌, ◌-◌, ◌^◌, ◌<◌, ◌≤◌, ◌&&◌, ◌==◌, List, [], ◌∷◌, length, Bool, true, false, not, nat_lt, nat_le, if◌then◌else◌, Option, None, Some}
use Rattle.std.proofs.Common.{arith, refl, ap, ◌∙◌}
use Rattle.std.proofs.lemmas.Bool.Decides.{nat_tests}
use Rattle.log_history.specs.History.{History}
use Rattle.log_history.specs.Transactions.{Table, table_of, low_of}
use Rattle.log_files.specs.Files.{LogFiles, end_of, is_full as is_ring_full_of}
use Rattle.log_files.specs.Rooms.{room_of, next_room, unless_needed, second_first}
use Rattle.log_files.specs.declared.room.Room.{Room as LogRoom}
use Rattle.log_files.specs.declared.room.Room.TheVariants.{Fits, Next, Full}
use Rattle.log_files.specs.declared.room.LogFull.TheVariants.{NotBackedUp, Needed, Positions}
use Rattle.onbar_grammar.specs.Script.{Space}
use Rattle.backup_lines.specs.Lines.{Line}
use Rattle.site_worlds.specs.Worlds.{Ring}
use Rattle.site_worlds.specs.Files.{first_of_file, last_of_file}
use Rattle.site_worlds.specs.Fitness.{FitHistory, FitRing}
use Rattle.world_laws.specs.LinesLaws.{first_some}
use Rattle.site_courses.specs.Faults.{not_backed_up, needed_by, no_position}
use Rattle.site_courses.specs.Appending.{Room, fits, wants_next, wants_drop, is_full, oldest_of, is_ring_full, room_behind, room}
use Rattle.ring_laws.specs.Rings.{file_records, records_by_file, files_of}
use Rattle.ring_laws.specs.PartsLaws.{first_behind, length-file_records, length-records_by_file}
use Rattle.ring_laws.specs.FitLaws.{end_of-files_of}

-- the position of the oldest open Begin, and its transaction
abbrev pub oldest_begin : Table → Option (ℕ × ℕ)
oldest_begin [] = None
oldest_begin (o ∷ others) = Some (o.first, o.txn)

-- the log's answer as the courses have it
abbrev pub room_in : LogRoom → Room
room_in Fits = fits
room_in (Next None) = wants_next
room_in (Next (Some file)) = wants_drop
room_in (Full (NotBackedUp file)) = is_full (not_backed_up file)
room_in (Full (Needed file txn)) = is_full (needed_by file txn)
room_in (Full (Positions end)) = is_full (no_position end)

module _ (spaces : List Space) (history : History) (starts : List ℕ) (lines : List Line) (ring : Ring) (fit : FitHistory spaces history starts)
    (holds : FitRing history starts lines ring) where
  abbrev files : LogFiles
  files = files_of starts history ring

  held_count : length files.past ≡ length starts - ring.oldest
  held_count = length-records_by_file spaces history starts fit ring.oldest (length starts - ring.oldest)

  same_full : is_ring_full_of files ≡ is_ring_full starts ring
  same_full = by (length files.past) (length starts) ring.oldest held_count holds.held holds.few
    where
      by : (count begun oldest : ℕ) → count ≡ begun - oldest → oldest ≤ begun → begun < oldest + 8 → (count == 7) ≡ nat_le (oldest + 7) begun
      by count begun oldest is held few = grind (arith, nat_tests, is, held, few)

  same_fits : (count : ℕ) → (not files.is_closed && nat_le (length files.current + count) 256)
      ≡ (ring.is_open && nat_lt (length history + count) (first_of_file starts history (length starts) + 256))
  same_fits count =
      ap (λ (b : Bool). b && nat_le (length files.current + count) 256) (twice ring.is_open)
      ∙ ap (λ (b : Bool). ring.is_open && b) (by (length files.current) (length history) (first_of_file starts history (length starts)) (omega (
        arith,
        length-file_records spaces history starts fit (length starts) (omega (arith, holds.oldest, holds.held)),
        first_behind spaces history starts fit (length starts + 1) (omega arith),
      )))
    where
      twice : (b : Bool) → not (not b) ≡ b
      twice true = refl
      twice false = refl

      by : (used end first : ℕ) → used + first ≡ suc end → nat_le (used + count) 256 ≡ nat_lt (end + count) (first + 256)
      by used end first is = grind (arith, nat_tests, is)

  -- where eight files are held, the second begins behind the oldest one's last position
  second_is : is_ring_full starts ring ≡ true → second_first files.first files.past ≡ first_of_file starts history (ring.oldest + 1)
  second_is full =
      let count : length starts - ring.oldest ≡ suc 6 = by (length starts) ring.oldest full holds.few in
      ap (λ (n : ℕ). second_first files.first (records_by_file starts history ring.oldest n)) count
      ∙ sum (length (file_records starts history ring.oldest)) files.first (first_of_file starts history (ring.oldest + 1))
      (length-file_records spaces history starts fit ring.oldest holds.oldest)
    where
      by : (begun oldest : ℕ) → nat_le (oldest + 7) begun ≡ true → begun < oldest + 8 → begun - oldest ≡ suc 6
      by begun oldest is few = grind (arith, nat_tests, is, few)

      sum : (n from to : ℕ) → n + from ≡ to → from + n ≡ to
      sum n from to is = omega (arith, is)

  -- the oldest file is needed
  same_need : (table : Table) → is_ring_full starts ring ≡ true → room_in (unless_needed files (oldest_begin table))
      ≡ (if nat_le (low_of table (length history)) (last_of_file starts history ring.oldest) then is_full (needed_by ring.oldest (oldest_of table)) else wants_drop)
  same_need [] full = ap (λ (b : Bool). if b then is_full (needed_by ring.oldest 0) else wants_drop)
      (by (length history) (first_of_file starts history (ring.oldest + 1)) (fit.inside (ring.oldest + 1)))
    where
      by : (end next : ℕ) → next ≤ suc end → false ≡ nat_le (end + 1) (next - 1)
      by end next le = grind (arith, nat_tests, le)
  same_need (o ∷ others) full =
      pulled (nat_lt o.first (second_first files.first files.past))
      ∙ ap (λ (b : Bool). if b then is_full (needed_by ring.oldest o.txn) else wants_drop)
      (ap (nat_lt o.first) (second_is full) ∙ by o.first (first_of_file starts history (ring.oldest + 1)) (first_some spaces history starts fit (ring.oldest + 1) (omega arith)))
    where
      pulled : (b : Bool) → room_in (if b then Full (Needed ring.oldest o.txn) else Next (Some ring.oldest))
          ≡ (if b then is_full (needed_by ring.oldest o.txn) else wants_drop)
      pulled true = refl
      pulled false = refl

      by : (first next : ℕ) → 1 ≤ next → nat_lt first next ≡ nat_le first (next - 1)
      by first next some = grind (arith, nat_tests, some)

  same_next : (table : Table) → room_in (next_room files (oldest_begin table))
      ≡ (if is_ring_full starts ring then (
      if nat_lt ring.backed ring.oldest then is_full (not_backed_up ring.oldest)
      else (if nat_le (low_of table (length history)) (last_of_file starts history ring.oldest)
      then is_full (needed_by ring.oldest (oldest_of table)) else wants_drop)
      )
      else wants_next)
  same_next table = by (is_ring_full_of files) (is_ring_full starts ring) (nat_lt ring.backed ring.oldest) same_full (same_need table)
    where
      by : (a b first : Bool) → a ≡ b
          → (b ≡ true → room_in (unless_needed files (oldest_begin table))
          ≡ (if nat_le (low_of table (length history)) (last_of_file starts history ring.oldest) then is_full (needed_by ring.oldest (oldest_of table)) else wants_drop))
          → room_in (if a then (if first then Full (NotBackedUp ring.oldest) else unless_needed files (oldest_begin table)) else Next None)
          ≡ (if b then (
          if first then is_full (not_backed_up ring.oldest)
          else (if nat_le (low_of table (length history)) (last_of_file starts history ring.oldest)
          then is_full (needed_by ring.oldest (oldest_of table)) else wants_drop)
          )
          else wants_next)
      by true true true same need = refl
      by true true false same need = need refl
      by true false first same need = absurd cc
      by false true first same need = absurd cc
      by false false first same need = refl

  -- The log's answer to so many records, where its table of open transactions has the oldest Begin, is the courses' answer.
  pub same_room : (count : ℕ) → room_in (room_of files count (oldest_begin (table_of history))) ≡ room history starts ring count
  same_room count =
      let end : end_of files ≡ length history = end_of-files_of spaces history starts fit ring holds.oldest holds.held in
      ap (λ (n : ℕ). room_in (if nat_lt (2 ^ 48) (n + count) then Full (Positions n)
      else (if not files.is_closed && nat_le (length files.current + count) 256 then Fits else next_room files (oldest_begin (table_of history))))) end
      ∙ by (nat_lt (2 ^ 48) (length history + count)) (not files.is_closed && nat_le (length files.current + count) 256)
      (ring.is_open && nat_lt (length history + count) (first_of_file starts history (length starts) + 256)) (same_fits count)
    where
      by : (past a b : Bool) → a ≡ b
          → room_in (if past then Full (Positions (length history)) else (if a then Fits else next_room files (oldest_begin (table_of history))))
          ≡ (if past then is_full (no_position (length history)) else (if b then fits else room_behind history starts ring))
      by true a b same = refl
      by false true true same = refl
      by false true false same = absurd cc
      by false false true same = absurd cc
      by false false false same = same_next (table_of history)
