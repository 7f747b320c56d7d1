-- The files of a fit history follow one another, and their records are its own.
use Rattle.std.specs.Prelude.{◌≡◌, ◌⊎◌, ℕ, zero, suc, ◌+◌, ◌-◌, ◌<◌, ◌≤◌, List, [], ◌∷◌, ◌++◌, length, take, drop, reverse}
use Rattle.std.proofs.Common.{arith, refl, sym, ap, ◌∙◌, ⊎_elim, length-take, length-drop, take_all, take-append-drop}
use Rattle.std.proofs.lemmas.Bool.{cases_lt}
use Rattle.std.proofs.lemmas.List.{reverse-append}
use Rattle.std.proofs.Math.Seq.{take-add}
use Rattle.log_history.specs.History.{LogEntry, History, begin, write, commit, abort, reset}
use Rattle.log_history.specs.Transactions.{last_time, last_time_back}
use Rattle.log_files.specs.Files.{LogFiles, count_in, time_after, time_at, time_behind}
use Rattle.onbar_grammar.specs.Script.{Space}
use Rattle.site_worlds.specs.Files.{first_of_file}
use Rattle.site_worlds.specs.Fitness.{FitHistory}
use Rattle.world_laws.specs.GrowthLaws.{first_beyond}
use Rattle.world_laws.specs.LinesLaws.{first_some}
use Rattle.ring_laws.specs.Rings.{file_records, records_by_file, time_before}

pub same_files : (a b : LogFiles) → a.oldest ≡ b.oldest → a.first ≡ b.first → a.before ≡ b.before → a.past ≡ b.past → a.current ≡ b.current
    → a.is_closed ≡ b.is_closed → a.backed ≡ b.backed → a ≡ b
same_files a b e1 e2 e3 e4 e5 e6 e7 = rw (e1, e2, e3, e4, e5, e6, e7) refl

-- numbers

pub plus_none : (n : ℕ) → n + 0 ≡ n
plus_none n = omega arith

pub plus_one : (n : ℕ) → n + 1 ≡ suc n
plus_one n = omega arith

pub one_later : (n k : ℕ) → n + 1 + k ≡ n + suc k
one_later n k = omega arith

-- times

one_time : (entry : LogEntry) (past : List LogEntry) → last_time_back (entry ∷ past) ≡ time_after (last_time_back past) entry
one_time (begin txn) past = refl
one_time (write txn patch) past = refl
one_time (commit txn time) past = refl
one_time (abort txn) past = refl
one_time (reset restore target time) past = refl

-- the last time behind more records
pub last_time-append : (front rest : History) → last_time (front ++ rest) ≡ time_at (last_time front) rest
last_time-append front [] = ap last_time (append_none front)
  where
    append_none : (xs : History) → xs ++ [] ≡ xs
    append_none [] = refl
    append_none (x ∷ xs) = ap (λ (l : History). x ∷ l) (append_none xs)
last_time-append front (entry ∷ rest) =
    ap last_time (sym (moved front))
    ∙ last_time-append (front ++ entry ∷ []) rest
    ∙ ap (λ (n : ℕ). time_at n rest) (ap last_time_back (reverse-append front (entry ∷ [])) ∙ one_time entry (reverse front))
  where
    moved : (xs : History) → (xs ++ entry ∷ []) ++ rest ≡ xs ++ entry ∷ rest
    moved [] = refl
    moved (x ∷ xs) = ap (λ (l : History). x ∷ l) (moved xs)

module _ (spaces : List Space) (history : History) (starts : List ℕ) (fit : FitHistory spaces history starts) where
  -- a file that hasn't begun would begin behind the end
  pub first_behind : (file : ℕ) → length starts < file → first_of_file starts history file ≡ suc (length history)
  first_behind file lt = first_beyond starts (length history) (file - 1) (omega (arith, lt))

  pub first_rises : (file : ℕ) → 1 ≤ file → first_of_file starts history file ≤ first_of_file starts history (file + 1)
  first_rises file some = ⊎_elim
      (λ lt. omega (arith, fit.rising file some lt))
      (λ ge. omega (arith, fit.inside file, first_behind (file + 1) (omega (arith, ge))))
      (cases_lt file (length starts))

  pub first_rises_by : (file count : ℕ) → 1 ≤ file → first_of_file starts history file ≤ first_of_file starts history (file + count)
  first_rises_by file zero some = omega (arith, ap (first_of_file starts history) (plus_none file))
  first_rises_by file (suc count) some =
      omega (arith, first_rises file some, first_rises_by (file + 1) count (omega arith), ap (first_of_file starts history) (one_later file count))

  -- each file that has begun, but for the current one, has records, so no file begins before its id
  pub first_reaches : (file : ℕ) → 1 ≤ file → file ≤ length starts → file ≤ first_of_file starts history file
  first_reaches zero some le = absurd (omega (arith, some))
  first_reaches (suc zero) some le = omega (arith, fit.begins)
  first_reaches (suc (suc file)) some le =
      omega (
        arith,
        first_reaches (suc file) (omega arith) (omega (arith, le)),
        fit.rising (suc file) (omega arith) (omega (arith, le)),
        ap (first_of_file starts history) (plus_one (suc file)),
      )

  pub length-file_records : (file : ℕ) → 1 ≤ file → length (file_records starts history file) + first_of_file starts history file ≡ first_of_file starts history (file + 1)
  length-file_records file some =
      let from : ℕ = first_of_file starts history file in
      let to : ℕ = first_of_file starts history (file + 1) in
      omega (
        arith,
        length-take (to - from) (drop (from - 1) history),
        length-drop (from - 1) history,
        first_rises file some,
        fit.inside (file + 1),
        first_some spaces history starts fit file some,
      )

  pub length-records_by_file : (file count : ℕ) → length (records_by_file starts history file count) ≡ count
  length-records_by_file file zero = refl
  length-records_by_file file (suc count) = ap suc (length-records_by_file (file + 1) count)

  pub count_in-records_by_file : (file count : ℕ) → 1 ≤ file
      → first_of_file starts history file + count_in (records_by_file starts history file count) ≡ first_of_file starts history (file + count)
  count_in-records_by_file file zero some = omega (arith, ap (first_of_file starts history) (plus_none file))
  count_in-records_by_file file (suc count) some =
      omega (arith, length-file_records file some, count_in-records_by_file (file + 1) count (omega arith), ap (first_of_file starts history) (one_later file count))

  -- the current file has all records from its first position on
  pub current_records : 1 ≤ length starts → file_records starts history (length starts) ≡ drop (first_of_file starts history (length starts) - 1) history
  current_records some =
      take_all (first_of_file starts history (length starts + 1) - first_of_file starts history (length starts)) (drop (first_of_file starts history (length starts) - 1) history)
      (omega (
        arith,
        length-drop (first_of_file starts history (length starts) - 1) history,
        first_behind (length starts + 1) (omega arith),
        first_some spaces history starts fit (length starts) some,
      ))

  -- what is before a file, and the file
  pub take-next : (file : ℕ) → 1 ≤ file → take (first_of_file starts history (file + 1) - 1) history
      ≡ take (first_of_file starts history file - 1) history ++ file_records starts history file
  take-next file some =
      let from : ℕ = first_of_file starts history file in
      let to : ℕ = first_of_file starts history (file + 1) in
      let parts : to - 1 ≡ from - 1 + (to - from) = omega (arith, first_rises file some, first_some spaces history starts fit file some) in
      ap (λ (n : ℕ). take n history) parts ∙ take-add (from - 1) (to - from) history

  pub time_before-next : (file : ℕ) → 1 ≤ file → time_before starts history (file + 1) ≡ time_at (time_before starts history file) (file_records starts history file)
  time_before-next file some =
      ap last_time (take-next file some) ∙ last_time-append (take (first_of_file starts history file - 1) history) (file_records starts history file)

  -- behind so many files
  pub time_before-behind : (file count : ℕ) → 1 ≤ file
      → time_before starts history (file + count) ≡ time_behind (time_before starts history file) (records_by_file starts history file count)
  time_before-behind file zero some = ap (time_before starts history) (plus_none file)
  time_before-behind file (suc count) some =
      ap (time_before starts history) (sym (one_later file count))
      ∙ time_before-behind (file + 1) count (omega arith)
      ∙ ap (λ (n : ℕ). time_behind n (records_by_file starts history (file + 1) count)) (time_before-next file some)

  -- the last time of all is that behind the current file
  pub last_time-current : 1 ≤ length starts → last_time history ≡ time_at (time_before starts history (length starts)) (file_records starts history (length starts))
  last_time-current some =
      ap last_time (sym (take-append-drop (first_of_file starts history (length starts) - 1) history)
      ∙ ap (λ (l : History). take (first_of_file starts history (length starts) - 1) history ++ l) (sym (current_records some)))
      ∙ last_time-append (take (first_of_file starts history (length starts) - 1) history) (file_records starts history (length starts))
