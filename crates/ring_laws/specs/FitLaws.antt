-- What a fit site's log holds is what the log's disk may hold, and it tells where the history ends.
use Rattle.std.specs.Prelude.{◌≡◌, ◌⊎◌, ℕ, zero, suc, ◌+◌, ◌-◌, ◌^◌, ◌<◌, ◌≤◌, List, [], ◌∷◌, ◌++◌, length, take, drop, reverse, slice_get, Bool, true, false, not, Some}
use Rattle.std.specs.List.{AllByRecursion}
use mathlib.Core.Logic.{inl, inr}
use Rattle.std.proofs.Common.{arith, refl, sym, ap, subst, ◌∙◌}
use Rattle.std.proofs.lemmas.Bool.{cases_lt, true≢false}
use Rattle.std.proofs.lemmas.List.{reverse-reverse}
use Rattle.log_history.specs.History.{LogEntry, History, begin, write, commit, abort, reset, entry_at}
use Rattle.log_history.specs.Transactions.{InOrder, InOrderBack, last_time}
use Rattle.history_laws.specs.EffectiveLaws.{entry_at_back, parts_back}
use Rattle.log_record.specs.Layout.{IsRecord}
use Rattle.log_files.specs.Files.{LogFiles, AreFiles, FitFile, FitPast, Leads, GoesBack, is_reset, current_id, current_first, next_of, end_of, last_time_in, time_at}
use Rattle.log_files.specs.FilesLaws.{time_at-bounded}
use Rattle.onbar_grammar.specs.Script.{Space}
use Rattle.backup_lines.specs.Lines.{Line}
use Rattle.site_worlds.specs.Worlds.{Ring}
use Rattle.site_worlds.specs.Files.{first_of_file}
use Rattle.site_worlds.specs.Fitness.{FitHistory, FitRing}
use Rattle.world_laws.specs.LinesLaws.{first_some}
use Rattle.ring_laws.specs.Rings.{file_records, records_by_file, time_before, files_of, FitsLayout}
use Rattle.ring_laws.specs.PartsLaws.{last_time-append, first_behind, first_rises_by, first_reaches, length-file_records, length-records_by_file, count_in-records_by_file, time_before-behind, last_time-current}

-- records of a part

module _ {X : Type 0} where
  slice_in_front : (count i : ℕ) (xs : List X) (x : X) → slice_get (take count xs) i ≡ Some x → (i < count) × (slice_get xs i ≡ Some x)
  slice_in_front zero i xs x is = absurd cc
  slice_in_front (suc count) i [] x is = absurd cc
  slice_in_front (suc count) zero (y ∷ xs) x is = (omega arith, is)
  slice_in_front (suc count) (suc i) (y ∷ xs) x is = let rest = slice_in_front count i xs x is in (omega (arith, rest.0), rest.1)

  slice_behind : (n i : ℕ) (xs : List X) → slice_get (drop n xs) i ≡ slice_get xs (n + i)
  slice_behind zero i xs = let same : i ≡ 0 + i = omega arith in ap (slice_get xs) same
  slice_behind (suc n) i [] = refl
  slice_behind (suc n) i (x ∷ xs) = let same : suc (n + i) ≡ suc n + i = omega arith in slice_behind n i xs ∙ ap (slice_get (x ∷ xs)) same

  all_front : (P : X → Type 0) (n : ℕ) (xs : List X) → AllByRecursion P xs → AllByRecursion P (take n xs)
  all_front P zero xs all = tt
  all_front P (suc n) [] all = tt
  all_front P (suc n) (x ∷ xs) all = (all.0, all_front P n xs all.1)

  all_behind : (P : X → Type 0) (n : ℕ) (xs : List X) → AllByRecursion P xs → AllByRecursion P (drop n xs)
  all_behind P zero xs all = all
  all_behind P (suc n) [] all = tt
  all_behind P (suc n) (x ∷ xs) all = all_behind P n xs all.1

-- Resets

plain_of : (xs : History) → ((i restore target time : ℕ) → slice_get xs i ≡ Some (reset restore target time) → ⊥) → AllByRecursion (λ other. is_reset other ≡ false) xs
plain_of [] none = tt
plain_of (begin txn ∷ xs) none = (refl, plain_of xs (λ i restore target time is. none (suc i) restore target time is))
plain_of (write txn patch ∷ xs) none = (refl, plain_of xs (λ i restore target time is. none (suc i) restore target time is))
plain_of (commit txn at ∷ xs) none = (refl, plain_of xs (λ i restore target time is. none (suc i) restore target time is))
plain_of (abort txn ∷ xs) none = (refl, plain_of xs (λ i restore target time is. none (suc i) restore target time is))
plain_of (reset restore target time ∷ xs) none = absurd (none 0 restore target time refl)

back_of : (first : ℕ) (entry : LogEntry) → ((restore target time : ℕ) → Some entry ≡ Some (reset restore target time) → target < first) → GoesBack first entry
back_of first (begin txn) back = tt
back_of first (write txn patch) back = tt
back_of first (commit txn at) back = tt
back_of first (abort txn) back = tt
back_of first (reset restore target time) back = back restore target time refl

leads_of : (first : ℕ) (xs : History) → ((i restore target time : ℕ) → slice_get xs (suc i) ≡ Some (reset restore target time) → ⊥)
    → ((restore target time : ℕ) → slice_get xs 0 ≡ Some (reset restore target time) → target < first) → Leads first xs
leads_of first [] later back = tt
leads_of first (entry ∷ xs) later back = (back_of first entry back, plain_of xs later)

order_behind : (newer past : List LogEntry) → InOrderBack (newer ++ past) → InOrderBack past
order_behind [] past order = order
order_behind (entry ∷ newer) past order = order_behind newer past order.1

-- a Reset of a history in order goes back
pub target_before : (history : History) (x restore target time : ℕ) → InOrder history → entry_at history x ≡ Some (reset restore target time) → target < x
target_before history x restore target time order is =
    let parts = parts_back (reverse history) x (reset restore target time)
    (sym (entry_at_back (reverse history) x) ∙ ap (λ (h : History). entry_at h x) (reverse-reverse history) ∙ is) in
    omega (arith, (order_behind parts.0 (reset restore target time ∷ parts.1) (subst InOrderBack parts.2 order)).0.0, parts.3)

module _ (spaces : List Space) (history : History) (starts : List ℕ) (fit : FitHistory spaces history starts) where
  -- behind the first record of a file there is no Reset
  none_within : (file x restore target time : ℕ) → 1 ≤ file → first_of_file starts history file < x → x < first_of_file starts history (file + 1)
      → entry_at history x ≡ Some (reset restore target time) → ⊥
  none_within file x restore target time some behind ahead is =
      let found = fit.resets x restore target time is in
      by found.0 found.1 found.3 (cases_lt file found.0)
    where
      by : (g : ℕ) → 1 ≤ g → first_of_file starts history g ≡ x → (file < g) ⊎ (g ≤ file) → ⊥
      by g one at (inl lt) =
          let there : file + 1 + (g - (file + 1)) ≡ g = omega (arith, lt) in
          absurd (omega (arith, first_rises_by spaces history starts fit (file + 1) (g - (file + 1)) (omega arith), ap (first_of_file starts history) there, at, ahead))
      by g one at (inr le) =
          let there : g + (file - g) ≡ file = omega (arith, le) in
          absurd (omega (arith, first_rises_by spaces history starts fit g (file - g) one, ap (first_of_file starts history) there, at, behind))

  fit_file : (file : ℕ) → 1 ≤ file → file ≤ length starts → AllByRecursion IsRecord history → FitFile (first_of_file starts history file) (file_records starts history file)
  fit_file file some le records =
      let from : ℕ = first_of_file starts history file in
      let to : ℕ = first_of_file starts history (file + 1) in
      let one : 1 ≤ from = first_some spaces history starts fit file some in
      record {
        few = omega (arith, length-file_records spaces history starts fit file some, fit.small file some le);
        records = all_front IsRecord (to - from) (drop (from - 1) history) (all_behind IsRecord (from - 1) history records);
        leads = leads_of from (file_records starts history file)
            (λ i restore target time is.
            let there = slice_in_front (to - from) (suc i) (drop (from - 1) history) (reset restore target time) is in
            none_within file (suc (from - 1 + suc i)) restore target time some (omega (arith, one)) (omega (arith, one, there.0))
            (sym (slice_behind (from - 1) (suc i) history) ∙ there.1))
            (λ restore target time is.
            let there = slice_in_front (to - from) 0 (drop (from - 1) history) (reset restore target time) is in
            omega (arith, one, target_before history (suc (from - 1 + 0)) restore target time fit.order (sym (slice_behind (from - 1) 0 history) ∙ there.1)));
      }

  fit_past : (file count : ℕ) → 1 ≤ file → file + count ≤ length starts → AllByRecursion IsRecord history
      → FitPast (first_of_file starts history file) (records_by_file starts history file count)
  fit_past file zero some le records = tt
  fit_past file (suc count) some le records = (
    fit_file file some (omega (arith, le)) records,
    (
      omega (arith, length-file_records spaces history starts fit file some, fit.rising file some (omega (arith, le))),
      subst (λ (n : ℕ). FitPast n (records_by_file starts history (file + 1) count)) (omega (arith, length-file_records spaces history starts fit file some))
          (fit_past (file + 1) count (omega arith) (omega (arith, le)) records),
    ),
  )

  -- times are bounded as those of records are
  time_bounded : (n : ℕ) → AllByRecursion IsRecord history → last_time (take n history) ≤ 2 ^ 48
  time_bounded n records =
      omega (arith, last_time-append [] (take n history), time_at-bounded 0 (take n history) (omega arith) (all_front IsRecord n history records))

  module _ (ring : Ring) (some : 1 ≤ ring.oldest) (held : ring.oldest ≤ length starts) where
    abbrev files : LogFiles
    files = files_of starts history ring

    all_begun : ring.oldest + (length starts - ring.oldest) ≡ length starts
    all_begun = omega (arith, held)

    -- the current file is the last one that has begun
    pub current_id-files_of : current_id files ≡ length starts
    current_id-files_of = omega (arith, length-records_by_file spaces history starts fit ring.oldest (length starts - ring.oldest), held)

    pub current_first-files_of : current_first files ≡ first_of_file starts history (length starts)
    current_first-files_of =
        count_in-records_by_file spaces history starts fit ring.oldest (length starts - ring.oldest) some ∙ ap (first_of_file starts history) all_begun

    -- the next record comes behind the history
    pub next_of-files_of : next_of files ≡ suc (length history)
    next_of-files_of = omega (
      arith,
      current_first-files_of,
      length-file_records spaces history starts fit (length starts) (omega (arith, some, held)),
      first_behind spaces history starts fit (length starts + 1) (omega arith),
    )

    pub end_of-files_of : end_of files ≡ length history
    end_of-files_of = omega (arith, next_of-files_of)

    -- and the last time is the history's
    pub last_time_in-files_of : last_time_in files ≡ last_time history
    last_time_in-files_of =
        ap (λ (n : ℕ). time_at n (file_records starts history (length starts)))
        (sym (time_before-behind spaces history starts fit ring.oldest (length starts - ring.oldest) some) ∙ ap (time_before starts history) all_begun)
        ∙ sym (last_time-current spaces history starts fit (omega (arith, some, held)))

not_not : (b : Bool) → not b ≡ true → b ≡ false
not_not true is = absurd (true≢false (sym is))
not_not false is = refl

-- What a fit site's log holds is what the log's disk may hold, where its layout takes it.
pub fit_files : (spaces : List Space) (history : History) (starts : List ℕ) (lines : List Line) (ring : Ring) → FitHistory spaces history starts
    → FitRing history starts lines ring → FitsLayout starts history → AreFiles (files_of starts history ring)
fit_files spaces history starts lines ring fit holds layout =
    let count : ℕ = length starts - ring.oldest in
    let id : current_id (files_of starts history ring) ≡ length starts = current_id-files_of spaces history starts fit ring holds.oldest holds.held in
    let first : current_first (files_of starts history ring) ≡ first_of_file starts history (length starts) =
    current_first-files_of spaces history starts fit ring holds.oldest holds.held in
    record {
      some = holds.oldest;
      first = first_reaches spaces history starts fit ring.oldest holds.oldest holds.held;
      few = omega (arith, length-records_by_file spaces history starts fit ring.oldest count, holds.few);
      past = fit_past spaces history starts fit ring.oldest count holds.oldest (omega (arith, holds.held)) layout.records;
      current = subst (λ (n : ℕ). FitFile n (file_records starts history (length starts))) (sym first)
          (fit_file spaces history starts fit (length starts) (omega (arith, holds.oldest, holds.held)) (omega arith) layout.records);
      filled = λ is. omega (
        arith,
        holds.filled (not_not ring.is_open is),
        length-file_records spaces history starts fit (length starts) (omega (arith, holds.oldest, holds.held)),
      );
      dropped = omega (arith, holds.dropped);
      backed = omega (arith, id, holds.backed);
      place = omega (arith, first, layout.place);
      positions = omega (arith, next_of-files_of spaces history starts fit ring holds.oldest holds.held, fit.few);
      before = time_bounded spaces history starts fit (first_of_file starts history ring.oldest - 1) layout.records;
    }
