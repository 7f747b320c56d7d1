-- The position of a point, worked out from the whole history, is the one that the lines of log files lead to.
use Rattle.std.specs.Prelude.{◌≡◌, ℕ, zero, suc, ◌+◌, ◌-◌, ◌==◌, ◌<◌, ◌≤◌, List, [], ◌∷◌, length, take, drop, fold, Bool, true, false, nat_lt, cond, if◌then◌else◌, Option, Some}
use Rattle.std.specs.List.{filter_map, prefix_len, cons_option}
use Rattle.std.proofs.Common.{arith, refl, sym, ap, subst, ◌∙◌, ⊎_elim}
use Rattle.std.proofs.lemmas.Bool.{cases_lt, false≢true}
use Rattle.std.proofs.lemmas.Bool.Decides.{nat_tests}
use Rattle.log_history.specs.Transactions.{last_time}
use Rattle.backup_lines.specs.Lines.{Span}
use Rattle.backup_lines.specs.Spans.{Point, at_end, at_file, at_time, Found, at_position, look_in, no_such_log, end_of_file, by_time, find_point, is_by}
use Rattle.std.proofs.lemmas.List.Sums.{prefix_len-le-length}
use Rattle.site_worlds.specs.Worlds.{Site}
use Rattle.site_worlds.specs.Objects.{records_in}
use Rattle.site_worlds.specs.Files.{first_of_file, last_of_file, HasRecords}
use Rattle.site_worlds.specs.Fitness.{IsFitSite}
use Rattle.world_laws.specs.GrowthLaws.{first_beyond}
use Rattle.site_courses.specs.Backups.{files_from}
use Rattle.site_courses.specs.Plans.{spans_of, by_time_at, position_of}
use Rattle.course_laws.specs.AppendingLaws.{above, not_above}
use Rattle.point_laws.specs.TimeLaws.{time_behind, time_before_it}
use Rattle.point_laws.specs.FileLaws.{IsSpanOf, IsKnown, with_records, without_records, known_by, file_is_known}

-- A time lies in a file: the position is that of the last of those records at its head that are by the time, or the one before the file.
pub record LiesIn (site : Site) (time file position : ℕ) : Type 0 where
  pub span : Span
  pub is_known : known_by site site.ring file ≡ Some span
  pub from : span.first ≤ suc position
  pub before : position < span.last
  pub front : suc position ≡ span.first + prefix_len (is_by time) (records_in site.history span)

-- What is found by the lines of log files is the position that the whole history gives; and only a file without records isn't found.
abbrev pub Agrees : Site → Point → Found → Type 0
Agrees site point (at_position position) = position ≡ position_of point site
Agrees site (at_time time) (look_in file) = LiesIn site time file (position_of (at_time time) site)
Agrees site (at_file file) (no_such_log other) = (other ≡ file) × (1 ≤ file → file ≤ length site.starts → HasRecords site.starts site.history file → ⊥)
Agrees site point found = ⊥

-- a front that ends within so many
prefix_take : {X : Type 0} (test : X → Bool) (n : ℕ) (xs : List X) → prefix_len test xs < n → prefix_len test (take n xs) ≡ prefix_len test xs
prefix_take test zero xs lt = absurd (omega (arith, lt))
prefix_take test (suc n) [] lt = refl
prefix_take test (suc n) (x ∷ xs) lt = by (test x) lt (λ less. prefix_take test n xs less)
  where
    by : (b : Bool) → cond b (1 + prefix_len test xs) 0 < suc n → (prefix_len test xs < n → prefix_len test (take n xs) ≡ prefix_len test xs)
        → cond b (1 + prefix_len test (take n xs)) 0 ≡ cond b (1 + prefix_len test xs) 0
    by true less later = omega (arith, later (omega (arith, less)))
    by false less later = refl

module _ (site : Site) (fit : IsFitSite site) where
  abbrev first_of : ℕ → ℕ
  first_of file = first_of_file site.starts site.history file

  abbrev known : ℕ → Option Span
  known file = known_by site site.ring file

  abbrev spans_from : ℕ → ℕ → List Span
  spans_from k count = filter_map known (files_from k count)

  next_of : (k : ℕ) → first_of (k + 1) ≡ first_of (suc k)
  next_of k = ap first_of (omega arith)

  -- behind the last file
  beyond : (k : ℕ) → k ≡ suc (length site.starts) → first_of k ≡ suc (length site.history)
  beyond k is = first_beyond site.starts (length site.history) (k - 1) (omega (arith, is))

  -- a file without records begins where the next one does
  empty_file : (k : ℕ) → 1 ≤ k → k ≤ length site.starts → (HasRecords site.starts site.history k → ⊥) → first_of k ≡ first_of (suc k)
  empty_file k some le empty = ⊎_elim
      (λ lt. absurd (empty (fit.history.rising k some lt)))
      (λ last. omega (arith, not_more, fit.history.inside k, beyond (suc k) (omega (arith, le, last))))
      (cases_lt k (length site.starts))
    where
      not_more : first_of (suc k) ≤ first_of k
      not_more = ⊎_elim (λ lt. absurd (empty (omega (arith, lt, next_of k)))) (λ ge. ge) (cases_lt (first_of k) (first_of (suc k)))

  -- the end of the files

  end_from : (k count last : ℕ) → 1 ≤ k → k + count ≡ suc (length site.starts) → suc last ≡ first_of k
      → suc (fold (λ l span. span.last) last (spans_from k count)) ≡ suc (length site.history)
  end_from k zero last some all at = at ∙ beyond k (omega (arith, all))
  end_from k (suc count) last some all at = by (known k) (file_is_known site fit k some (omega (arith, all)))
      (λ l next. end_from (suc k) count l (omega arith) (omega (arith, all)) next)
    where
      by : (o : Option Span) → IsKnown site k o → ((l : ℕ) → suc l ≡ first_of (suc k) → suc (fold (λ n span. span.last) l (spans_from (suc k) count)) ≡ suc (length site.history))
          → suc (fold (λ n span. span.last) last (cons_option o (spans_from (suc k) count))) ≡ suc (length site.history)
      by o (with_records span is tells filled) later = subst (λ (p : Option Span). suc (fold (λ n s. s.last) last (cons_option p (spans_from (suc k) count))) ≡ suc (length site.history)) (sym is)
          (later span.last (omega (arith, tells.last, next_of k, filled)))
      by o (without_records none empty) later = subst (λ (p : Option Span). suc (fold (λ n s. s.last) last (cons_option p (spans_from (suc k) count))) ≡ suc (length site.history)) (sym none)
          (later last (at ∙ empty_file k some (omega (arith, all)) empty))

  -- a file by its number

  file_from : (file k count : ℕ) → 1 ≤ k → k + count ≡ suc (length site.starts) → (file < k → HasRecords site.starts site.history file → 1 ≤ file → ⊥)
      → Agrees site (at_file file) (end_of_file file (spans_from k count))
  file_from file k zero some all early = (refl, λ one there filled. early (omega (arith, there, all)) filled one)
  file_from file k (suc count) some all early = by (known k) (file_is_known site fit k some (omega (arith, all)))
      (λ none. file_from file (suc k) count (omega arith) (omega (arith, all)) none)
    where
      here : (span : Span) → IsSpanOf site k span → ((file < suc k → HasRecords site.starts site.history file → 1 ≤ file → ⊥) → Agrees site (at_file file) (end_of_file file (spans_from (suc k) count)))
          → (b : Bool) → (span.file == file) ≡ b → Agrees site (at_file file) (if b then at_position span.last else end_of_file file (spans_from (suc k) count))
      here span tells later true is =
          let e : span.file ≡ file = grind (arith, nat_tests, is) in
          tells.last ∙ ap (last_of_file site.starts site.history) (sym tells.same_file ∙ e)
      here span tells later false isnt = later (λ lt filled one. ⊎_elim
          (λ before. early before filled one)
          (λ at. not_it (omega (arith, tells.same_file, lt, at)))
          (cases_lt file k))
        where
          not_it : span.file ≡ file → ⊥
          not_it same = false≢true (sym isnt ∙ itself)
            where
              itself : (span.file == file) ≡ true
              itself = grind (arith, nat_tests, same)

      by : (o : Option Span) → IsKnown site k o
          → ((file < suc k → HasRecords site.starts site.history file → 1 ≤ file → ⊥) → Agrees site (at_file file) (end_of_file file (spans_from (suc k) count)))
          → Agrees site (at_file file) (end_of_file file (cons_option o (spans_from (suc k) count)))
      by o (with_records span is tells filled) later = subst (λ (p : Option Span). Agrees site (at_file file) (end_of_file file (cons_option p (spans_from (suc k) count)))) (sym is)
          (here span tells later (span.file == file) refl)
      by o (without_records none empty) later = subst (λ (p : Option Span). Agrees site (at_file file) (end_of_file file (cons_option p (spans_from (suc k) count)))) (sym none)
          (later (λ lt filled one. ⊎_elim
          (λ before. early before filled one)
          (λ at. empty (subst (HasRecords site.starts site.history) (omega (arith, lt, at)) filled))
          (cases_lt file k)))

  -- a time

  module _ (time : ℕ) (k last : ℕ) (some : 1 ≤ k) (le : k ≤ length site.starts) (at : suc last ≡ first_of k) (by_then : last_time (take last site.history) ≤ time)
      (span : Span) (is : known k ≡ Some span) (tells : IsSpanOf site k span) (filled : HasRecords site.starts site.history k) where
    position : ℕ
    position = by_time_at time site.history

    within : span.last ≤ length site.history
    within = omega (arith, tells.last, fit.history.inside (k + 1))

    further : by_time_at time site.history ≡ last + prefix_len (is_by time) (drop last site.history)
    further = time_behind site.history last time (omega (arith, at, fit.history.inside k)) fit.history.order by_then

    begins : span.first ≡ suc last
    begins = tells.first ∙ sym at

    late : nat_lt time span.before ≡ false
    late = grind (arith, nat_tests, before_it)
      where
        before_it : span.before ≤ time
        before_it = omega (arith, tells.before, ap (λ (n : ℕ). last_time (take (n - 1) site.history)) at, by_then, ap (λ (n : ℕ). last_time (take n site.history)) one)
          where
            one : suc last - 1 ≡ last
            one = omega arith

    lies : nat_lt time span.time ≡ true → LiesIn site time k (by_time_at time site.history)
    lies passes = record {
      span = span;
      is_known = is;
      from = omega (arith, begins, further);
      before = early;
      front = omega (
        arith,
        begins,
        further,
        prefix_take (is_by time) (span.last + 1 - span.first) (drop last site.history) (omega (arith, begins, further, early)),
        ap (λ (n : ℕ). prefix_len (is_by time) (take (span.last + 1 - span.first) (drop n site.history))) one,
      );
    }
      where
        early : by_time_at time site.history < span.last
        early = time_before_it site.history span.last time within
            (omega (arith, tells.time, ap (λ (n : ℕ). last_time (take n site.history)) tells.last, above time span.time passes))

        one : span.first - 1 ≡ last
        one = omega (arith, begins)

  time_from : (time k count last : ℕ) → 1 ≤ k → k + count ≡ suc (length site.starts) → suc last ≡ first_of k → last_time (take last site.history) ≤ time
      → Agrees site (at_time time) (by_time time last (spans_from k count))
  time_from time k zero last some all at by_then =
      let is : last ≡ length site.history = omega (arith, at, beyond k (omega (arith, all))) in
      omega (
        arith,
        is,
        time_behind site.history last time (omega (arith, is)) fit.history.order by_then,
        prefix_len-le-length (is_by time) site.history,
      )
  time_from time k (suc count) last some all at by_then = by (known k) refl (file_is_known site fit k some (omega (arith, all)))
      (λ l next early. time_from time (suc k) count l (omega arith) (omega (arith, all)) next early)
    where
      there : k ≤ length site.starts
      there = omega (arith, all)

      here : (span : Span) → known k ≡ Some span → IsSpanOf site k span → HasRecords site.starts site.history k
          → ((l : ℕ) → suc l ≡ first_of (suc k) → last_time (take l site.history) ≤ time → Agrees site (at_time time) (by_time time l (spans_from (suc k) count)))
          → (b : Bool) → nat_lt time span.time ≡ b
          → Agrees site (at_time time) (if b then (if nat_lt time span.before then at_position (span.first - 1) else look_in span.file) else by_time time span.last (spans_from (suc k) count))
      here span is tells filled later true passes =
          subst (λ (c : Bool). Agrees site (at_time time) (if c then at_position (span.first - 1) else look_in span.file))
          (sym (late time k last some there at by_then span is tells filled))
          (subst (λ (f : ℕ). LiesIn site time f (by_time_at time site.history)) (sym tells.same_file) (lies time k last some there at by_then span is tells filled passes))
      here span is tells filled later false passes = later span.last (omega (arith, tells.last, next_of k, filled))
          (omega (arith, tells.time, ap (λ (n : ℕ). last_time (take n site.history)) tells.last, not_above time span.time passes))

      by : (o : Option Span) → known k ≡ o → IsKnown site k o
          → ((l : ℕ) → suc l ≡ first_of (suc k) → last_time (take l site.history) ≤ time → Agrees site (at_time time) (by_time time l (spans_from (suc k) count)))
          → Agrees site (at_time time) (by_time time last (cons_option o (spans_from (suc k) count)))
      by o same (with_records span is tells filled) later =
          subst (λ (p : Option Span). Agrees site (at_time time) (by_time time last (cons_option p (spans_from (suc k) count)))) (sym is)
          (here span (same ∙ is) tells filled later (nat_lt time span.time) refl)
      by o same (without_records none empty) later =
          subst (λ (p : Option Span). Agrees site (at_time time) (by_time time last (cons_option p (spans_from (suc k) count)))) (sym none)
          (later last (at ∙ empty_file k some there empty) by_then)

  no_time : last_time (take 0 site.history) ≡ 0
  no_time = refl

  -- What the lines of log files lead to is the position of the point.
  pub found_is_position : (point : Point) → Agrees site point (find_point point (spans_of site))
  found_is_position at_end = omega (arith, end_from 1 (length site.starts) 0 (omega arith) (omega arith) (omega (arith, fit.history.begins)))
  found_is_position (at_file file) = file_from file 1 (length site.starts) (omega arith) (omega arith) (λ lt filled one. omega (arith, lt, one))
  found_is_position (at_time time) = time_from time 1 (length site.starts) 0 (omega arith) (omega arith) (omega (arith, fit.history.begins)) (omega (arith, no_time))
