-- What is known of the files of a fit site: those that have records, and these as the log has them.
use Rattle.std.specs.Prelude.{◌≡◌, ℕ, zero, suc, ◌+◌, ◌-◌, ◌==◌, ◌<◌, ◌≤◌, List, [], ◌∷◌, length, map, filter, take, fold, Bool, true, false, ◌&&◌, nat_lt, nat_le, if◌then◌else◌, Option, None, Some, Contains}
use Rattle.std.specs.List.{AllByRecursion}
use Rattle.std.specs.Option.{option_or, option_map}
use Rattle.std.proofs.Common.{arith, refl, sym, ap, subst, ◌∙◌, ⊎_elim}
use Rattle.std.proofs.lemmas.Bool.{cases_lt, false≢true}
use Rattle.std.proofs.lemmas.Bool.Decides.{nat_tests}
use Rattle.log_history.specs.History.{History, entry_at}
use Rattle.log_history.specs.Transactions.{last_time}
use Rattle.site_headers.specs.Heads.{Head}
use Rattle.backup_lines.specs.Lines.{Span, Line, archived, logged, gone, is_live, span_in, all_spans}
use Rattle.backup_lines.specs.Spans.{is_newer, newest, marked, held_span, spans_of_file, span_of}
use Rattle.site_worlds.specs.Worlds.{Store, Ring, Site}
use Rattle.site_worlds.specs.Files.{first_of_file, last_of_file, HasRecords, target_of, Agrees, IsLogged}
use Rattle.site_worlds.specs.Fitness.{FitLine, FitFiles, FitRing, FitLost, IsFitSite}
use Rattle.world_laws.specs.ListLaws.{all_filter, contains_cases, contains_here, contains_later, none_some, some_same}
use Rattle.world_laws.specs.LinesLaws.{first_some, span_fits}
use Rattle.world_laws.specs.RingLaws.{ring_of}
use Rattle.site_courses.specs.Backups.{span_at, files_from}
use Rattle.site_courses.specs.Plans.{held_files, backed_to}

-- a span says of a file what the log has of it
pub record IsSpanOf (site : Site) (file : ℕ) (span : Span) : Type 0 where
  pub same_file : span.file ≡ file
  pub first : span.first ≡ first_of_file site.starts site.history file
  pub last : span.last ≡ last_of_file site.starts site.history file
  pub target : span.reset ≡ target_of (entry_at site.history (first_of_file site.starts site.history file))
  pub before : span.before ≡ last_time (take (first_of_file site.starts site.history file - 1) site.history)
  pub time : span.time ≡ last_time (take (last_of_file site.starts site.history file) site.history)

-- the newest of spans

module _ (P : Span → Type 0) where
  abbrev newer_of : Option Span → Span → Option Span
  newer_of best span = if is_newer span best then Some span else best

  newest_from : (spans : List Span) (best : Option Span) (span : Span) → AllByRecursion P spans → ((s : Span) → best ≡ Some s → P s)
      → fold newer_of best spans ≡ Some span → P span
  newest_from [] best span all holds is = holds span is
  newest_from (x ∷ spans) best span all holds is = newest_from spans (newer_of best x) span all.1 (by (is_newer x best)) is
    where
      by : (b : Bool) (s : Span) → (if b then Some x else best) ≡ Some s → P s
      by true s same = subst P (some_same same) all.0
      by false s same = holds s same

  newest_has : (spans : List Span) (span : Span) → AllByRecursion P spans → newest spans ≡ Some span → P span
  newest_has spans span all is = newest_from spans None span all (λ s none. absurd (none_some none)) is

  filtered_has : (test : Span → Bool) (spans : List Span) → AllByRecursion P spans → AllByRecursion (λ s. (test s ≡ true) × P s) (filter test spans)
  filtered_has test [] all = tt
  filtered_has test (x ∷ spans) all = by (test x) refl (filtered_has test spans all.1)
    where
      by : (b : Bool) → test x ≡ b → AllByRecursion (λ s. (test s ≡ true) × P s) (filter test spans)
          → AllByRecursion (λ s. (test s ≡ true) × P s) (if b then x ∷ filter test spans else filter test spans)
      by true is rest = ((is, all.0), rest)
      by false is rest = rest

newest_stays : (spans : List Span) (best : Span) → (span : Span) × (fold (λ b s. if is_newer s b then Some s else b) (Some best) spans ≡ Some span)
newest_stays [] best = (best, refl)
newest_stays (x ∷ spans) best = by (is_newer x (Some best)) (newest_stays spans x) (newest_stays spans best)
  where
    by : (b : Bool) → (span : Span) × (fold (λ b s. if is_newer s b then Some s else b) (Some x) spans ≡ Some span)
        → (span : Span) × (fold (λ b s. if is_newer s b then Some s else b) (Some best) spans ≡ Some span)
        → (span : Span) × (fold (λ b s. if is_newer s b then Some s else b) (if b then Some x else Some best) spans ≡ Some span)
    by true new old = new
    by false new old = old

-- lines

spans_agree : (head : Head) (history : History) (starts : List ℕ) (store : Store) (all lines : List Line)
    → AllByRecursion (FitLine head history starts store all) lines → AllByRecursion (λ span. Agrees history starts span) (all_spans lines)
spans_agree head history starts store all [] fit = tt
spans_agree head history starts store all (archived archive ∷ lines) fit = spans_agree head history starts store all lines fit.1
spans_agree head history starts store all (logged span ∷ lines) fit = (fit.0.agrees, spans_agree head history starts store all lines fit.1)
spans_agree head history starts store all (gone copy ∷ lines) fit = spans_agree head history starts store all lines fit.1

logged_some : (lines : List Line) (span : Span) (file : ℕ) → Contains lines (logged span) → span.file ≡ file
    → (one : Span) × (others : List Span) × (spans_of_file lines file ≡ one ∷ others)
logged_some [] span file has same = absurd (omega (arith, has.1))
logged_some (archived archive ∷ lines) span file has same = ⊎_elim
    (λ it. absurd (none_some (ap span_in it)))
    (λ later. logged_some lines span file later same)
    (contains_cases (logged span) (archived archive) lines has)
logged_some (gone copy ∷ lines) span file has same = ⊎_elim
    (λ it. absurd (none_some (ap span_in it)))
    (λ later. logged_some lines span file later same)
    (contains_cases (logged span) (gone copy) lines has)
logged_some (logged other ∷ lines) span file has same = by (other.file == file) refl (λ later. logged_some lines span file later same)
  where
    by : (b : Bool) → (other.file == file) ≡ b
        → (Contains lines (logged span) → (one : Span) × (others : List Span) × (spans_of_file lines file ≡ one ∷ others))
        → (one : Span) × (others : List Span) × ((if b then other ∷ spans_of_file lines file else spans_of_file lines file) ≡ one ∷ others)
    by true is later = (other, spans_of_file lines file, refl)
    by false isnt later = ⊎_elim
        (λ it. absurd (false≢true (sym isnt ∙ itself it)))
        later
        (contains_cases (logged span) (logged other) lines has)
      where
        itself : logged other ≡ logged span → (other.file == file) ≡ true
        itself it = let e : other.file ≡ file = ap (λ (s : Span). s.file) (some_same (ap span_in it)) ∙ same in grind (arith, nat_tests, e)

module _ (site : Site) (fit : IsFitSite site) (file : ℕ) where
  abbrev by_live : Option Span
  by_live = option_map (marked false) (newest (filter (λ span. is_live site.lines span.copy) (spans_of_file site.lines file)))

  abbrev by_any : Option Span
  by_any = option_map (marked true) (newest (spans_of_file site.lines file))

  -- a line of the file
  record IsLineOf (span : Span) : Type 0 where
    same_file : span.file ≡ file
    agrees : Agrees site.history site.starts span

  lines_of_file : AllByRecursion IsLineOf (spans_of_file site.lines file)
  lines_of_file = each (all_spans site.lines) (spans_agree site.head site.history site.starts site.store site.lines site.lines fit.lines.each)
    where
      each : (spans : List Span) → AllByRecursion (λ span. Agrees site.history site.starts span) spans → AllByRecursion IsLineOf (filter (λ span. span.file == file) spans)
      each spans all = weaker (filter (λ span. span.file == file) spans) (filtered_has (λ span. Agrees site.history site.starts span) (λ span. span.file == file) spans all)
        where
          weaker : (list : List Span) → AllByRecursion (λ s. ((s.file == file) ≡ true) × Agrees site.history site.starts s) list → AllByRecursion IsLineOf list
          weaker [] these = tt
          weaker (s ∷ list) these = (record { same_file = grind (arith, nat_tests, these.0.0); agrees = these.0.1 }, weaker list these.1)

  is_span : (b : Bool) (span : Span) → IsLineOf span → IsSpanOf site file (marked b span)
  is_span b span is = subst (λ (f : ℕ). IsSpanOf site f (marked b span)) is.same_file (record {
    same_file = refl;
    first = is.agrees.first;
    last = is.agrees.last;
    target = is.agrees.target ∙ ap (λ (n : ℕ). target_of (entry_at site.history n)) is.agrees.first;
    before = is.agrees.before ∙ ap (λ (n : ℕ). last_time (take (n - 1) site.history)) is.agrees.first;
    time = is.agrees.time ∙ ap (λ (n : ℕ). last_time (take n site.history)) is.agrees.last;
  })

  line_filled : (span : Span) → IsLineOf span → HasRecords site.starts site.history file
  line_filled span is = subst (HasRecords site.starts site.history) is.same_file (omega (
    arith,
    is.agrees.some,
    is.agrees.first,
    is.agrees.last,
    first_some site.head.spaces site.history site.starts fit.history (span.file + 1) (omega arith),
  ))

  told_by_lines : IsLogged site.lines file → (span : Span) × (option_or by_live by_any ≡ Some span) × IsSpanOf site file span
  told_by_lines logged_there = by (newest (filter (λ span. is_live site.lines span.copy) (spans_of_file site.lines file))) refl
    where
      some : (one : Span) × (others : List Span) × (spans_of_file site.lines file ≡ one ∷ others)
      some = logged_some site.lines logged_there.0 file logged_there.1 logged_there.2

      last : (span : Span) × (newest (spans_of_file site.lines file) ≡ Some span)
      last = subst (λ (l : List Span). (span : Span) × (newest l ≡ Some span)) (sym some.2) (newest_stays some.1 some.0)

      by : (o : Option Span) → newest (filter (λ span. is_live site.lines span.copy) (spans_of_file site.lines file)) ≡ o
          → (span : Span) × (option_or (option_map (marked false) o) by_any ≡ Some span) × IsSpanOf site file span
      by (Some span) is = (
        marked false span,
        refl,
        is_span false span (newest_has IsLineOf (filter (λ span. is_live site.lines span.copy) (spans_of_file site.lines file)) span
            (all_filter IsLineOf (λ span. is_live site.lines span.copy) (spans_of_file site.lines file) lines_of_file) is),
      )
      by None is = (
        marked true last.0,
        ap (option_map (marked true)) last.1,
        is_span true last.0 (newest_has IsLineOf (spans_of_file site.lines file) last.0 lines_of_file last.1),
      )

  not_told : (HasRecords site.starts site.history file → ⊥) → option_or by_live by_any ≡ None
  not_told empty = by (newest (filter (λ span. is_live site.lines span.copy) (spans_of_file site.lines file))) refl
    where
      any : (o : Option Span) → newest (spans_of_file site.lines file) ≡ o → option_map (marked true) o ≡ None
      any None is = refl
      any (Some span) is = absurd (empty (line_filled span (newest_has IsLineOf (spans_of_file site.lines file) span lines_of_file is)))

      by : (o : Option Span) → newest (filter (λ span. is_live site.lines span.copy) (spans_of_file site.lines file)) ≡ o
          → option_or (option_map (marked false) o) by_any ≡ None
      by None is = any (newest (spans_of_file site.lines file)) refl
      by (Some span) is = absurd (empty (line_filled span
          (newest_has IsLineOf (filter (λ span. is_live site.lines span.copy) (spans_of_file site.lines file)) span
          (all_filter IsLineOf (λ span. is_live site.lines span.copy) (spans_of_file site.lines file) lines_of_file) is)))

-- held files

module _ (history : History) (starts : List ℕ) (file : ℕ) where
  abbrev held_from : ℕ → ℕ → List Span
  held_from k count = filter (λ span. nat_le span.first span.last) (map (λ f. span_at history starts f 0) (files_from k count))

  filled_is : (k : ℕ) → 1 ≤ first_of_file starts history (k + 1) → nat_le (first_of_file starts history k) (last_of_file starts history k) ≡ true → HasRecords starts history k
  filled_is k some is = let le : first_of_file starts history k ≤ last_of_file starts history k = grind (arith, nat_tests, is) in omega (arith, le, some)

  not_filled : (k : ℕ) → nat_le (first_of_file starts history k) (last_of_file starts history k) ≡ false → HasRecords starts history k → ⊥
  not_filled k isnt filled =
      let gt : last_of_file starts history k < first_of_file starts history k = grind (arith, nat_tests, isnt) in omega (arith, gt, filled)

  held_found : (backed k count : ℕ) → k ≤ file → file < k + count → backed < file → HasRecords starts history file
      → held_span (held_from k count) backed file ≡ Some (marked false (span_at history starts file 0))
  held_found backed k zero le lt behind filled = absurd (omega (arith, le, lt))
  held_found backed k (suc count) le lt behind filled = ⊎_elim
      (λ earlier. passed earlier (held_found backed (suc k) count (omega (arith, earlier)) (omega (arith, lt)) behind filled))
      (λ here. at_it (omega (arith, le, here)))
      (cases_lt k file)
    where
      other : (b : Bool) → k < file → held_span (held_from (suc k) count) backed file ≡ Some (marked false (span_at history starts file 0))
          → held_span (if b then span_at history starts k 0 ∷ held_from (suc k) count else held_from (suc k) count) backed file
          ≡ Some (marked false (span_at history starts file 0))
      other false earlier rest = rest
      other true earlier rest = by (k == file) refl
        where
          by : (c : Bool) → (k == file) ≡ c
              → (if c && nat_lt backed file then Some (marked false (span_at history starts k 0)) else held_span (held_from (suc k) count) backed file)
              ≡ Some (marked false (span_at history starts file 0))
          by true same = let e : k ≡ file = grind (arith, nat_tests, same) in absurd (omega (arith, e, earlier))
          by false isnt = rest

      passed : k < file → held_span (held_from (suc k) count) backed file ≡ Some (marked false (span_at history starts file 0))
          → held_span (held_from k (suc count)) backed file ≡ Some (marked false (span_at history starts file 0))
      passed earlier rest = other (nat_le (first_of_file starts history k) (last_of_file starts history k)) earlier rest

      at_it : k ≡ file → held_span (held_from k (suc count)) backed file ≡ Some (marked false (span_at history starts file 0))
      at_it same = by (nat_le (first_of_file starts history k) (last_of_file starts history k)) refl
        where
          by : (b : Bool) → nat_le (first_of_file starts history k) (last_of_file starts history k) ≡ b
              → held_span (if b then span_at history starts k 0 ∷ held_from (suc k) count else held_from (suc k) count) backed file
              ≡ Some (marked false (span_at history starts file 0))
          by false isnt = absurd (not_filled k isnt (subst (HasRecords starts history) (sym same) filled))
          by true is =
              ap (λ (c : Bool). if c then Some (marked false (span_at history starts k 0)) else held_span (held_from (suc k) count) backed file) tests
              ∙ ap (λ (f : ℕ). Some (marked false (span_at history starts f 0))) same
            where
              tests : ((k == file) && nat_lt backed file) ≡ true
              tests = grind (arith, nat_tests, same, behind)

  held_none : (spans : List Span) (backed : ℕ) → ((span : Span) → Contains spans span → span.file ≡ file → backed < file → ⊥) → held_span spans backed file ≡ None
  held_none [] backed none = refl
  held_none (span ∷ spans) backed none =
      by (span.file == file) refl (nat_lt backed file) refl (held_none spans backed (λ s has. none s (contains_later s span spans has)))
    where
      by : (b : Bool) → (span.file == file) ≡ b → (c : Bool) → nat_lt backed file ≡ c → held_span spans backed file ≡ None
          → (if b && c then Some (marked false (record span { copy = 0 })) else held_span spans backed file) ≡ None
      by false is c it rest = rest
      by true is false it rest = rest
      by true is true it rest = absurd (none span (contains_here span spans) (grind (arith, nat_tests, is)) (grind (arith, nat_tests, it)))

  -- a file without records isn't among those that are held with some
  held_filled : (k count : ℕ) → ((f : ℕ) → k ≤ f → f < k + count → 1 ≤ first_of_file starts history (f + 1))
      → (span : Span) → Contains (held_from k count) span → span.file ≡ file → HasRecords starts history file
  held_filled k zero some span has same = absurd (omega (arith, has.1))
  held_filled k (suc count) some span has same =
      by (nat_le (first_of_file starts history k) (last_of_file starts history k)) refl has
      (λ rest. held_filled (suc k) count (λ f le lt. some f (omega (arith, le)) (omega (arith, lt))) span rest same)
    where
      by : (b : Bool) → nat_le (first_of_file starts history k) (last_of_file starts history k) ≡ b
          → Contains (if b then span_at history starts k 0 ∷ held_from (suc k) count else held_from (suc k) count) span
          → (Contains (held_from (suc k) count) span → HasRecords starts history file) → HasRecords starts history file
      by false isnt there later = later there
      by true is there later = ⊎_elim
          (λ it. subst (HasRecords starts history) (ap (λ (s : Span). s.file) it ∙ same) (filled_is k (some k (omega arith) (omega arith)) is))
          later
          (contains_cases span (span_at history starts k 0) (held_from (suc k) count) there)

-- what is known of a file

-- It has records, and they are known; or it has none.
pub data IsKnown (site : Site) (file : ℕ) (known : Option Span) : Type 0 where
  with_records : (span : Span) (is : known ≡ Some span) (tells : IsSpanOf site file span) (filled : HasRecords site.starts site.history file) → IsKnown site file known
  without_records : (none : known ≡ None) (empty : HasRecords site.starts site.history file → ⊥) → IsKnown site file known

abbrev pub known_by : Site → Option Ring → ℕ → Option Span
known_by site ring file = span_of site.lines (held_files site ring) (backed_to ring) file

module _ (site : Site) (fit : IsFitSite site) (file : ℕ) where
  told_filled : IsLogged site.lines file → HasRecords site.starts site.history file
  told_filled logged_there =
      let agrees = (span_fits site.head site.history site.starts site.store site.lines logged_there.0 fit.lines logged_there.1).agrees in
      subst (HasRecords site.starts site.history) logged_there.2 (omega (
        arith,
        agrees.some,
        agrees.first,
        agrees.last,
        first_some site.head.spaces site.history site.starts fit.history (logged_there.0.file + 1) (omega arith),
      ))

  told_is : (held : Option Span) → held ≡ None → IsLogged site.lines file → IsKnown site file (option_or held (option_or (by_live site fit file) (by_any site fit file)))
  told_is held none logged_there =
      let told = told_by_lines site fit file logged_there in
      with_records told.0 (ap (λ (o : Option Span). option_or o (option_or (by_live site fit file) (by_any site fit file))) none ∙ told.1) told.2 (told_filled logged_there)

  module _ (ring : Ring) (holds : FitRing site.history site.starts site.lines ring) (some : 1 ≤ file) (there : file ≤ length site.starts) where
    abbrev held : List Span
    held = held_from site.history site.starts file ring.oldest (suc (length site.starts) - ring.oldest)

    saved_is : file ≤ ring.backed → IsKnown site file (known_by site (Some ring) file)
    saved_is le = told_is (held_span held ring.backed file) (held_none site.history site.starts file held ring.backed (λ span has same behind. omega (arith, le, behind))) (holds.saved file some le)

    unsaved_is : ring.backed < file → IsKnown site file (known_by site (Some ring) file)
    unsaved_is lt = ⊎_elim filled empty (cases_lt (first_of_file site.starts site.history file) (first_of_file site.starts site.history (file + 1)))
      where
        filled : HasRecords site.starts site.history file → IsKnown site file (known_by site (Some ring) file)
        filled has = with_records (marked false (span_at site.history site.starts file 0))
            (ap (λ (o : Option Span). option_or o (option_or (by_live site fit file) (by_any site fit file)))
            (held_found site.history site.starts file ring.backed ring.oldest (suc (length site.starts) - ring.oldest)
            (omega (arith, holds.dropped, lt)) (omega (arith, there, holds.held)) lt has))
            (record { same_file = refl; first = refl; last = refl; target = refl; before = refl; time = refl })
            has

        empty : first_of_file site.starts site.history (file + 1) ≤ first_of_file site.starts site.history file → IsKnown site file (known_by site (Some ring) file)
        empty le = without_records
            (ap (λ (o : Option Span). option_or o (option_or (by_live site fit file) (by_any site fit file)))
            (held_none site.history site.starts file held ring.backed (λ span has same behind. not_filled_here (held_filled site.history site.starts file ring.oldest (suc (length site.starts) - ring.oldest)
            (λ f from within. first_some site.head.spaces site.history site.starts fit.history (f + 1) (omega arith)) span has same)))
            ∙ not_told site fit file not_filled_here)
            not_filled_here
          where
            not_filled_here : HasRecords site.starts site.history file → ⊥
            not_filled_here has = omega (arith, has, le)

  -- Of each file it is known whether it has records, and they are known as the log has them.
  pub file_is_known : 1 ≤ file → file ≤ length site.starts → IsKnown site file (known_by site site.ring file)
  file_is_known some there = by site.ring refl
    where
      by : (ring : Option Ring) → site.ring ≡ ring → IsKnown site file (known_by site ring file)
      by None is =
          let lost : FitLost site.history site.starts site.lines = subst (λ (o : Option Ring). FitFiles site.history site.starts site.lines o) is fit.files in
          told_is None refl (lost.saved file some there)
      by (Some ring) is = ⊎_elim
          (λ lt. unsaved_is ring (ring_of site ring is fit) some there lt)
          (λ le. saved_is ring (ring_of site ring is fit) some there le)
          (cases_lt ring.backed file)
