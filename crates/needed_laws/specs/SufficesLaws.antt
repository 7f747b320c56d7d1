-- What is read for a restore gives the changes behind an archive.
use Rattle.std.specs.Prelude.{◌≡◌, ℕ, zero, suc, ◌+◌, ◌-◌, ◌<◌, ◌≤◌, List, [], ◌∷◌, ◌++◌, length, reverse, take, drop, map, filter, fold, Bool, true, false, ◌&&◌, ◌||◌, nat_lt, nat_le, if◌then◌else◌, Option, None, Some, Contains}
use Rattle.std.specs.Option.{option_map}
use Rattle.std.specs.List.{AllByRecursion, flat_map, list_any, filter_map, cons_option}
use Rattle.std.proofs.Common.{arith, refl, sym, ap, subst, ◌∙◌, ⊎_elim, length-take, take-append-drop}
use Rattle.std.proofs.lemmas.Bool.{cases_lt, false≢true}
use Rattle.std.proofs.lemmas.Bool.Decides.{nat_tests}
use Rattle.std.proofs.lemmas.List.{length-reverse, reverse-append}
use Rattle.std.proofs.lemmas.List.Elements.{Contains-append_left, Contains-append_right}
use Rattle.log_history.specs.History.{LogEntry, History, begin, write, commit, abort, reset, entry_at, positions}
use Rattle.log_history.specs.Live.{live, live_by, reset_points, reset_points_back}
use Rattle.log_history.specs.Transactions.{InOrder, InOrderBack, open_back, low_of, table_back}
use Rattle.log_history.specs.Effects.{Change, change_by, is_commit, effective, writes_back, writes_of, writes, page_at, with_change}
use Rattle.history_laws.specs.LiveLaws.{live_along, live_within}
use Rattle.history_laws.specs.PagesLaws.{changes_above, page_along}
use Rattle.backup_lines.specs.Lines.{Archive, Span, live_archives}
use Rattle.backup_lines.specs.Chains.{top_of}
use Rattle.backup_lines.specs.Plans.{SpacePlan, below, plan_of_space, planned_on}
use Rattle.restore_planner.specs.WantedLaws.{files_wanted}
use Rattle.site_worlds.specs.Worlds.{Site}
use Rattle.site_worlds.specs.Files.{first_of_file, low_at}
use Rattle.site_worlds.specs.Fitness.{IsFitSite}
use Rattle.world_laws.specs.ListLaws.{all_append, all_weaker, contains_cases, contains_here, contains_later, contains_none, none_some, some_same}
use Rattle.world_laws.specs.GrowthLaws.{live_before, first_beyond}
use Rattle.world_laws.specs.TableLaws.{low_at_rises}
use Rattle.site_courses.specs.Backups.{files_from}
use Rattle.site_courses.specs.Plans.{chain_at, chain_ids, logs_at, plans_at, spans_of}
use Rattle.point_laws.specs.TimeLaws.{order_front}
use Rattle.point_laws.specs.FileLaws.{IsKnown, with_records, without_records, known_by, file_is_known}
use Rattle.needed_laws.specs.Needed.{read_back, changes_read, is_read}
use Rattle.needed_laws.specs.BegunLaws.{begun, begun_some, ReadsSame, reads_same, live_from_begin, low_begun}

filtered : (test : ℕ → Bool) (P : ℕ → Type 0) (xs : List ℕ) → AllByRecursion P xs → AllByRecursion (λ x. (test x ≡ true) × P x) (filter test xs)
filtered test P [] all = tt
filtered test P (x ∷ xs) all = by (test x) refl (filtered test P xs all.1)
  where
    by : (b : Bool) → test x ≡ b → AllByRecursion (λ x. (test x ≡ true) × P x) (filter test xs)
        → AllByRecursion (λ x. (test x ≡ true) × P x) (if b then x ∷ filter test xs else filter test xs)
    by true is rest = ((is, all.0), rest)
    by false is rest = rest

flat_map_same : (f g : ℕ → List Change) (xs : List ℕ) → AllByRecursion (λ x. f x ≡ g x) xs → flat_map f xs ≡ flat_map g xs
flat_map_same f g [] all = refl
flat_map_same f g (x ∷ xs) all = ap (λ (l : List Change). l ++ flat_map f xs) all.0 ∙ ap (λ (l : List Change). g x ++ l) (flat_map_same f g xs all.1)

all_positions : (n : ℕ) → AllByRecursion (λ x. x ≤ n) (positions n)
all_positions zero = tt
all_positions (suc n) = all_append (λ x. x ≤ suc n) (positions n) (suc n ∷ [])
    (all_weaker (λ x. x ≤ n) (λ x. x ≤ suc n) (positions n) (λ x le. omega (arith, le)) (all_positions n)) (omega arith, tt)

or_true : (a b : Bool) → b ≡ true → (a || b) ≡ true
or_true true b is = refl
or_true false b is = is

-- elements of lists

any_of : {X : Type 0} (test : X → Bool) (xs : List X) (x : X) → Contains xs x → test x ≡ true → list_any test xs ≡ true
any_of test [] x has is = absurd (contains_none x has)
any_of test (y ∷ xs) x has is = ⊎_elim
    (λ it. ap (λ (b : Bool). b || list_any test xs) (ap test it ∙ is))
    (λ later. or_true (test y) (list_any test xs) (any_of test xs x later is))
    (contains_cases x y xs has)

given_by : {X Y : Type 0} (f : X → Option Y) (xs : List X) (x : X) (y : Y) → Contains xs x → f x ≡ Some y → Contains (filter_map f xs) y
given_by f [] x y has is = absurd (contains_none x has)
given_by {X} {Y} f (z ∷ xs) x y has is = ⊎_elim
    (λ it. subst (λ (o : Option Y). Contains (cons_option o (filter_map f xs)) y) (sym (ap f it ∙ is)) (contains_here y (filter_map f xs)))
    (λ later. further (f z) (given_by f xs x y later is))
    (contains_cases x z xs has)
  where
    further : (o : Option Y) → Contains (filter_map f xs) y → Contains (cons_option o (filter_map f xs)) y
    further None rest = rest
    further (Some other) rest = contains_later y other (filter_map f xs) rest

is_below : (n k : ℕ) → k < n → Contains (below n) k
is_below zero k lt = absurd (omega (arith, lt))
is_below (suc n) k lt = ⊎_elim
    (λ early. Contains-append_left (below n) (n ∷ []) k (is_below n k early))
    (λ late. let last : n ≡ k = omega (arith, lt, late) in
    Contains-append_right (below n) (n ∷ []) k (subst (λ (m : ℕ). Contains (n ∷ []) m) last (contains_here n [])))
    (cases_lt k n)

is_among_files : (file k count : ℕ) → k ≤ file → file < k + count → Contains (files_from k count) file
is_among_files file k zero le lt = absurd (omega (arith, le, lt))
is_among_files file k (suc count) le lt = ⊎_elim
    (λ later. contains_later file k (files_from (suc k) count) (is_among_files file (suc k) count (omega (arith, later)) (omega (arith, lt))))
    (λ here. let same : k ≡ file = omega (arith, le, here) in
    subst (λ (n : ℕ). Contains (k ∷ files_from (suc k) count) n) same (contains_here k (files_from (suc k) count)))
    (cases_lt k file)

-- a front one record longer
take_next : (history : History) (k : ℕ) (entry : LogEntry) → entry_at history (suc k) ≡ Some entry → take (suc k) history ≡ take k history ++ entry ∷ []
take_next [] k entry is = absurd (none_some is)
take_next (first ∷ history) zero entry is = ap (λ (e : LogEntry). e ∷ []) (some_same is)
take_next (first ∷ history) (suc k) entry is = ap (λ (h : History). first ∷ h) (take_next history k entry is)

-- the Writes of a Commit

-- All that is live at q from the oldest Begin on that is open at a is read.
abbrev pub ReadsAll : (ℕ → Bool) → History → ℕ → ℕ → Type 0
ReadsAll test history q a = (x : ℕ) → low_at history a ≤ x → 1 ≤ x → live history q x ≡ true → test x ≡ true

module _ (history : History) (order : InOrder history) (q a : ℕ) (test : ℕ → Bool) (reads : ReadsAll test history q a) where
  module _ (c txn time : ℕ) (is_commit_at : entry_at history c ≡ Some (commit txn time)) (is_live : live history q c ≡ true) (above : a < c) (within : c ≤ length history) where
    abbrev back : List LogEntry
    back = reverse (take (c - 1) history)

    long : length (reverse (take (c - 1) history)) ≡ c - 1
    long = omega (arith, length-reverse (take (c - 1) history), length-take (c - 1) history, within)

    next : suc (c - 1) ≡ c
    next = omega (arith, above)

    took : take c history ≡ take (c - 1) history ++ commit txn time ∷ []
    took = ap (λ (n : ℕ). take n history) (sym next)
        ∙ take_next history (c - 1) (commit txn time) (ap (entry_at history) next ∙ is_commit_at)

    turned : reverse (take c history) ≡ commit txn time ∷ back
    turned = ap reverse took ∙ reverse-append (take (c - 1) history) (commit txn time ∷ [])

    ordered : InOrderBack (commit txn time ∷ back)
    ordered = subst InOrderBack turned (order_front (take c history) (drop c history) (subst InOrder (sym (take-append-drop c history)) order))

    is_open : open_back txn back ≡ true
    is_open = ordered.0.0

    live_at_commit : (x : ℕ) → begun txn back ≤ x → x ≤ c → live history c x ≡ true
    live_at_commit x from le =
        ap (λ (h : History). live h c x) (sym (take-append-drop c history))
        ∙ live_before (take c history) (drop c history) c x (omega (arith, length-take c history, within))
        ∙ ap (λ (l : List LogEntry). live_by (reset_points_back l) c x) turned
        ∙ live_from_begin txn back c x is_open from le

    live_too : (x : ℕ) → begun txn back ≤ x → x ≤ c → live history q x ≡ true
    live_too x from le = live_along (reset_points history) q c x is_live le ∙ live_at_commit x from le

    low_le : low_at history a ≤ begun txn back
    low_le = omega (
      arith,
      low_at_rises history a (c - 1) (omega (arith, above)),
      ap (low_of (table_back back)) (length-reverse (take (c - 1) history)),
      low_begun txn back is_open,
    )

    all_read : ReadsSame test txn back
    all_read = reads_same test txn back is_open
        (λ x from le. reads x (omega (arith, low_le, from)) (omega (arith, begun_some txn back is_open, from)) (live_too x from (omega (arith, le, long))))

    same_writes : writes_of (entry_at history c) (read_back test back) ≡ writes history c
    same_writes =
        ap (λ (e : Option LogEntry). writes_of e (read_back test back)) is_commit_at
        ∙ ap (λ (b : Bool). if b then writes_back txn (read_back test back) else []) all_read.is_open
        ∙ all_read.writes
        ∙ sym (ap (λ (b : Bool). if b then writes_back txn back else []) is_open)
        ∙ sym (ap (λ (e : Option LogEntry). writes_of e back) is_commit_at)

  -- all changes

  changes_of : ℕ → List Change
  changes_of c = map (change_by c) (writes_of (entry_at history c) (read_back test (reverse (take (c - 1) history))))

  commit_there : (entry : Option LogEntry) → is_commit entry ≡ true → (txn : ℕ) × (time : ℕ) × (entry ≡ Some (commit txn time))
  commit_there None is = absurd (false≢true is)
  commit_there (Some (begin txn)) is = absurd (false≢true is)
  commit_there (Some (write txn patch)) is = absurd (false≢true is)
  commit_there (Some (commit txn time)) is = (txn, time, refl)
  commit_there (Some (abort txn)) is = absurd (false≢true is)
  commit_there (Some (reset restore target time)) is = absurd (false≢true is)

  both : (b c : Bool) → (b && c) ≡ true → (b ≡ true) × (c ≡ true)
  both true c is = (refl, is)
  both false c is = absurd (false≢true is)

  same_changes : (c : ℕ) → nat_lt a c ≡ true → (is_commit (entry_at history c) && live history q c) ≡ true → c ≤ length history
      → map (change_by c) (writes_of (entry_at history c) (read_back test (reverse (take (c - 1) history)))) ≡ map (change_by c) (writes history c)
  same_changes c lt is within =
      let parts = both (is_commit (entry_at history c)) (live history q c) is in
      let there = commit_there (entry_at history c) parts.0 in
      let above : a < c = grind (arith, nat_tests, lt) in
      ap (map (change_by c)) (same_writes c there.0 there.1 there.2 parts.1 above within)

  -- What is read gives the changes above a.
  pub read_suffices : changes_read test history q a ≡ changes_above history q a
  read_suffices = flat_map_same (λ c. map (change_by c) (writes_of (entry_at history c) (read_back test (reverse (take (c - 1) history)))))
      (λ c. map (change_by c) (writes history c)) (filter (λ x. nat_lt a x) (effective history q))
      (all_weaker (λ c. (nat_lt a c ≡ true) × (((is_commit (entry_at history c) && live history q c) ≡ true) × (c ≤ length history)))
      (λ c. map (change_by c) (writes_of (entry_at history c) (read_back test (reverse (take (c - 1) history)))) ≡ map (change_by c) (writes history c))
      (filter (λ x. nat_lt a x) (effective history q))
      (λ c is. same_changes c is.0 is.1.0 is.1.1)
      (filtered (λ c. nat_lt a c) (λ c. ((is_commit (entry_at history c) && live history q c) ≡ true) × (c ≤ length history)) (effective history q)
      (filtered (λ x. is_commit (entry_at history x) && live history q x) (λ c. c ≤ length history) (positions (length history)) (all_positions (length history)))))

-- the files of a site

module _ (site : Site) (fit : IsFitSite site) (to : ℕ) (reached : to ≤ length site.history) where
  abbrev first_of : ℕ → ℕ
  first_of file = first_of_file site.starts site.history file

  -- each position is in a file
  file_of : (x k count : ℕ) → k + count ≡ suc (length site.starts) → x ≤ length site.history → first_of k ≤ x
      → (file : ℕ) × (k ≤ file) × (file ≤ length site.starts) × (first_of file ≤ x) × (x < first_of (file + 1))
  file_of x k zero all within le = absurd (omega (arith, le, within, first_beyond site.starts (length site.history) (k - 1) (omega (arith, all))))
  file_of x k (suc count) all within le = ⊎_elim
      (λ here. (k, omega arith, omega (arith, all), le, here))
      (λ behind. let found = file_of x (suc k) count (omega (arith, all)) within (omega (arith, behind, ap first_of one)) in
      (found.0, omega (arith, found.1), found.2, found.3, found.4))
      (cases_lt x (first_of (k + 1)))
    where
      one : k + 1 ≡ suc k
      one = omega arith

  module _ (space : ℕ) (in_site : space < length site.head.spaces) (top : Archive) (is_top : top_of (chain_at site space to) ≡ Some top) where
    -- the space's chain is among those that are planned
    abbrev plan : SpacePlan
    plan = planned_on space (chain_ids site space to) top

    is_planned : Contains (plans_at site to) plan
    is_planned = given_by (plan_of_space (live_archives site.lines) (reset_points site.history) to) (below (length site.head.spaces)) space plan
        (is_below (length site.head.spaces) space in_site)
        (ap (option_map (planned_on space (chain_ids site space to))) is_top)

    -- a file with a live position behind the chain is among those that are wanted
    is_needed : (x : ℕ) (span : Span) → Contains (spans_of site) span → top.low ≤ x → live site.history to x ≡ true → span.first ≤ x → x ≤ span.last → is_read site to x ≡ true
    is_needed x span known low_le is from within =
        any_of (λ s. nat_le s.first x && nat_le x s.last) (logs_at site to) span
        ((files_wanted (reset_points site.history) to (plans_at site to) (spans_of site) span known).1 (record {
          plan = plan;
          planned = is_planned;
          needed = record { position = x; first = from; last = within; from = low_le; live = is };
        }))
        (grind (arith, nat_tests, from, within))

    -- Each position that is wanted behind the last archive of the space's chain is in a file that is needed.
    pub wanted_is_read : (x : ℕ) → top.low ≤ x → 1 ≤ x → live site.history to x ≡ true → is_read site to x ≡ true
    wanted_is_read x low_le some is = by (known_by site site.ring found.0) refl (file_is_known site fit found.0 (omega (arith, found.1)) found.2)
      where
        found : (file : ℕ) × (1 ≤ file) × (file ≤ length site.starts) × (first_of file ≤ x) × (x < first_of (file + 1))
        found = file_of x 1 (length site.starts) (omega arith) (omega (arith, live_within (reset_points site.history) to x is, reached)) (omega (arith, fit.history.begins, some))

        by : (o : Option Span) → known_by site site.ring found.0 ≡ o → IsKnown site found.0 o → is_read site to x ≡ true
        by o known (with_records span same tells filled) =
            is_needed x span
            (given_by (known_by site site.ring) (files_from 1 (length site.starts)) found.0 span (is_among_files found.0 1 (length site.starts) found.1 (omega (arith, found.2))) (known ∙ same))
            low_le is (omega (arith, tells.first, found.3)) (omega (arith, tells.last, found.4))
        by o known (without_records none empty) = absurd (empty (omega (arith, found.3, found.4)))

    -- The needed files suffice: with what they hold the pages at the last archive's position become those at the restore's.
    pub needed_suffices : top.low ≡ low_at site.history top.at → live site.history to top.at ≡ true → (number : ℕ)
        → fold (with_change space number) (page_at site.history top.at space number) (changes_read (is_read site to) site.history to top.at)
        ≡ page_at site.history to space number
    needed_suffices low_is is_live number =
        ap (fold (with_change space number) (page_at site.history top.at space number))
        (read_suffices site.history fit.history.order to top.at (is_read site to) (λ x from some is. wanted_is_read x (omega (arith, low_is, from)) some is))
        ∙ sym (page_along site.history to top.at space number is_live)
