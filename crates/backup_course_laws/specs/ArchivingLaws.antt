-- Spaces are archived by moves that may be made: an object for each, then the lines of all.
use Rattle.std.specs.Prelude.{◌≡◌, ℕ, zero, suc, ◌+◌, ◌^◌, ◌==◌, ◌<◌, ◌≤◌, List, [], ◌∷◌, ◌++◌, length, map, filter, Bool, true, false, not, if◌then◌else◌, Option, None, Some, Result, Ok, Err, Contains}
use Rattle.std.specs.List.{AllByRecursion}
use Rattle.std.proofs.Common.{arith, refl, sym, ap, subst, ◌∙◌, ⊎_elim, append_assoc}
use Rattle.std.proofs.lemmas.Bool.{cases_lt}
use Rattle.std.proofs.lemmas.List.{append-nil}
use Rattle.std.proofs.lemmas.Bool.Decides.{nat_tests}
use Rattle.std.proofs.lemmas.Grind.{flat_map-append}
use Rattle.std.proofs.lemmas.List.Elements.{filter_map-append}
use Rattle.log_history.specs.Live.{reset_points, live}
use Rattle.block_chain.specs.Blocks.{times, blocks_of_runs}
use Rattle.block_chain.specs.BlocksLaws.{times-append, times_head, times-tail}
use Rattle.block_chain.specs.declared.runs.Run.{Run}
use Rattle.backup_lines.specs.Lines.{Archive, Span, Line, archived, logged, archive_in, live_archives}
use Rattle.backup_lines.specs.Chains.{last_link}
use Rattle.walks.specs.Courses.{make, for_each}
use Rattle.site_worlds.specs.Worlds.{Kept, Store, Site}
use Rattle.site_worlds.specs.Files.{last_logged}
use Rattle.site_worlds.specs.Objects.{IsKept, Holds, archive_bytes, blocks_on}
use Rattle.site_worlds.specs.Lanes.{pages_of_space}
use Rattle.site_worlds.specs.Fitness.{FitLevel, FitArchive, FitLine, copy_in, copies_in, IsFitSite}
use Rattle.site_worlds.specs.Moves.{is_among, append_lines, store_after, site_rules}
use Rattle.site_worlds.specs.Allowed.{CanCommit, CanAddLines}
use Rattle.world_laws.specs.ListLaws.{all_append, all_weaker, contains_cases, contains_none, none_some}
use Rattle.world_laws.specs.LinesLaws.{line_more}
use Rattle.world_laws.specs.StoreLaws.{holds_after}
use Rattle.restore_laws.specs.PlannedLaws.{IsLiveLink, last_link_is}
use Rattle.site_courses.specs.Faults.{Fault}
use Rattle.site_courses.specs.Courses.{SiteCourse, in_turn}
use Rattle.site_courses.specs.NewObjects.{new_runs, archive_label, new_kept, commit_fault, unless_full, commit_course}
use Rattle.site_courses.specs.Backups.{Basis, on_nothing, on_archive, on_level_0, on_level_1, basis_of, archive_at_end, Made, placed, sent, made_of, commit_archives, archive_spaces}
use Rattle.course_laws.specs.Leading.{Leads, LeadsFrom, leads_none, leads_then}
use Rattle.placing_laws.specs.PlacingLaws.{AreNewRuns, new_runs_are, CanStand, one_stands, fewer_blocks, new_sound, new_free}
use Rattle.placing_laws.specs.ObjectLaws.{archive_label_fits, new_is_kept, ids_left, can_add}
use Rattle.backup_course_laws.specs.UpkeepLaws.{Any, copies_given}
use Rattle.backup_course_laws.specs.SavingLaws.{holds_new, none_given}

-- the spaces of a site, each once
pub record AreSpaces (count : ℕ) (spaces : List ℕ) : Type 0 where
  pub within : AllByRecursion (λ space. space < count) spaces
  pub once : (space : ℕ) → times space spaces ≤ 1

-- what an archive builds on

module _ (site : Site) (space copy : ℕ) where
  abbrev Builds : Basis → Type 0
  Builds basis = FitLevel site.history site.lines (archive_at_end site space copy basis) basis.level

  -- an archive of the space with a line, live at the end of the log
  record IsBelow (level : ℕ) (archive : Archive) : Type 0 where
    line : Contains site.lines (archived archive)
    same_space : archive.space ≡ space
    same_level : archive.level ≡ level
    is_live : live site.history (length site.history) archive.at ≡ true

  link_below : (level base : ℕ) (archive : Archive)
      → last_link (reset_points site.history) space level base (length site.history) (live_archives site.lines) ≡ Some archive → IsBelow level archive
  link_below level base archive is =
      let found : IsLiveLink site.lines (reset_points site.history) space level base (length site.history) archive =
      last_link_is site.lines (reset_points site.history) space level base (length site.history) archive is in
      record { line = found.link.line; same_space = found.link.same_space; same_level = found.link.same_level; is_live = found.is_live }

  builds_on : (level : ℕ) (o : Option Archive) (lower : Basis) → ((archive : Archive) → o ≡ Some archive → IsBelow level archive) → Builds lower
      → Builds (on_archive (suc level) o lower)
  builds_on level None lower below builds = builds
  builds_on level (Some archive) lower below builds =
      let is : IsBelow level archive = below archive refl in
      record {
        base = archive;
        line = is.line;
        same_copy = refl;
        same_space = is.same_space;
        below = ap suc is.same_level;
        same_base = refl;
        is_live = is.is_live;
      }

  level_0_below : (archive : Archive) → on_level_0 site space (length site.history) ≡ Some archive → IsBelow 0 archive
  level_0_below archive is = link_below 0 0 archive is

  level_1_below : (o : Option Archive) (archive : Archive) → on_level_1 site space (length site.history) o ≡ Some archive → IsBelow 1 archive
  level_1_below None archive is = absurd (none_some is)
  level_1_below (Some below) archive is = link_below 1 below.copy archive is

  basis_builds : (level : ℕ) → Builds (basis_of site space level)
  basis_builds zero = (refl, refl)
  basis_builds (suc zero) = builds_on 0 (on_level_0 site space (length site.history)) on_nothing level_0_below (refl, refl)
  basis_builds (suc (suc level)) =
      builds_on 1 (on_level_1 site space (length site.history) (on_level_0 site space (length site.history)))
      (on_archive 1 (on_level_0 site space (length site.history)) on_nothing)
      (level_1_below (on_level_0 site space (length site.history)))
      (builds_on 0 (on_level_0 site space (length site.history)) on_nothing level_0_below (refl, refl))

  low_level : (level : ℕ) (o : Option Archive) (lower : Basis) → level ≤ 2 → lower.level ≤ 2 → (on_archive level o lower).level ≤ 2
  low_level level None lower le lower_le = lower_le
  low_level level (Some archive) lower le lower_le = le

  basis_low : (level : ℕ) → (basis_of site space level).level ≤ 2
  basis_low zero = omega arith
  basis_low (suc zero) = low_level 1 (on_level_0 site space (length site.history)) on_nothing (omega arith) (omega arith)
  basis_low (suc (suc level)) =
      low_level 2 (on_level_1 site space (length site.history) (on_level_0 site space (length site.history)))
      (on_archive 1 (on_level_0 site space (length site.history)) on_nothing) (omega arith)
      (low_level 1 (on_level_0 site space (length site.history)) on_nothing (omega arith) (omega arith))

-- archives that are made

module _ (first : Site) (moment level : ℕ) where
  abbrev archive_for : ℕ → ℕ → Archive
  archive_for space copy = archive_at_end first space copy (basis_of first space level)

  abbrev bytes_of : Archive → List ℕ
  bytes_of archive = archive_bytes first.head.site first.history (pages_of_space first.head.spaces archive.space) archive

  abbrev made_for : ℕ → ℕ → List Run → Made
  made_for space copy runs = record {
    archive = archive_for space copy;
    kept = new_kept first moment copy space (archive_label first space (archive_for space copy).level) (bytes_of (archive_for space copy)) runs;
  }

  record IsMade (space copy : ℕ) (made : Made) : Type 0 where
    runs : List Run
    is : made ≡ made_for space copy runs
    new : AreNewRuns first space (length (bytes_of (archive_for space copy))) runs

  abbrev AreMade : ℕ → List ℕ → List Made → Type 0
  AreMade copy [] [] = Unit {0}
  AreMade copy (space ∷ spaces) (made ∷ others) = IsMade space copy made × AreMade (suc copy) spaces others
  AreMade copy spaces made = ⊥

  abbrev all_of : List Made → Result (List Made) ℕ
  all_of made = Ok made

  none_made : (made : List Made) → all_of [] ≡ all_of made → [] ≡ made
  none_made made is = cc

  some_made : (one : Made) (others made : List Made) → all_of (one ∷ others) ≡ all_of made → one ∷ others ≡ made
  some_made one others made is = cc

  made_are : (copy : ℕ) (spaces : List ℕ) (made : List Made) → made_of first moment level copy spaces ≡ Ok made → AreMade copy spaces made
  made_are copy [] made is = subst (AreMade copy []) (none_made made is) tt
  made_are copy (space ∷ spaces) made is =
      by (new_runs first space (length (bytes_of (archive_for space copy)))) refl (made_of first moment level (suc copy) spaces) is
      (λ others same. made_are (suc copy) spaces others same)
    where
      by : (o : Option (List Run)) → new_runs first space (length (bytes_of (archive_for space copy))) ≡ o
          → (r : Result (List Made) ℕ) → placed first moment (archive_for space copy) (bytes_of (archive_for space copy)) o r ≡ Ok made
          → ((others : List Made) → r ≡ Ok others → AreMade (suc copy) spaces others) → AreMade copy (space ∷ spaces) made
      by None new r is later = absurd cc
      by (Some runs) new (Err volume) is later = absurd cc
      by (Some runs) new (Ok others) is later = subst (AreMade copy (space ∷ spaces)) (some_made (made_for space copy runs) others made is)
          (record { runs = runs; is = refl; new = new_runs_are first space (length (bytes_of (archive_for space copy))) runs new }, later others refl)

  -- the copy ids of their lines follow one another

  abbrev lines_of : List Made → List Line
  lines_of made = map (λ one. archived one.archive) made

  copy_is : (space copy : ℕ) (one : Made) → IsMade space copy one → one.archive.copy ≡ copy
  copy_is space copy one is = ap (λ (m : Made). m.archive.copy) is.is

  copies_from : (copy : ℕ) (spaces : List ℕ) (made : List Made) → AreMade copy spaces made → (other : ℕ) → 0 < times other (copies_in (lines_of made)) → copy ≤ other
  copies_from copy [] [] are other some = absurd (omega (arith, some))
  copies_from copy [] (one ∷ made) are other some = absurd are
  copies_from copy (space ∷ spaces) [] are other some = absurd are
  copies_from copy (space ∷ spaces) (one ∷ made) are other some =
      by (one.archive.copy == other) refl some (λ more. copies_from (suc copy) spaces made are.1 other more)
    where
      by : (b : Bool) → (one.archive.copy == other) ≡ b → 0 < (if b then 1 else 0) + times other (copies_in (lines_of made))
          → (0 < times other (copies_in (lines_of made)) → suc copy ≤ other) → copy ≤ other
      by true same more later = let e : one.archive.copy ≡ other = grind (arith, nat_tests, same) in omega (arith, e, copy_is space copy one are.0)
      by false same more later = omega (arith, later (omega (arith, more)))

  copies_once : (copy : ℕ) (spaces : List ℕ) (made : List Made) → AreMade copy spaces made → (other : ℕ) → times other (copies_in (lines_of made)) ≤ 1
  copies_once copy [] [] are other = omega arith
  copies_once copy [] (one ∷ made) are other = absurd are
  copies_once copy (space ∷ spaces) [] are other = absurd are
  copies_once copy (space ∷ spaces) (one ∷ made) are other =
      by (one.archive.copy == other) refl (copies_once (suc copy) spaces made are.1 other) (copies_from (suc copy) spaces made are.1 other)
    where
      by : (b : Bool) → (one.archive.copy == other) ≡ b → times other (copies_in (lines_of made)) ≤ 1
          → (0 < times other (copies_in (lines_of made)) → suc copy ≤ other) → (if b then 1 else 0) + times other (copies_in (lines_of made)) ≤ 1
      by false same le later = omega (arith, le)
      by true same le later =
          let e : one.archive.copy ≡ other = grind (arith, nat_tests, same) in
          ⊎_elim
          (λ more. absurd (omega (arith, e, copy_is space copy one are.0, later more)))
          (λ none. omega (arith, none))
          (cases_lt 0 (times other (copies_in (lines_of made))))

  not_logged : (made : List Made) (span : Span) → Contains (lines_of made) (logged span) → ⊥
  not_logged [] span is = contains_none (logged span) is
  not_logged (one ∷ made) span is = ⊎_elim (λ same. none_some (sym (ap archive_in same))) (λ later. not_logged made span later)
      (contains_cases (logged span) (archived one.archive) (lines_of made) is)

  module _ (fit : IsFitSite first) (early : moment < 2 ^ 64) (reached : length first.history ≤ last_logged first.lines) where
    -- the site with another store
    abbrev with_store : Store → Site
    with_store store = record first { store = store }

    abbrev IsHeld : Store → Made → Type 0
    IsHeld store one = (one.archive.copy ≤ store.last) × Holds store one.archive.copy one.archive.space (bytes_of one.archive)

    -- Behind the objects of some archives, with those of other spaces still to come.
    record AreSent (copy : ℕ) (spaces : List ℕ) (done : List Made) (site : Site) : Type 0 where
      store : Store
      is : site ≡ with_store store
      next : suc store.last ≡ copy
      free : (space : ℕ) → 0 < times space spaces → (block : ℕ) → times block (blocks_on space store.kept) ≤ times block (blocks_on space first.store.kept)
      held : AllByRecursion (IsHeld store) done

    one_kept : (space copy : ℕ) (runs : List Run) → space < length first.head.spaces → AreNewRuns first space (length (bytes_of (archive_for space copy))) runs → copy ≤ 2 ^ 48
        → IsKept (made_for space copy runs).kept
    one_kept space copy runs within new few =
        new_is_kept first moment copy space (archive_label first space (basis_of first space level).level) (bytes_of (archive_for space copy)) runs fit.head early few
        (omega (arith, within, fit.head.few))
        (archive_label_fits first space (basis_of first space level).level fit.head (omega (arith, basis_low first space copy level))) new

    -- the object of one archive is committed
    module _ (store : Store) (space copy : ℕ) (spaces : List ℕ) (done : List Made) (runs : List Run) (fits : IsFitSite (with_store store)) (next : suc store.last ≡ copy)
        (free : (s : ℕ) → 0 < times s (space ∷ spaces) → (block : ℕ) → times block (blocks_on s store.kept) ≤ times block (blocks_on s first.store.kept))
        (held : AllByRecursion (IsHeld store) done) (within : space < length first.head.spaces) (once : times space (space ∷ spaces) ≤ 1)
        (new : AreNewRuns first space (length (bytes_of (archive_for space copy))) runs) where
      abbrev this : Made
      this = made_for space copy runs

      abbrev after : Store
      after = store_after (this.kept ∷ []) [] store

      here : 0 < times space (space ∷ spaces)
      here = omega (arith, times_head space spaces)

      stands : CanStand first.head.blocks (blocks_on space store.kept) (blocks_of_runs runs)
      stands = record {
        once = (new_sound first space (length (bytes_of (archive_for space copy))) runs new).once;
        below = (new_sound first space (length (bytes_of (archive_for space copy))) runs new).below;
        free = λ block some. omega (arith, free space here block, new_free first space (length (bytes_of (archive_for space copy))) runs new block some);
      }

      can_commit : store.last + 1 ≤ 2 ^ 48 → CanCommit (this.kept ∷ []) [] (with_store store)
      can_commit few = can_add this.kept (with_store store) fits (sym next) (one_kept space copy runs within new (omega (arith, few, next)))
          (one_stands first.head.blocks store.kept this.kept stands)

      abbrev stays : Kept → Bool
      stays k = not (is_among [] k.object.copy)

      none_added : (s : ℕ) → (space == s) ≡ false → blocks_on s (this.kept ∷ []) ≡ []
      none_added s isnt = ap (λ (b : Bool). (if b then blocks_of_runs runs else []) ++ []) isnt

      others_free : (s : ℕ) → 0 < times s spaces → (block : ℕ) → times block (blocks_on s after.kept) ≤ times block (blocks_on s first.store.kept)
      others_free s some block = by (space == s) refl
        where
          by : (b : Bool) → (space == s) ≡ b → times block (blocks_on s after.kept) ≤ times block (blocks_on s first.store.kept)
          by true same =
              let e : space ≡ s = grind (arith, nat_tests, same) in
              absurd (omega (arith, once, times_head space spaces, some, ap (λ (n : ℕ). times n spaces) e))
          by false isnt = omega (
            arith,
            sum,
            ap (times block) (none_added s isnt),
            fewer_blocks stays s block store.kept,
            free s (omega (arith, some, times-tail s space spaces)) block,
          )
            where
              sum : times block (blocks_on s after.kept) ≡ times block (blocks_on s (filter stays store.kept)) + times block (blocks_on s (this.kept ∷ []))
              sum = ap (times block) (flat_map-append (λ k. if k.object.volume == s then blocks_of_runs k.object.runs else []) (filter stays store.kept) (this.kept ∷ []))
                  ∙ times-append block (blocks_on s (filter stays store.kept)) (blocks_on s (this.kept ∷ []))

      given : AllByRecursion (IsHeld after) (done ++ this ∷ [])
      given = all_append (IsHeld after) done (this ∷ [])
          (all_weaker (IsHeld store) (IsHeld after) done
          (λ other has. (omega (arith, has.0), holds_after (this.kept ∷ []) [] store other.archive.copy other.archive.space (bytes_of other.archive) (sym next, tt) has.0 has.1)) held)
          ((omega (arith, next), holds_new this.kept store fits.store.ascend (sym next)), tt)

      sent_behind : AreSent (suc copy) spaces (done ++ this ∷ []) (with_store after)
      sent_behind = record { store = after; is = refl; next = omega (arith, next); free = others_free; held = given }

      commits : (fault : Option Fault) → commit_fault store (this.kept ∷ []) [] ≡ fault
          → Leads (with_store store) (unless_full fault (this.kept ∷ []) []) (AreSent (suc copy) spaces (done ++ this ∷ []))
      unfolding site_rules
      commits (Some fault) is = record { can = tt; then_holds = λ none. absurd (none_some (sym none)) }
      commits None is = record { can = (can_commit (ids_left store (this.kept ∷ []) [] is), tt); then_holds = λ none. sent_behind }

    abbrev commit_one : Made → SiteCourse
    commit_one one = commit_course (one.kept ∷ []) []

    less_spaces : (space : ℕ) (spaces : List ℕ) → AreSpaces (length first.head.spaces) (space ∷ spaces) → AreSpaces (length first.head.spaces) spaces
    less_spaces space spaces is = record { within = is.within.1; once = λ s. omega (arith, is.once s, times-tail s space spaces) }

    leads_one : (copy space : ℕ) (spaces : List ℕ) (one : Made) (done : List Made) → IsMade space copy one → AreSpaces (length first.head.spaces) (space ∷ spaces)
        → LeadsFrom (AreSent copy (space ∷ spaces) done) (commit_one one) (AreSent (suc copy) spaces (done ++ one ∷ []))
    leads_one copy space spaces one done made are site fits sent =
        subst (λ (s : Site). Leads s (commit_one one s) (AreSent (suc copy) spaces (done ++ one ∷ []))) (sym sent.is)
        (subst (λ (m : Made). Leads (with_store sent.store) (commit_one m (with_store sent.store)) (AreSent (suc copy) spaces (done ++ m ∷ []))) (sym made.is)
        (commits sent.store space copy spaces done made.runs (subst IsFitSite sent.is fits) sent.next sent.free sent.held are.within.0 (are.once space) made.new
        (commit_fault sent.store ((made_for space copy made.runs).kept ∷ []) []) refl))

    -- behind the objects of all archives that were made
    abbrev AllSent : List Made → Site → Type 0
    AllSent made site = (copy : ℕ) × AreSent copy [] made site

    leads_all : (copy : ℕ) (spaces : List ℕ) (made done whole : List Made) → AreMade copy spaces made → AreSpaces (length first.head.spaces) spaces → done ++ made ≡ whole
        → LeadsFrom (AreSent copy spaces done) (for_each site_rules commit_one made) (AllSent whole)
    leads_all copy [] [] done whole are spaces_are is site fits sent =
        record { can = tt; then_holds = λ none. (copy, subst (λ (d : List Made). AreSent copy [] d site) (sym (append-nil done) ∙ is) sent) }
    leads_all copy [] (one ∷ made) done whole are spaces_are is site fits sent = absurd are
    leads_all copy (space ∷ spaces) [] done whole are spaces_are is site fits sent = absurd are
    leads_all copy (space ∷ spaces) (one ∷ made) done whole are spaces_are is site fits sent =
        leads_then (AreSent copy (space ∷ spaces) done) (AreSent (suc copy) spaces (done ++ one ∷ [])) (AllSent whole) (commit_one one) (for_each site_rules commit_one made)
        (leads_one copy space spaces one done are.0 spaces_are)
        (leads_all (suc copy) spaces made (done ++ one ∷ []) whole are.1 (less_spaces space spaces spaces_are) (append_assoc done (one ∷ []) made ∙ is))
        site fits sent

    -- the lines of all

    one_fits : (store : Store) (space copy : ℕ) (one : Made) → IsMade space copy one → space < length first.head.spaces → IsHeld store one
        → FitArchive first.head first.history store first.lines one.archive
    one_fits store space copy one is within held = subst (λ (m : Made). IsHeld store m → FitArchive first.head first.history store first.lines m.archive) (sym is.is)
        (λ has. record {
          space = within;
          level = basis_low first space copy level;
          reached = reached;
          low = refl;
          builds = basis_builds first space copy level;
          copy = has.0;
          holds = has.1;
        }) held

    all_fit : (store : Store) (more : List Line) (copy : ℕ) (spaces : List ℕ) (made : List Made) → AreMade copy spaces made
        → AllByRecursion (λ space. space < length first.head.spaces) spaces → AllByRecursion (IsHeld store) made
        → AllByRecursion (FitLine first.head first.history first.starts store (first.lines ++ more)) (lines_of made)
    all_fit store more copy [] [] are within held = tt
    all_fit store more copy [] (one ∷ made) are within held = absurd are
    all_fit store more copy (space ∷ spaces) [] are within held = absurd are
    all_fit store more copy (space ∷ spaces) (one ∷ made) are within held = (
      line_more first.head first.history first.starts store first.lines more (archived one.archive) (one_fits store space copy one are.0 within.0 held.0),
      all_fit store more (suc copy) spaces made are.1 within.1 held.1,
    )

    can_list : (copy : ℕ) (spaces : List ℕ) (made : List Made) (store : Store) → suc first.store.last ≡ copy → AreMade copy spaces made
        → AreSpaces (length first.head.spaces) spaces → AllByRecursion (IsHeld store) made → CanAddLines (lines_of made) (with_store store)
    can_list copy spaces made store begins are spaces_are held = record {
      each = all_fit store (lines_of made) copy spaces made are spaces_are.within held;
      once = once;
      files = λ span is. absurd (not_logged made span is);
    }
      where
        once : (other : ℕ) → times other (copies_in (first.lines ++ lines_of made)) ≤ 1
        once other = ⊎_elim
            (λ new. omega (
              arith,
              sum,
              copies_once copy spaces made are other,
              none_given first.store.last (copies_in first.lines) other
                  (copies_given first.head first.history first.starts first.store first.lines first.lines fit.lines.each)
                  (omega (arith, begins, copies_from copy spaces made are other new)),
            ))
            (λ none. omega (arith, sum, none, fit.lines.once other))
            (cases_lt 0 (times other (copies_in (lines_of made))))
          where
            sum : times other (copies_in (first.lines ++ lines_of made)) ≡ times other (copies_in first.lines) + times other (copies_in (lines_of made))
            sum = ap (times other) (filter_map-append copy_in first.lines (lines_of made)) ∙ times-append other (copies_in first.lines) (copies_in (lines_of made))

    leads_lines : (copy : ℕ) (spaces : List ℕ) (made : List Made) → suc first.store.last ≡ copy → AreMade copy spaces made → AreSpaces (length first.head.spaces) spaces
        → LeadsFrom (AllSent made) (λ site. make (append_lines (lines_of made) ∷ [])) Any
    leads_lines copy spaces made begins are spaces_are site fits sent =
        subst (λ (s : Site). Leads s (make (append_lines (lines_of made) ∷ [])) Any) (sym sent.1.is)
        (record { can = (can_list copy spaces made sent.1.store begins are spaces_are sent.1.held, tt); then_holds = λ none. tt })

    made_lead : (spaces : List ℕ) (made : List Made) → AreMade (suc first.store.last) spaces made → AreSpaces (length first.head.spaces) spaces
        → Leads first (commit_archives (Ok made) first) Any
    made_lead spaces made are spaces_are =
        leads_then (AreSent (suc first.store.last) spaces []) (AllSent made) Any (for_each site_rules commit_one made)
        (in_turn ((λ site. make (append_lines (lines_of made) ∷ [])) ∷ []))
        (leads_all (suc first.store.last) spaces made [] made are spaces_are refl)
        (leads_then (AllSent made) Any Any (λ site. make (append_lines (lines_of made) ∷ [])) (in_turn [])
        (leads_lines (suc first.store.last) spaces made refl are spaces_are) (leads_none Any))
        first fit (record { store = first.store; is = refl; next = refl; free = λ space some block. omega arith; held = tt })

    -- Spaces are archived by moves that may be made.
    pub leads_archives : (spaces : List ℕ) → AreSpaces (length first.head.spaces) spaces → Leads first (archive_spaces moment level spaces first) Any
    leads_archives spaces spaces_are = by (made_of first moment level (suc first.store.last) spaces) refl
      where
        by : (r : Result (List Made) ℕ) → made_of first moment level (suc first.store.last) spaces ≡ r → Leads first (commit_archives r first) Any
        by (Err volume) is = record { can = tt; then_holds = λ none. tt }
        by (Ok made) is = made_lead spaces made (made_are (suc first.store.last) spaces made is) spaces_are
