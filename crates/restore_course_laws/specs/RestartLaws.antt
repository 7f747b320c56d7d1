-- A restart makes the moves of one, and where it answers well it has ended the restore.
use Rattle.std.specs.Prelude.{◌≡◌, ℕ, zero, suc, ◌^◌, ◌<◌, ◌≤◌, ◌==◌, List, [], ◌∷◌, ◌++◌, length, map, filter, is_none, Bool, true, false, nat_le, if◌then◌else◌, Option, None, Some}
use Rattle.std.specs.List.{AllByRecursion}
use mathlib.Core.Logic.{inl, inr}
use Rattle.std.proofs.Common.{arith, refl, sym, ap, subst, ◌∙◌, ⊎_elim}
use Rattle.std.proofs.lemmas.Bool.{cases_lt, false≢true, true≢false}
use Rattle.std.proofs.lemmas.Bool.Decides.{nat_tests}
use Rattle.std.proofs.lemmas.List.{length-map}
use Rattle.std.proofs.lemmas.List.Elements.{filter-append}
use Rattle.log_history.specs.History.{LogEntry, begin, write, commit, abort, reset, entry_at}
use Rattle.log_history.specs.Live.{ResetPoint, reset_points}
use Rattle.backup_lines.specs.Spans.{Active}
use Rattle.site_worlds.specs.Worlds.{LaneState, Site, stands, blank, merges, replays, stale, lost}
use Rattle.site_worlds.specs.Files.{EndsInReset}
use Rattle.site_worlds.specs.Fitness.{FitStep, AreInStep, IsFinishing, IsFitSite}
use Rattle.site_worlds.specs.Moves.{with_prepared}
use Rattle.site_worlds.specs.Allowed.{HasRing}
use Rattle.world_laws.specs.ListLaws.{none_some}
use Rattle.world_laws.specs.RingLaws.{step_of}
use Rattle.backup_lines.specs.Lines.{Archive, live_archives}
use Rattle.backup_lines.specs.Chains.{and_on, chain_of, last_link}
use Rattle.backup_lines.specs.Plans.{below, has_no_level_0}
use Rattle.backup_lines.specs.declared.objects.Lacking.{Lacking}
use Rattle.backup_lines.specs.declared.objects.Lacking.TheVariants.{NoLevel0}
use Rattle.site_courses.specs.Faults.{Fault, log_full, no_position}
use Rattle.site_courses.specs.Courses.{check, in_turn, if_log_lost, if_any_lost, if_lost, first_lost}
use Rattle.site_courses.specs.Plans.{chain_at, chain_ids, lacking_chains, lacking_at, first_of_lists, if_any}
use Rattle.site_courses.specs.Restores.{is_reset_of, ends_in_reset, if_no_position, make_ready, go_on, finish, if_prepared, restart_before, restart_from}
use Rattle.restore_course_laws.specs.Restarting.{Restarts, RestartsFrom, restarts_none, restarts_then}
use Rattle.course_laws.specs.AppendingLaws.{not_at_most, ring_there}
use Rattle.restore_course_laws.specs.PreparingLaws.{same_number, IsBefore, IsReady, leads_first, leads_again}
use Rattle.restore_course_laws.specs.RestoringLaws.{IsEnding, AreEnding, HasEnded, leads_finish, leads_go_on}

-- what the checks tell

none_lacking : (list : List Lacking) → if_any list ≡ None → list ≡ []
none_lacking [] is = refl
none_lacking (one ∷ more) is = absurd (none_some (sym is))

first_none : (first later : List Lacking) → first_of_lists first later ≡ [] → first ≡ []
first_none [] later is = refl
first_none (one ∷ more) later is = is

map_none : (list : List ℕ) → map NoLevel0 list ≡ [] → list ≡ []
map_none [] is = refl
map_none (x ∷ list) is = absurd cc

front_none : (xs ys : List ℕ) → xs ++ ys ≡ [] → (xs ≡ []) × (ys ≡ [])
front_none [] ys is = (refl, is)
front_none (x ∷ xs) ys is = absurd cc

one_none : (test : ℕ → Bool) (n : ℕ) → filter test (n ∷ []) ≡ [] → test n ≡ false
one_none test n is = by (test n) is
  where
    by : (b : Bool) → (if b then n ∷ [] else []) ≡ [] → b ≡ false
    by true is = absurd cc
    by false is = refl

none_passes : (test : ℕ → Bool) (count n : ℕ) → filter test (below count) ≡ [] → n < count → test n ≡ false
none_passes test zero n is lt = absurd (omega (arith, lt))
none_passes test (suc count) n is lt = ⊎_elim
    (λ below. none_passes test count n parts.0 below)
    (λ from. let last : count ≡ n = omega (arith, from, lt) in subst (λ (k : ℕ). test k ≡ false) last (one_none test count parts.1))
    (cases_lt n count)
  where
    parts : (filter test (below count) ≡ []) × (filter test (count ∷ []) ≡ [])
    parts = front_none (filter test (below count)) (filter test (count ∷ [])) (sym (filter-append test (below count) (count ∷ [])) ∙ is)

-- a chain has an archive where a level 0 serves
some_chained : (first : Option Archive) (on : Archive → List Archive) → is_none first ≡ false → 1 ≤ length (and_on first on)
some_chained None on isnt = absurd (true≢false isnt)
some_chained (Some archive) on isnt = omega arith

is_chained : (archives : List Archive) (resets : List ResetPoint) (space q : ℕ) → has_no_level_0 archives resets q space ≡ false → 1 ≤ length (chain_of archives resets space q)
is_chained archives resets space q isnt =
    some_chained (last_link resets space 0 0 q archives)
    (λ zero. and_on (last_link resets space 1 zero.copy q archives) (λ one. and_on (last_link resets space 2 one.copy q archives) (λ two. []))) isnt

pub chains_there : (site : Site) (number to : ℕ) → if_any (lacking_at site number to) ≡ None → (space : ℕ) → space < length site.head.spaces → 1 ≤ length (chain_ids site space to)
chains_there site number to is space lt =
    let none : filter (has_no_level_0 (live_archives site.lines) (reset_points site.history) to) (below (length site.head.spaces)) ≡ [] =
    map_none _ (first_none (lacking_chains site to) _ (none_lacking (lacking_at site number to) is)) in
    omega (
      arith,
      length-map (chain_at site space to) (λ a. a.copy),
      is_chained (live_archives site.lines) (reset_points site.history) space to
          (none_passes (has_no_level_0 (live_archives site.lines) (reset_points site.history) to) (length site.head.spaces) space none lt),
    )

pub position_there : (site : Site) → if_no_position site ≡ None → length site.history < 2 ^ 48
position_there site is = by (nat_le (2 ^ 48) (length site.history)) refl is
  where
    by : (b : Bool) → nat_le (2 ^ 48) (length site.history) ≡ b
        → (if b then Some (log_full (no_position (length site.history))) else None) ≡ None → length site.history < 2 ^ 48
    by true le none = absurd (none_some (sym none))
    by false gt none = not_at_most (2 ^ 48) (length site.history) gt

reset_there : (number : ℕ) (entry : Option LogEntry) → is_reset_of number entry ≡ true → (target : ℕ) × (time : ℕ) × (entry ≡ Some (reset number target time))
reset_there number None is = absurd (false≢true is)
reset_there number (Some (begin txn)) is = absurd (false≢true is)
reset_there number (Some (write txn patch)) is = absurd (false≢true is)
reset_there number (Some (commit txn time)) is = absurd (false≢true is)
reset_there number (Some (abort txn)) is = absurd (false≢true is)
reset_there number (Some (reset restore target time)) is =
    (target, time, ap (λ (n : ℕ). Some (reset n target time)) (same_number restore number is))

no_reset_there : (site : Site) (restore : Active) (prepared : Bool) → ends_in_reset site restore.number ≡ false → EndsInReset site.history (with_prepared prepared restore) → ⊥
no_reset_there site restore prepared isnt ends = true≢false (sym here ∙ isnt)
  where
    here : is_reset_of restore.number (entry_at site.history (length site.history)) ≡ true
    here = ap (is_reset_of restore.number) ends.is ∙ itself restore.number
      where
        itself : (n : ℕ) → (n == n) ≡ true
        itself n = grind (arith, nat_tests)

-- lanes behind the Reset

lane_ending : (restore : Active) (site : Site) (lane : LaneState) → (lane ≡ lost → ⊥) → IsFinishing site.history restore lane → IsEnding restore (length site.history) lane
lane_ending restore site (stands upto part) there (inl at) =
    inl (ap (λ (n : ℕ). stands n part) at.0 ∙ ap (stands (length site.history)) at.1)
lane_ending restore site (blank number) there (inl at) = absurd at
lane_ending restore site (merges number chain archive entries) there (inl at) = absurd at
lane_ending restore site (replays number chain upto part) there (inl at) = absurd at
lane_ending restore site stale there (inl at) = absurd at
lane_ending restore site lost there (inl at) = absurd (there refl)
lane_ending restore site (replays number chain upto part) there (inr at) = inr at
lane_ending restore site (stands upto part) there (inr at) = absurd at
lane_ending restore site (blank number) there (inr at) = absurd at
lane_ending restore site (merges number chain archive entries) there (inr at) = absurd at
lane_ending restore site stale there (inr at) = absurd at
lane_ending restore site lost there (inr at) = absurd (there refl)

not_lost : (space : ℕ) (lane : LaneState) (next : Option Fault) → if_lost space lane next ≡ None → (lane ≡ lost → ⊥) × (next ≡ None)
not_lost space (stands upto part) next is = ((λ same. cc), is)
not_lost space (blank restore) next is = ((λ same. cc), is)
not_lost space (merges restore chain archive entries) next is = ((λ same. cc), is)
not_lost space (replays restore chain upto part) next is = ((λ same. cc), is)
not_lost space stale next is = ((λ same. cc), is)
not_lost space lost next is = absurd (none_some (sym is))

lanes_ending : (restore : Active) (site : Site) (space : ℕ) (lanes : List LaneState) → first_lost space lanes ≡ None → AllByRecursion (IsFinishing site.history restore) lanes
    → AllByRecursion (IsEnding restore (length site.history)) lanes
lanes_ending restore site space [] is all = tt
lanes_ending restore site space (lane ∷ lanes) is all =
    let parts = not_lost space lane (first_lost (suc space) lanes) is in
    (lane_ending restore site lane parts.0 all.0, lanes_ending restore site (suc space) lanes parts.1 all.1)

module _ (restore : Active) (moment : ℕ) where
  -- it is under way, and what a prepared one needs is there
  abbrev Begun : Site → Type 0
  Begun site = site.active ≡ Some restore

  abbrev tested : (Site → Option Fault) → Site → Option Fault
  tested test site = if restore.prepared then test site else None

  abbrev WithLog : Site → Type 0
  WithLog site = (site.active ≡ Some restore) × (tested if_log_lost site ≡ None)

  abbrev WithLanes : Site → Type 0
  WithLanes site = WithLog site × (tested if_any_lost site ≡ None)

  when_prepared : (test : Site → Option Fault) (site : Site) → restore.prepared ≡ true → tested test site ≡ None → test site ≡ None
  when_prepared test site is none = sym (ap (λ (b : Bool). if b then test site else None) is) ∙ none

  -- behind the Reset
  is_ending : (site : Site) → IsFitSite site → WithLanes site → ends_in_reset site restore.number ≡ true → AreEnding restore site
  is_ending site fit begun is = record {
    is = begun.0.0 ∙ ap (λ (b : Bool). Some (with_prepared b restore)) prepared;
    has = has;
    ends = record { time = ends.time; is = ends.is };
    all = lanes_ending restore site 0 site.lanes (when_prepared if_any_lost site prepared begun.1) finishing;
  }
    where
      record_there : (target : ℕ) × (time : ℕ) × (entry_at site.history (length site.history) ≡ Some (reset restore.number target time))
      record_there = reset_there restore.number (entry_at site.history (length site.history)) is

      own : (length site.history ≡ length site.history) × (record_there.0 ≡ restore.to) × (restore.prepared ≡ true)
      own = (fit.restore.fits restore begun.0.0).own (length site.history) record_there.0 record_there.1 record_there.2

      prepared : restore.prepared ≡ true
      prepared = own.2

      ends : EndsInReset site.history restore
      ends = record { time = record_there.1; is = record_there.2 ∙ ap (λ (n : ℕ). Some (reset restore.number n record_there.1)) own.1 }

      has : HasRing site
      has = ring_there site site.ring refl (when_prepared if_log_lost site prepared begun.0.1)

      step : AreInStep site.history restore site.lanes
      step = subst (λ (a : Option Active). FitStep site.history site.starts (Some has.ring) a site.lanes) begun.0.0 (step_of site has.ring has.is fit) prepared

      finishing : AllByRecursion (IsFinishing site.history restore) site.lanes
      finishing = ⊎_elim (λ before. absurd (before.0 ends)) (λ behind. behind.1) step

  -- before it
  abbrev Unreset : Site → Type 0
  Unreset site = WithLanes site × (ends_in_reset site restore.number ≡ false)

  is_before : (site : Site) → Unreset site → if_any (lacking_at site restore.number restore.to) ≡ None → if_no_position site ≡ None → (b : Bool) → restore.prepared ≡ b
      → IsBefore restore b site
  is_before site begun found position b is = record {
    is = begun.0.0.0 ∙ ap (λ (c : Bool). Some (with_prepared c restore)) is;
    before = no_reset_there site restore b begun.1;
    chains = chains_there site restore.number restore.to found;
    few = position_there site position;
  }

  abbrev Checked : Site → Type 0
  Checked site = (Unreset site × (if_any (lacking_at site restore.number restore.to) ≡ None)) × (if_no_position site ≡ None)

  leads_ready : RestartsFrom Checked (make_ready restore.prepared restore.number restore.to) (IsReady restore true)
  leads_ready site fit checked = by restore.prepared refl
    where
      by : (b : Bool) → restore.prepared ≡ b → Restarts site (make_ready b restore.number restore.to site) (IsReady restore true)
      by false is = leads_first restore site fit (is_before site checked.0.0 checked.0.1 checked.1 false is)
      by true is = leads_again restore site fit (record {
        state = is_before site checked.0.0 checked.0.1 checked.1 true is;
        has = ring_there site site.ring refl (when_prepared if_log_lost site is checked.0.0.0.0.1);
      })

  leads_before : RestartsFrom Unreset (restart_before restore moment) (HasEnded restore)
  leads_before =
      restarts_then Unreset First (HasEnded restore) (check (λ site. if_any (lacking_at site restore.number restore.to)))
      (in_turn (check if_no_position ∷ make_ready restore.prepared restore.number restore.to ∷ go_on restore.number restore.to moment ∷ []))
      (λ site fit begun. record { can = tt; then_holds = λ none. (begun, none) })
      (restarts_then First Checked (HasEnded restore) (check if_no_position) (in_turn (make_ready restore.prepared restore.number restore.to ∷ go_on restore.number restore.to moment ∷ []))
      (λ site fit begun. record { can = tt; then_holds = λ none. (begun, none) })
      (restarts_then Checked (IsReady restore true) (HasEnded restore) (make_ready restore.prepared restore.number restore.to) (in_turn (go_on restore.number restore.to moment ∷ []))
      leads_ready
      (restarts_then (IsReady restore true) (HasEnded restore) (HasEnded restore) (go_on restore.number restore.to moment) (in_turn []) (leads_go_on restore moment)
      (restarts_none (HasEnded restore)))))
    where
      First : Site → Type 0
      First site = Unreset site × (if_any (lacking_at site restore.number restore.to) ≡ None)

  leads_rest : RestartsFrom WithLanes (λ site. if ends_in_reset site restore.number then finish site else restart_before restore moment site) (HasEnded restore)
  leads_rest site fit begun = by (ends_in_reset site restore.number) refl
    where
      by : (b : Bool) → ends_in_reset site restore.number ≡ b → Restarts site (if b then finish site else restart_before restore moment site) (HasEnded restore)
      by true is = leads_finish restore site fit (is_ending site fit begun is)
      by false is = leads_before site fit (begun, is)

  -- A restart of a restore that is under way makes the moves of one, and where it answers well the restore has ended.
  pub leads_restart_from : RestartsFrom Begun (restart_from restore moment) (HasEnded restore)
  leads_restart_from =
      restarts_then Begun WithLog (HasEnded restore) (if_prepared restore if_log_lost)
      (in_turn (if_prepared restore if_any_lost ∷ (λ site. if ends_in_reset site restore.number then finish site else restart_before restore moment site) ∷ []))
      (λ site fit begun. record { can = tt; then_holds = λ none. (begun, none) })
      (restarts_then WithLog WithLanes (HasEnded restore) (if_prepared restore if_any_lost)
      (in_turn ((λ site. if ends_in_reset site restore.number then finish site else restart_before restore moment site) ∷ []))
      (λ site fit begun. record { can = tt; then_holds = λ none. (begun, none) })
      (restarts_then WithLanes (HasEnded restore) (HasEnded restore) (λ site. if ends_in_reset site restore.number then finish site else restart_before restore moment site) (in_turn [])
      leads_rest (restarts_none (HasEnded restore))))
