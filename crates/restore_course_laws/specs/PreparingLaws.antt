-- A restore makes its lanes ready by moves that may be made.
use Rattle.std.specs.Prelude.{◌≡◌, ◌⊎◌, ℕ, suc, ◌^◌, ◌<◌, ◌≤◌, ◌&&◌, ◌==◌, List, [], ◌∷◌, length, Bool, true, false, if◌then◌else◌, Option, None, Some}
use Rattle.std.specs.List.{AllByRecursion}
use Rattle.std.specs.Option.{option_map}
use Rattle.std.specs.Cmp.Lexicographic.{bytes_decides}
use mathlib.Core.Logic.{inl, inr}
use Rattle.std.proofs.Common.{arith, refl, sym, ap, subst, ◌∙◌}
use Rattle.std.proofs.lemmas.Bool.{false≢true, true≢false}
use Rattle.std.proofs.lemmas.Bool.Decides.{nat_tests}
use Rattle.walks.specs.Courses.{only, make}
use Rattle.backup_lines.specs.Spans.{Active}
use Rattle.site_worlds.specs.Worlds.{Ring, LaneState, Site, stands, blank, merges, replays, stale, lost}
use Rattle.site_worlds.specs.Files.{EndsInReset}
use Rattle.site_worlds.specs.Lanes.{IsOnTheWay, EachLane}
use Rattle.site_worlds.specs.Moves.{with_prepared, ring_from, move_lanes, site_rules}
use Rattle.site_worlds.specs.Allowed.{HasRing, GoesOnBy, CanLane, stays, prepares as may_prepare, EachCan}
use Rattle.site_stories.specs.Restarts.{prepares}
use Rattle.site_courses.specs.Courses.{in_turn}
use Rattle.site_courses.specs.Plans.{chain_ids, same_ids}
use Rattle.site_courses.specs.Restores.{each_lane, all_lanes, goes_by, all_go_by, is_ready, empty_lanes, format_lost, has_log, mark_prepared, prepare, make_ready}
use Rattle.restore_course_laws.specs.Restarting.{Restarts, RestartsFrom, restarts_none, restarts_then, each_goal, some_lane_moves}

pub both_true : (a b : Bool) → (a && b) ≡ true → (a ≡ true) × (b ≡ true)
both_true true b is = (refl, is)
both_true false b is = absurd (false≢true is)

pub same_number : (a b : ℕ) → (a == b) ≡ true → a ≡ b
same_number a b is = grind (arith, nat_tests, is)

number_itself : (a b : ℕ) → a ≡ b → (a == b) ≡ true
number_itself a b is = grind (arith, nat_tests, is)

both_are : (a b : Bool) → a ≡ true → b ≡ true → (a && b) ≡ true
both_are true b is also = also
both_are false b is also = is

goes : (number : ℕ) (chain : List ℕ) (lane : LaneState) → goes_by number chain lane ≡ true → GoesOnBy number chain lane
goes number chain (stands upto part) is = absurd (false≢true is)
goes number chain (blank restore) is = same_number restore number is
goes number chain (merges restore other archive entries) is =
    let parts = both_true (restore == number) (same_ids chain other) is in (same_number restore number parts.0, sym ((bytes_decides chain other).0 parts.1))
goes number chain (replays restore other upto part) is =
    let parts = both_true (restore == number) (same_ids chain other) is in (same_number restore number parts.0, sym ((bytes_decides chain other).0 parts.1))
goes number chain stale is = absurd (false≢true is)
goes number chain lost is = absurd (false≢true is)

goes_back : (number : ℕ) (chain : List ℕ) (lane : LaneState) → GoesOnBy number chain lane → goes_by number chain lane ≡ true
goes_back number chain (stands upto part) is = absurd is
goes_back number chain (blank restore) is = number_itself restore number is
goes_back number chain (merges restore other archive entries) is =
    both_are (restore == number) (same_ids chain other) (number_itself restore number is.0) ((bytes_decides chain other).1 (sym is.1))
goes_back number chain (replays restore other upto part) is =
    both_are (restore == number) (same_ids chain other) (number_itself restore number is.0) ((bytes_decides chain other).1 (sym is.1))
goes_back number chain stale is = absurd is
goes_back number chain lost is = absurd is

ready_goes : (go_on : Bool) (number : ℕ) (chain : List ℕ) (lane : LaneState) → is_ready go_on number chain lane ≡ true → GoesOnBy number chain lane
ready_goes go_on number chain (stands upto part) is = goes number chain (stands upto part) (both_true go_on _ is).1
ready_goes go_on number chain (blank restore) is = same_number restore number is
ready_goes go_on number chain (merges restore other archive entries) is = goes number chain (merges restore other archive entries) (both_true go_on _ is).1
ready_goes go_on number chain (replays restore other upto part) is = goes number chain (replays restore other upto part) (both_true go_on _ is).1
ready_goes go_on number chain stale is = goes number chain stale (both_true go_on _ is).1
ready_goes go_on number chain lost is = goes number chain lost (both_true go_on _ is).1

on_the_way : (number : ℕ) (chain : List ℕ) (lane : LaneState) → GoesOnBy number chain lane → IsOnTheWay number lane
on_the_way number chain (stands upto part) is = is
on_the_way number chain (blank restore) is = is
on_the_way number chain (merges restore other archive entries) is = is.0
on_the_way number chain (replays restore other upto part) is = is.0
on_the_way number chain stale is = is
on_the_way number chain lost is = tt

-- each lane is on its way by the chain that is planned for it
abbrev pub GoByPlan : Active → Site → Type 0
GoByPlan restore site = EachLane (λ space lane. GoesOnBy restore.number (chain_ids site space restore.to) lane) 0 site.lanes

all_on_the_way : (number : ℕ) (chain : ℕ → List ℕ) (space : ℕ) (lanes : List LaneState) → EachLane (λ n lane. GoesOnBy number (chain n) lane) space lanes
    → AllByRecursion (IsOnTheWay number) lanes
all_on_the_way number chain space [] all = tt
all_on_the_way number chain space (lane ∷ lanes) all = (on_the_way number (chain space) lane all.0, all_on_the_way number chain (suc space) lanes all.1)

all_go : (number : ℕ) (chain : ℕ → List ℕ) (space : ℕ) (lanes : List LaneState) → all_lanes (λ n lane. goes_by number (chain n) lane) space lanes ≡ true
    → EachLane (λ n lane. GoesOnBy number (chain n) lane) space lanes
all_go number chain space [] is = tt
all_go number chain space (lane ∷ lanes) is =
    let parts = both_true (goes_by number (chain space) lane) (all_lanes (λ n l. goes_by number (chain n) l) (suc space) lanes) is in
    (goes number (chain space) lane parts.0, all_go number chain (suc space) lanes parts.1)

all_back : (number : ℕ) (chain : ℕ → List ℕ) (space : ℕ) (lanes : List LaneState) → EachLane (λ n lane. GoesOnBy number (chain n) lane) space lanes
    → all_lanes (λ n lane. goes_by number (chain n) lane) space lanes ≡ true
all_back number chain space [] all = refl
all_back number chain space (lane ∷ lanes) all =
    both_are (goes_by number (chain space) lane) (all_lanes (λ n l. goes_by number (chain n) l) (suc space) lanes)
    (goes_back number (chain space) lane all.0) (all_back number chain (suc space) lanes all.1)

module _ (restore : Active) where
  -- Before the Reset of a restore, marked as prepared or not: each space has a chain for it, and there is a position for the Reset.
  pub record IsBefore (prepared : Bool) (site : Site) : Type 0 where
    pub is : site.active ≡ Some (with_prepared prepared restore)
    pub before : EndsInReset site.history (with_prepared prepared restore) → ⊥
    pub chains : (space : ℕ) → space < length site.head.spaces → 1 ≤ length (chain_ids site space restore.to)
    pub few : length site.history < 2 ^ 48

  -- with the log there
  pub record IsWithLog (prepared : Bool) (site : Site) : Type 0 where
    pub state : IsBefore prepared site
    pub has : HasRing site

  -- and each lane on its way by its plan
  pub record IsReady (prepared : Bool) (site : Site) : Type 0 where
    pub state : IsBefore prepared site
    pub has : HasRing site
    pub go : GoByPlan restore site

  not_before : (a b : Bool) (site : Site) → (EndsInReset site.history (with_prepared a restore) → ⊥) → EndsInReset site.history (with_prepared b restore) → ⊥
  not_before a b site before ends = before (record { time = ends.time; is = ends.is })

  leads_format : RestartsFrom (IsBefore false) (λ site. make (format_lost site.ring)) (IsWithLog false)
  unfolding site_rules
  leads_format site fit state = by site.ring refl
    where
      by : (ring : Option Ring) → site.ring ≡ ring → Restarts site (make (format_lost ring)) (IsWithLog false)
      by (Some ring) is = record { can = tt; then_holds = λ none. record { state = state; has = record { ring = ring; is = is } } }
      by None is = record {
        can = (
          record {
            under = with_prepared false restore;
            is = state.is;
            next = tt;
            can = record { is_lost = is; under = with_prepared false restore; is = state.is; unprepared = refl; few = state.few };
          },
          tt,
        );
        then_holds = λ none. record {
          state = record { is = state.is; before = state.before; chains = state.chains; few = state.few };
          has = record { ring = ring_from (length site.starts); is = refl };
        };
      }

  module _ (go_on : Bool) (site : Site) (state : IsBefore false site) where
    lane_empties : (space : ℕ) (lane : LaneState) (b : Bool) → CanLane site space lane (if b then lane else blank restore.number)
    lane_empties space lane true = stays refl
    lane_empties space lane false = may_prepare (record { under = with_prepared false restore; is = state.is; unprepared = refl; to = refl })

    lanes_empty : (space : ℕ) (lanes : List LaneState)
        → EachCan site space lanes (each_lane (λ n lane. if is_ready go_on restore.number (chain_ids site n restore.to) lane then lane else blank restore.number) space lanes)
    lanes_empty space [] = tt
    lanes_empty space (lane ∷ lanes) =
        (lane_empties space lane (is_ready go_on restore.number (chain_ids site space restore.to) lane), lanes_empty (suc space) lanes)

    lane_is_ready : (space : ℕ) (lane : LaneState) (b : Bool) → (is_ready go_on restore.number (chain_ids site space restore.to) lane) ≡ b
        → GoesOnBy restore.number (chain_ids site space restore.to) (if b then lane else blank restore.number)
    lane_is_ready space lane true is = ready_goes go_on restore.number (chain_ids site space restore.to) lane is
    lane_is_ready space lane false is = refl

    lanes_are_ready : (space : ℕ) (lanes : List LaneState) → EachLane (λ n lane. GoesOnBy restore.number (chain_ids site n restore.to) lane) space
        (each_lane (λ n lane. if is_ready go_on restore.number (chain_ids site n restore.to) lane then lane else blank restore.number) space lanes)
    lanes_are_ready space [] = tt
    lanes_are_ready space (lane ∷ lanes) =
        (lane_is_ready space lane (is_ready go_on restore.number (chain_ids site space restore.to) lane) refl, lanes_are_ready (suc space) lanes)

    all_kept : (space : ℕ) (lanes : List LaneState) → all_lanes (λ n lane. is_ready go_on restore.number (chain_ids site n restore.to) lane) space lanes ≡ true
        → EachLane (λ n lane. GoesOnBy restore.number (chain_ids site n restore.to) lane) space lanes
    all_kept space [] is = tt
    all_kept space (lane ∷ lanes) is =
        let parts = both_true (is_ready go_on restore.number (chain_ids site space restore.to) lane)
        (all_lanes (λ n l. is_ready go_on restore.number (chain_ids site n restore.to) l) (suc space) lanes) is in (
          ready_goes go_on restore.number (chain_ids site space restore.to) lane parts.0,
          all_kept (suc space) lanes parts.1,
        )

  abbrev goal_of : Bool → Site → ℕ → LaneState → LaneState
  goal_of go_on site space lane = if is_ready go_on restore.number (chain_ids site space restore.to) lane then lane else blank restore.number

  lane_isnt_there : (go_on : Bool) (site : Site) (space : ℕ) (lane : LaneState) → is_ready go_on restore.number (chain_ids site space restore.to) lane ≡ false
      → goal_of go_on site space lane ≡ lane → ⊥
  lane_isnt_there go_on site space lane isnt same = true≢false (sym blank_is ∙ isnt)
    where
      emptied : blank restore.number ≡ lane
      emptied = ap (λ (b : Bool). if b then lane else blank restore.number) (sym isnt) ∙ same

      blank_is : is_ready go_on restore.number (chain_ids site space restore.to) lane ≡ true
      blank_is = subst (λ (l : LaneState). is_ready go_on restore.number (chain_ids site space restore.to) l ≡ true) emptied (number_itself restore.number restore.number refl)

  lane_goes_on : (go_on : Bool) (site : Site) (space : ℕ) (lane : LaneState)
      → (goal_of go_on site space lane ≡ blank restore.number)
      ⊎ ((goal_of go_on site space lane ≡ lane) × GoesOnBy restore.number (chain_ids site space restore.to) lane)
  lane_goes_on go_on site space lane = by (is_ready go_on restore.number (chain_ids site space restore.to) lane) refl
    where
      by : (b : Bool) → is_ready go_on restore.number (chain_ids site space restore.to) lane ≡ b
          → ((if b then lane else blank restore.number) ≡ blank restore.number)
          ⊎ (((if b then lane else blank restore.number) ≡ lane) × GoesOnBy restore.number (chain_ids site space restore.to) lane)
      by true is = inr (refl, ready_goes go_on restore.number (chain_ids site space restore.to) lane is)
      by false is = inl refl

  leads_empty : (go_on : Bool) → RestartsFrom (IsWithLog false) (empty_lanes go_on restore.number restore.to) (IsReady false)
  unfolding site_rules
  leads_empty go_on site fit with_log = by (all_lanes (λ space lane. is_ready go_on restore.number (chain_ids site space restore.to) lane) 0 site.lanes) refl
    where
      goal : ℕ → LaneState → LaneState
      goal = goal_of go_on site

      by : (b : Bool) → all_lanes (λ space lane. is_ready go_on restore.number (chain_ids site space restore.to) lane) 0 site.lanes ≡ b
          → Restarts site (make (if b then [] else move_lanes (each_lane
          (λ space lane. if is_ready go_on restore.number (chain_ids site space restore.to) lane then lane else blank restore.number) 0 site.lanes) ∷ [])) (IsReady false)
      by true is = record {
        can = tt;
        then_holds = λ none. record { state = with_log.state; has = with_log.has; go = all_kept go_on site with_log.state 0 site.lanes is };
      }
      by false is = record {
        can = (
          record {
            under = with_prepared false restore;
            is = with_log.state.is;
            next = (
              some_lane_moves (λ space lane. is_ready go_on restore.number (chain_ids site space restore.to) lane) goal (lane_isnt_there go_on site) 0 site.lanes is,
              prepares refl with_log.has
                  (each_goal (λ space lane g. (g ≡ blank restore.number) ⊎ ((g ≡ lane) × GoesOnBy restore.number (chain_ids site space restore.to) lane)) goal
                  (lane_goes_on go_on site) 0 site.lanes),
            );
            can = lanes_empty go_on site with_log.state 0 site.lanes;
          },
          tt,
        );
        then_holds = λ none. record {
          state = record { is = with_log.state.is; before = with_log.state.before; chains = with_log.state.chains; few = with_log.state.few };
          has = record { ring = with_log.has.ring; is = with_log.has.is };
          go = lanes_are_ready go_on site with_log.state 0 site.lanes;
        };
      }

  leads_mark : RestartsFrom (IsReady false) (mark_prepared true) (IsReady true)
  unfolding site_rules
  leads_mark site fit ready = record {
    can = (
      record {
        under = with_prepared false restore;
        is = ready.state.is;
        next = (refl, ready.has, ready.go);
        can = record {
          under = with_prepared false restore;
          is = ready.state.is;
          before = ready.state.before;
          lanes = λ prepared ring is. all_on_the_way restore.number (λ space. chain_ids site space restore.to) 0 site.lanes ready.go;
        };
      },
      tt,
    );
    then_holds = λ none. record {
      state = record {
        is = ap (λ (o : Option Active). option_map (with_prepared true) o) ready.state.is;
        before = not_before false true site ready.state.before;
        chains = ready.state.chains;
        few = ready.state.few;
      };
      has = record { ring = ready.has.ring; is = ready.has.is };
      go = ready.go;
    };
  }

  pub leads_prepare : RestartsFrom (IsBefore false) (prepare restore.number restore.to) (IsReady true)
  leads_prepare site fit state =
      restarts_then (IsBefore false) (IsWithLog false) (IsReady true) (λ s. make (format_lost s.ring))
      (in_turn (empty_lanes (has_log site.ring) restore.number restore.to ∷ mark_prepared true ∷ [])) leads_format
      (restarts_then (IsWithLog false) (IsReady false) (IsReady true) (empty_lanes (has_log site.ring) restore.number restore.to) (in_turn (mark_prepared true ∷ []))
      (leads_empty (has_log site.ring))
      (restarts_then (IsReady false) (IsReady true) (IsReady true) (mark_prepared true) (in_turn []) leads_mark (restarts_none (IsReady true))))
      site fit state

  -- with the log there, and some lane going by another chain
  record IsStray (site : Site) : Type 0 where
    with_log : IsWithLog true site
    strays : GoByPlan restore site → ⊥

  leads_unmark : RestartsFrom IsStray (mark_prepared false) (IsBefore false)
  unfolding site_rules
  leads_unmark site fit stray = record {
    can = (
      record {
        under = with_prepared true restore;
        is = stray.with_log.state.is;
        next = (refl, stray.strays);
        can = record {
          under = with_prepared true restore;
          is = stray.with_log.state.is;
          before = stray.with_log.state.before;
          lanes = λ prepared ring is. absurd (false≢true prepared);
        };
      },
      tt,
    );
    then_holds = λ none. record {
      is = ap (λ (o : Option Active). option_map (with_prepared false) o) stray.with_log.state.is;
      before = not_before true false site stray.with_log.state.before;
      chains = stray.with_log.state.chains;
      few = stray.with_log.state.few;
    };
  }

  -- a restore whose lanes aren't prepared makes them ready
  pub leads_first : RestartsFrom (IsBefore false) (make_ready false restore.number restore.to) (IsReady true)
  leads_first = leads_prepare

  -- one whose lanes are prepared makes them ready again, where some has gone by another chain
  pub leads_again : RestartsFrom (IsWithLog true) (make_ready true restore.number restore.to) (IsReady true)
  leads_again site fit with_log = by (all_go_by site restore.number restore.to) refl
    where
      by : (b : Bool) → all_go_by site restore.number restore.to ≡ b
          → Restarts site (if b then only None else in_turn (mark_prepared false ∷ prepare restore.number restore.to ∷ []) site) (IsReady true)
      by true is = record {
        can = tt;
        then_holds = λ none. record {
          state = with_log.state;
          has = with_log.has;
          go = all_go restore.number (λ space. chain_ids site space restore.to) 0 site.lanes is;
        };
      }
      by false is =
          restarts_then IsStray (IsBefore false) (IsReady true) (mark_prepared false) (in_turn (prepare restore.number restore.to ∷ [])) leads_unmark
          (restarts_then (IsBefore false) (IsReady true) (IsReady true) (prepare restore.number restore.to) (in_turn []) leads_prepare (restarts_none (IsReady true)))
          site fit (record {
            with_log = with_log;
            strays = λ go. true≢false (sym (all_back restore.number (λ space. chain_ids site space restore.to) 0 site.lanes go) ∙ is);
          })
