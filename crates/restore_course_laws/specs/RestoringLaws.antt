-- A restart brings a restore to its end by moves that may be made.
use Rattle.std.specs.Prelude.{◌≡◌, ◌⊎◌, ℕ, suc, ◌+◌, ◌-◌, ◌^◌, ◌<◌, ◌≤◌, ◌&&◌, ◌==◌, max, List, [], ◌∷◌, ◌++◌, length, Bool, true, false, nat_lt, if◌then◌else◌, Option, None, Some}
use Rattle.std.specs.List.{AllByRecursion}
use Rattle.std.specs.Option.{option_map}
use mathlib.Core.Logic.{inl, inr}
use Rattle.std.proofs.Common.{arith, refl, sym, ap, subst, ◌∙◌, ⊎_elim, length-append}
use Rattle.std.proofs.lemmas.Bool.{false≢true, true≢false}
use Rattle.std.proofs.lemmas.Bool.Decides.{nat_tests}
use Rattle.log_history.specs.History.{reset, entry_at}
use Rattle.log_history.specs.Transactions.{last_time}
use Rattle.walks.specs.Courses.{after_all, make}
use Rattle.backup_lines.specs.Spans.{Active}
use Rattle.site_worlds.specs.Worlds.{Ring, LaneState, Site, stands, blank, merges, replays, stale, lost}
use Rattle.site_worlds.specs.Files.{first_of_file, HasRecords, IsEmptyAtEnd, IsSaved, EndsInReset}
use Rattle.site_worlds.specs.Lanes.{IsReplayed, IsAtEnd, EachLane}
use Rattle.site_worlds.specs.Fitness.{FitRing}
use Rattle.site_worlds.specs.Moves.{Move, with_prepared, opened, less_oldest, append_reset, drop_oldest, next_file, end_restore, move_lanes, site_after, site_rules}
use Rattle.site_worlds.specs.Allowed.{HasRing, GoesOnBy, CanLane, stays, restores, finishes as may_finish, EachCan, CanReset}
use Rattle.world_laws.specs.ListLaws.{none_some, some_same}
use Rattle.world_laws.specs.GrowthLaws.{entry_behind, first_beyond}
use Rattle.world_laws.specs.RingLaws.{ring_of, saved_of}
use Rattle.world_laws.specs.OpenLaws.{empty_at_end}
use Rattle.site_stories.specs.Restarts.{IsRestart, IsBeforeReset, brings, finishes}
use Rattle.site_courses.specs.Courses.{in_turn}
use Rattle.site_courses.specs.Appending.{is_ring_full}
use Rattle.site_courses.specs.Plans.{chain_ids}
use Rattle.site_courses.specs.Restores.{each_lane, all_lanes, is_replayed_at, restore_lanes, is_open_and_empty, file_for_reset, write_reset, stands_at, finish, go_on}
use Rattle.restore_course_laws.specs.Restarting.{Restarts, RestartsFrom, restarts_none, restarts_then, each_goal, some_lane_moves}
use Rattle.course_laws.specs.AppendingLaws.{above, at_most, not_above, not_at_most, one_on}
use Rattle.restore_course_laws.specs.PreparingLaws.{both_true, same_number, IsReady}

number_there : (n : ℕ) → ((n == n) && (0 == 0)) ≡ true
number_there n = grind (arith, nat_tests)

-- a lane at the restore's position
abbrev pub IsBrought : Active → LaneState → Type 0
IsBrought restore (replays number chain upto part) = (number ≡ restore.number) × (upto ≡ restore.to) × (part ≡ 0)
IsBrought restore lane = ⊥

-- or at its Reset
abbrev pub IsEnding : Active → ℕ → LaneState → Type 0
IsEnding restore end lane = (lane ≡ stands end 0) ⊎ IsBrought restore lane

brought_replayed : (restore : Active) (prepared : Bool) (lane : LaneState) → IsBrought restore lane → IsReplayed (with_prepared prepared restore) lane
brought_replayed restore prepared (replays number chain upto part) is = is
brought_replayed restore prepared (stands upto part) is = is
brought_replayed restore prepared (blank number) is = is
brought_replayed restore prepared (merges number chain archive entries) is = is
brought_replayed restore prepared stale is = is
brought_replayed restore prepared lost is = tt

all_replayed : (restore : Active) (prepared : Bool) (lanes : List LaneState) → AllByRecursion (IsBrought restore) lanes → AllByRecursion (IsReplayed (with_prepared prepared restore)) lanes
all_replayed restore prepared [] all = tt
all_replayed restore prepared (lane ∷ lanes) all = (brought_replayed restore prepared lane all.0, all_replayed restore prepared lanes all.1)

all_ending : (restore : Active) (end : ℕ) (lanes : List LaneState) → AllByRecursion (IsBrought restore) lanes → AllByRecursion (IsEnding restore end) lanes
all_ending restore end [] all = tt
all_ending restore end (lane ∷ lanes) all = (inr all.0, all_ending restore end lanes all.1)

module _ (restore : Active) where
  -- each lane is at the restore's position, by the chain that is planned for it
  abbrev pub HaveCome : Site → Type 0
  HaveCome site = EachLane (λ space lane. lane ≡ replays restore.number (chain_ids site space restore.to) restore.to 0) 0 site.lanes

  come_brought : (chain : ℕ → List ℕ) (space : ℕ) (lanes : List LaneState) → EachLane (λ n lane. lane ≡ replays restore.number (chain n) restore.to 0) space lanes
      → AllByRecursion (IsBrought restore) lanes
  come_brought chain space [] all = tt
  come_brought chain space (lane ∷ lanes) all = (subst (IsBrought restore) (sym all.0) (refl, refl, refl), come_brought chain (suc space) lanes all.1)

  all_come : (site : Site) → HaveCome site → AllByRecursion (IsBrought restore) site.lanes
  all_come site come = come_brought (λ space. chain_ids site space restore.to) 0 site.lanes come

  -- all lanes are at the restore's position, before its Reset
  pub record AreBrought (site : Site) : Type 0 where
    pub is : site.active ≡ Some (with_prepared true restore)
    pub before : EndsInReset site.history (with_prepared true restore) → ⊥
    pub few : length site.history < 2 ^ 48
    pub has : HasRing site
    pub come : HaveCome site

  -- the Reset is written
  pub record AreEnding (site : Site) : Type 0 where
    pub is : site.active ≡ Some (with_prepared true restore)
    pub has : HasRing site
    pub ends : EndsInReset site.history (with_prepared true restore)
    pub all : AllByRecursion (IsEnding restore (length site.history)) site.lanes

  -- the restore has ended: its Reset is the last record, and each lane stands there
  pub record HasEnded (site : Site) : Type 0 where
    pub none : site.active ≡ None
    pub ends : EndsInReset site.history restore
    pub all : AllByRecursion (λ lane. lane ≡ stands (length site.history) 0) site.lanes

  -- lanes are brought to the position

  module _ (site : Site) (ready : IsReady restore true site) where
    lanes_restore : (space : ℕ) (lanes : List LaneState) → space + length lanes ≤ length site.head.spaces
        → EachLane (λ n lane. GoesOnBy restore.number (chain_ids site n restore.to) lane) space lanes
        → EachCan site space lanes (each_lane (λ n lane. replays restore.number (chain_ids site n restore.to) restore.to 0) space lanes)
    lanes_restore space [] within all = tt
    lanes_restore space (lane ∷ lanes) within all = (
      restores (record {
        under = with_prepared true restore;
        is = ready.state.is;
        prepared = refl;
        has = ready.has;
        before = ready.state.before;
        some = ready.state.chains space (omega (arith, within));
        from = all.0;
        to = refl;
      }),
      lanes_restore (suc space) lanes (omega (arith, within)) all.1,
    )

  lanes_come : (site : Site) (space : ℕ) (lanes : List LaneState)
      → EachLane (λ n lane. lane ≡ replays restore.number (chain_ids site n restore.to) restore.to 0) space
      (each_lane (λ n lane. replays restore.number (chain_ids site n restore.to) restore.to 0) space lanes)
  lanes_come site space [] = tt
  lanes_come site space (lane ∷ lanes) = (refl, lanes_come site (suc space) lanes)

  one_come : (chain : List ℕ) (lane : LaneState) → GoesOnBy restore.number chain lane → is_replayed_at restore.to lane ≡ true
      → lane ≡ replays restore.number chain restore.to 0
  one_come chain (replays number other upto part) goes is =
      let parts = both_true (upto == restore.to) (part == 0) is in
      ap (λ (n : ℕ). replays n other upto part) goes.0 ∙ ap (λ (l : List ℕ). replays restore.number l upto part) goes.1
      ∙ ap (λ (n : ℕ). replays restore.number chain n part) (same_number upto restore.to parts.0)
      ∙ ap (replays restore.number chain restore.to) (same_number part 0 parts.1)
  one_come chain (stands upto part) goes is = absurd (false≢true is)
  one_come chain (blank number) goes is = absurd (false≢true is)
  one_come chain (merges number other archive entries) goes is = absurd (false≢true is)
  one_come chain stale goes is = absurd (false≢true is)
  one_come chain lost goes is = absurd (false≢true is)

  have_come : (chain : ℕ → List ℕ) (space : ℕ) (lanes : List LaneState) → EachLane (λ n lane. GoesOnBy restore.number (chain n) lane) space lanes
      → all_lanes (λ n lane. is_replayed_at restore.to lane) space lanes ≡ true
      → EachLane (λ n lane. lane ≡ replays restore.number (chain n) restore.to 0) space lanes
  have_come chain space [] all is = tt
  have_come chain space (lane ∷ lanes) all is =
      let parts = both_true (is_replayed_at restore.to lane) (all_lanes (λ n l. is_replayed_at restore.to l) (suc space) lanes) is in
      (one_come (chain space) lane all.0 parts.0, have_come chain (suc space) lanes all.1 parts.1)

  not_replayed : (site : Site) (space : ℕ) (lane : LaneState) → is_replayed_at restore.to lane ≡ false
      → replays restore.number (chain_ids site space restore.to) restore.to 0 ≡ lane → ⊥
  not_replayed site space lane isnt same = true≢false (sym there ∙ isnt)
    where
      there : is_replayed_at restore.to lane ≡ true
      there = subst (λ (l : LaneState). is_replayed_at restore.to l ≡ true) same (number_there restore.to)

  leads_restore_lanes : RestartsFrom (IsReady restore true) (restore_lanes restore.number restore.to) AreBrought
  unfolding site_rules
  leads_restore_lanes site fit ready = by (all_lanes (λ space lane. is_replayed_at restore.to lane) 0 site.lanes) refl
    where
      by : (b : Bool) → all_lanes (λ space lane. is_replayed_at restore.to lane) 0 site.lanes ≡ b
          → Restarts site (make (if b then [] else move_lanes (each_lane (λ space lane. replays restore.number (chain_ids site space restore.to) restore.to 0) 0 site.lanes) ∷ [])) AreBrought
      by true is = record {
        can = tt;
        then_holds = λ none. record {
          is = ready.state.is;
          before = ready.state.before;
          few = ready.state.few;
          has = ready.has;
          come = have_come (λ space. chain_ids site space restore.to) 0 site.lanes ready.go is;
        };
      }
      by false is = record {
        can = (
          record {
            under = with_prepared true restore;
            is = ready.state.is;
            next = (
              some_lane_moves (λ space lane. is_replayed_at restore.to lane) (λ space lane. replays restore.number (chain_ids site space restore.to) restore.to 0)
                  (not_replayed site) 0 site.lanes is,
              brings refl (each_goal (λ space lane g. g ≡ replays restore.number (chain_ids site space restore.to) restore.to 0)
                  (λ space lane. replays restore.number (chain_ids site space restore.to) restore.to 0) (λ space lane. refl) 0 site.lanes),
            );
            can = lanes_restore site ready 0 site.lanes (omega (arith, fit.lanes.count)) ready.go;
          },
          tt,
        );
        then_holds = λ none. record {
          is = ready.state.is;
          before = ready.state.before;
          few = ready.state.few;
          has = record { ring = ready.has.ring; is = ready.has.is };
          come = lanes_come site 0 site.lanes;
        };
      }

  -- the Reset

  can_reset : (site : Site) (has : HasRing site) → site.active ≡ Some (with_prepared true restore) → (EndsInReset site.history (with_prepared true restore) → ⊥)
      → length site.history < 2 ^ 48 → AllByRecursion (IsBrought restore) site.lanes → has.ring.is_open ≡ true → IsEmptyAtEnd site.starts site.history
      → (time : ℕ) → last_time site.history ≤ time → CanReset restore.number restore.to time site
  can_reset site has is before few all is_open empty time le = record {
    under = with_prepared true restore;
    is = is;
    prepared = refl;
    same = refl;
    goes_back = refl;
    has = has;
    open_file = is_open;
    empty = empty;
    first = before;
    few = few;
    in_time = le;
    replayed = all_replayed restore true site.lanes all;
  }

  ending : (site : Site) → HasRing site → site.active ≡ Some (with_prepared true restore) → AllByRecursion (IsBrought restore) site.lanes → (time : ℕ)
      → AreEnding (site_after (append_reset restore.number restore.to time) site)
  ending site has is all time = record {
    is = is;
    has = record { ring = has.ring; is = has.is };
    ends = record {
      time = time;
      is = ap (entry_at (site.history ++ reset restore.number restore.to time ∷ [])) (length-append site.history (reset restore.number restore.to time ∷ []) ∙ one_on (length site.history))
          ∙ entry_behind site.history (reset restore.number restore.to time);
    };
    all = all_ending restore (length (site.history ++ reset restore.number restore.to time ∷ [])) site.lanes all;
  }

  -- the Reset is the next move of the restore
  resets : (site : Site) (has : HasRing site) → site.active ≡ Some (with_prepared true restore) → (EndsInReset site.history (with_prepared true restore) → ⊥)
      → length site.history < 2 ^ 48 → HaveCome site → has.ring.is_open ≡ true → IsEmptyAtEnd site.starts site.history
      → (time : ℕ) → last_time site.history ≤ time → IsRestart (append_reset restore.number restore.to time ∷ []) site
  resets site has is before few come is_open empty time le = (
    record {
      under = with_prepared true restore;
      is = is;
      next = come;
      can = can_reset site has is before few (all_come site come) is_open empty time le;
    },
    tt,
  )

  module _ (site : Site) (has : HasRing site) (is : site.active ≡ Some (with_prepared true restore)) (before : EndsInReset site.history (with_prepared true restore) → ⊥)
      (few : length site.history < 2 ^ 48) (come : HaveCome site) (time : ℕ) (le : last_time site.history ≤ time)
      (filled : HasRecords site.starts site.history (length site.starts)) where
    abbrev has_opened : HasRing (site_after next_file site)
    has_opened = record { ring = record has.ring { is_open = true }; is = ap (option_map opened) has.is }

    abbrev now_resets : IsBeforeReset (with_prepared true restore) site
    now_resets = record { prepared = refl; before = before; come = come }

    can_next_reset : suc (length site.starts) < has.ring.oldest + 8 → IsRestart (next_file ∷ append_reset restore.number restore.to time ∷ []) site
    can_next_reset left = (
      record {
        under = with_prepared true restore;
        is = is;
        next = now_resets;
        can = record { has = has; filled = filled; few = few; room = left };
      },
      resets (site_after next_file site) has_opened is before few come refl (empty_at_end site.history site.starts) time le,
    )

    next_ending : AreEnding (after_all site_rules (next_file ∷ append_reset restore.number restore.to time ∷ []) site)
    unfolding site_rules
    next_ending = ending (site_after next_file site) has_opened is (all_come site come) time

  leads_write : (moment : ℕ) → RestartsFrom AreBrought (write_reset restore.number restore.to moment) AreEnding
  unfolding site_rules
  leads_write moment site fit brought = subst (λ (o : Option Ring). Restarts site (make (file_for_reset site o ++ moves)) AreEnding) (sym brought.has.is)
      (by (is_open_and_empty site brought.has.ring) refl)
    where
      moves : List Move
      moves = append_reset restore.number restore.to (max moment (last_time site.history)) ∷ []

      holds : FitRing site.history site.starts site.lines brought.has.ring
      holds = ring_of site brought.has.ring brought.has.is fit

      le : last_time site.history ≤ max moment (last_time site.history)
      le = omega arith

      saved : IsSaved site.history site.starts brought.has.ring
      saved = ⊎_elim (λ is. is) (λ ends. absurd (brought.before ends))
          (saved_of site brought.has.ring (with_prepared true restore) brought.has.is (fit.restore.fits (with_prepared true restore) brought.is).saved)

      behind : first_of_file site.starts site.history (length site.starts + 1) ≡ suc (length site.history)
      behind = first_beyond site.starts (length site.history) (length site.starts + 1 - 1) (omega arith)

      filled : is_open_and_empty site brought.has.ring ≡ false → HasRecords site.starts site.history (length site.starts)
      filled isnt = by_open brought.has.ring.is_open refl isnt
        where
          by_open : (b : Bool) → brought.has.ring.is_open ≡ b → (b && nat_lt (length site.history) (first_of_file site.starts site.history (length site.starts))) ≡ false
              → HasRecords site.starts site.history (length site.starts)
          by_open true is full = omega (arith, behind, not_above (length site.history) (first_of_file site.starts site.history (length site.starts)) full)
          by_open false is full = holds.filled is

      empty : is_open_and_empty site brought.has.ring ≡ true → IsEmptyAtEnd site.starts site.history
      empty is = omega (
        arith,
        fit.history.inside (length site.starts),
        above (length site.history) (first_of_file site.starts site.history (length site.starts)) (both_true brought.has.ring.is_open _ is).1,
      )

      by_ring : HasRecords site.starts site.history (length site.starts) → (b : Bool) → is_ring_full site.starts brought.has.ring ≡ b
          → Restarts site (make (((if b then drop_oldest ∷ [] else []) ++ next_file ∷ []) ++ append_reset restore.number restore.to (max moment (last_time site.history)) ∷ [])) AreEnding
      by_ring has_records false is = record {
        can = can_next_reset site brought.has brought.is brought.before brought.few brought.come (max moment (last_time site.history)) le has_records
            (omega (arith, not_at_most (brought.has.ring.oldest + 7) (length site.starts) is));
        then_holds = λ none. next_ending site brought.has brought.is brought.before brought.few brought.come (max moment (last_time site.history)) le has_records;
      }
      by_ring has_records true is = dropped has_records (omega (arith, at_most (brought.has.ring.oldest + 7) (length site.starts) is)) (at_most (brought.has.ring.oldest + 7) (length site.starts) is)
        where
          dropped : HasRecords site.starts site.history (length site.starts) → brought.has.ring.oldest < length site.starts
              → brought.has.ring.oldest + 7 ≤ length site.starts
              → Restarts site (make (drop_oldest ∷ next_file ∷ append_reset restore.number restore.to (max moment (last_time site.history)) ∷ [])) AreEnding
          dropped has_records many full =
              let other : HasRing (site_after drop_oldest site) = record { ring = record brought.has.ring { oldest = suc brought.has.ring.oldest }; is = ap (option_map less_oldest) brought.has.is } in
              record {
                can = (
                  record {
                    under = with_prepared true restore;
                    is = brought.is;
                    next = (
                      record { prepared = refl; before = brought.before; come = brought.come },
                      λ has. subst (λ (r : Ring). r.oldest + 8 ≤ suc (length site.starts)) (some_same (sym brought.has.is ∙ has.is)) (omega (arith, full)),
                    );
                    can = record {
                      has = brought.has;
                      not_last = many;
                      saved = saved.backed brought.has.ring.oldest (omega arith) holds.held (fit.history.rising brought.has.ring.oldest holds.oldest many);
                      not_open = λ none. absurd (none_some (sym none ∙ brought.is));
                      not_needed = λ none. absurd (none_some (sym none ∙ brought.is));
                    };
                  },
                  can_next_reset (site_after drop_oldest site) other brought.is brought.before brought.few brought.come (max moment (last_time site.history)) le has_records
                      (omega (arith, holds.few)),
                );
                then_holds = λ none. next_ending (site_after drop_oldest site) other brought.is brought.before brought.few brought.come (max moment (last_time site.history)) le has_records;
              }

      by : (b : Bool) → is_open_and_empty site brought.has.ring ≡ b
          → Restarts site (make ((if b then [] else ((if is_ring_full site.starts brought.has.ring then drop_oldest ∷ [] else []) ++ next_file ∷ []))
          ++ append_reset restore.number restore.to (max moment (last_time site.history)) ∷ [])) AreEnding
      by true is = here is
        where
          here : is_open_and_empty site brought.has.ring ≡ true → Restarts site (make (append_reset restore.number restore.to (max moment (last_time site.history)) ∷ [])) AreEnding
          here is = record {
            can = resets site brought.has brought.is brought.before brought.few brought.come (both_true brought.has.ring.is_open _ is).0 (empty is) (max moment (last_time site.history)) le;
            then_holds = λ none. ending site brought.has brought.is (all_come site brought.come) (max moment (last_time site.history));
          }
      by false is = by_ring (filled is) (is_ring_full site.starts brought.has.ring) refl

  -- the end

  lane_finishes : (site : Site) (space : ℕ) (lane : LaneState) → AreEnding site → IsEnding restore (length site.history) lane → CanLane site space lane (stands (length site.history) 0)
  lane_finishes site space lane ending_now (inl is) = stays (sym is)
  lane_finishes site space (replays number chain upto part) ending_now (inr is) = may_finish (record {
    under = with_prepared true restore;
    is = ending_now.is;
    has = ending_now.has;
    ends = ending_now.ends;
    chain = chain;
    from = ap (λ (n : ℕ). replays n chain upto part) is.0 ∙ ap (λ (n : ℕ). replays restore.number chain n part) is.1 ∙ ap (λ (n : ℕ). replays restore.number chain restore.to n) is.2;
    to = refl;
  })
  lane_finishes site space (stands upto part) ending_now (inr is) = absurd is
  lane_finishes site space (blank number) ending_now (inr is) = absurd is
  lane_finishes site space (merges number chain archive entries) ending_now (inr is) = absurd is
  lane_finishes site space stale ending_now (inr is) = absurd is
  lane_finishes site space lost ending_now (inr is) = absurd is

  lanes_finish : (site : Site) (space : ℕ) (lanes : List LaneState) → AreEnding site → AllByRecursion (IsEnding restore (length site.history)) lanes
      → EachCan site space lanes (each_lane (λ n lane. stands (length site.history) 0) space lanes)
  lanes_finish site space [] ending_now all = tt
  lanes_finish site space (lane ∷ lanes) ending_now all = (lane_finishes site space lane ending_now all.0, lanes_finish site (suc space) lanes ending_now all.1)

  lanes_there : (end space : ℕ) (lanes : List LaneState) → AllByRecursion (λ lane. lane ≡ stands end 0) (each_lane (λ n lane. stands end 0) space lanes)
  lanes_there end space [] = tt
  lanes_there end space (lane ∷ lanes) = (refl, lanes_there end (suc space) lanes)

  one_there : (end : ℕ) (lane : LaneState) → stands_at end lane ≡ true → lane ≡ stands end 0
  one_there end (stands upto part) is =
      let parts = both_true (upto == end) (part == 0) is in
      ap (λ (n : ℕ). stands n part) (same_number upto end parts.0) ∙ ap (stands end) (same_number part 0 parts.1)
  one_there end (blank number) is = absurd (false≢true is)
  one_there end (merges number chain archive entries) is = absurd (false≢true is)
  one_there end (replays number chain upto part) is = absurd (false≢true is)
  one_there end stale is = absurd (false≢true is)
  one_there end lost is = absurd (false≢true is)

  all_there : (end space : ℕ) (lanes : List LaneState) → all_lanes (λ n lane. stands_at end lane) space lanes ≡ true → AllByRecursion (λ lane. lane ≡ stands end 0) lanes
  all_there end space [] is = tt
  all_there end space (lane ∷ lanes) is =
      let parts = both_true (stands_at end lane) (all_lanes (λ n l. stands_at end l) (suc space) lanes) is in
      (one_there end lane parts.0, all_there end (suc space) lanes parts.1)

  not_standing : (end : ℕ) (lane : LaneState) → stands_at end lane ≡ false → stands end 0 ≡ lane → ⊥
  not_standing end lane isnt same = true≢false (sym there ∙ isnt)
    where
      there : stands_at end lane ≡ true
      there = subst (λ (l : LaneState). stands_at end l ≡ true) same (number_there end)

  -- all lanes stand at the Reset
  record AreThere (site : Site) : Type 0 where
    is : site.active ≡ Some (with_prepared true restore)
    ends : EndsInReset site.history (with_prepared true restore)
    all : AllByRecursion (λ lane. lane ≡ stands (length site.history) 0) site.lanes

  leads_lanes_end : RestartsFrom AreEnding
      (λ site. make (if all_lanes (λ n lane. stands_at (length site.history) lane) 0 site.lanes then []
      else move_lanes (each_lane (λ n lane. stands (length site.history) 0) 0 site.lanes) ∷ [])) AreThere
  unfolding site_rules
  leads_lanes_end site fit ending_now = by (all_lanes (λ n lane. stands_at (length site.history) lane) 0 site.lanes) refl
    where
      by : (b : Bool) → all_lanes (λ n lane. stands_at (length site.history) lane) 0 site.lanes ≡ b
          → Restarts site (make (if b then [] else move_lanes (each_lane (λ n lane. stands (length site.history) 0) 0 site.lanes) ∷ [])) AreThere
      by true is = record { can = tt; then_holds = λ none. record { is = ending_now.is; ends = ending_now.ends; all = all_there (length site.history) 0 site.lanes is } }
      by false is = record {
        can = (
          record {
            under = with_prepared true restore;
            is = ending_now.is;
            next = (
              some_lane_moves (λ n lane. stands_at (length site.history) lane) (λ n lane. stands (length site.history) 0)
                  (λ n lane. not_standing (length site.history) lane) 0 site.lanes is,
              finishes ending_now.ends (each_goal (λ n lane g. g ≡ stands (length site.history) 0) (λ n lane. stands (length site.history) 0) (λ n lane. refl) 0 site.lanes),
            );
            can = lanes_finish site 0 site.lanes ending_now ending_now.all;
          },
          tt,
        );
        then_holds = λ none. record { is = ending_now.is; ends = ending_now.ends; all = lanes_there (length site.history) 0 site.lanes };
      }

  at_end : (end : ℕ) (lanes : List LaneState) → AllByRecursion (λ lane. lane ≡ stands end 0) lanes → AllByRecursion (IsAtEnd end) lanes
  at_end end [] all = tt
  at_end end (lane ∷ lanes) all = (subst (IsAtEnd end) (sym all.0) (refl, refl), at_end end lanes all.1)

  leads_end : RestartsFrom AreThere (λ site. make (end_restore ∷ [])) HasEnded
  unfolding site_rules
  leads_end site fit there = record {
    can = (
      record {
        under = with_prepared true restore;
        is = there.is;
        next = there.all;
        can = record { under = with_prepared true restore; is = there.is; ends = there.ends; lanes = at_end (length site.history) site.lanes there.all };
      },
      tt,
    );
    then_holds = λ none. record { none = refl; ends = record { time = there.ends.time; is = there.ends.is }; all = there.all };
  }

  pub leads_finish : RestartsFrom AreEnding finish HasEnded
  leads_finish site fit ending_now =
      restarts_then AreEnding AreThere HasEnded
      (λ s. make (if all_lanes (λ n lane. stands_at (length s.history) lane) 0 s.lanes then []
      else move_lanes (each_lane (λ n lane. stands (length s.history) 0) 0 s.lanes) ∷ []))
      (in_turn ((λ s. make (end_restore ∷ [])) ∷ [])) leads_lanes_end
      (restarts_then AreThere HasEnded HasEnded (λ s. make (end_restore ∷ [])) (in_turn []) leads_end (restarts_none HasEnded)) site fit ending_now

  -- A restore whose lanes are ready comes to its end.
  pub leads_go_on : (moment : ℕ) → RestartsFrom (IsReady restore true) (go_on restore.number restore.to moment) HasEnded
  leads_go_on moment =
      restarts_then (IsReady restore true) AreBrought HasEnded (restore_lanes restore.number restore.to) (in_turn (write_reset restore.number restore.to moment ∷ finish ∷ []))
      leads_restore_lanes
      (restarts_then AreBrought AreEnding HasEnded (write_reset restore.number restore.to moment) (in_turn (finish ∷ [])) (leads_write moment)
      (restarts_then AreEnding HasEnded HasEnded finish (in_turn []) leads_finish (restarts_none HasEnded)))
