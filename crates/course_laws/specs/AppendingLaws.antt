-- Room for records is made by moves that may be made.
use Rattle.std.specs.Prelude.{◌≡◌, ℕ, suc, ◌+◌, ◌-◌, ◌^◌, ◌<◌, ◌≤◌, ◌&&◌, List, [], ◌∷◌, ◌++◌, length, map, Bool, true, false, nat_lt, nat_le, if◌then◌else◌, Option, None, Some}
use Rattle.std.specs.List.{AllByRecursion, list_all}
use Rattle.std.proofs.Common.{arith, refl, sym, ap, subst}
use Rattle.std.proofs.lemmas.Bool.{false≢true}
use Rattle.std.proofs.lemmas.Bool.Decides.{nat_tests}
use Rattle.std.specs.Option.{option_map}
use Rattle.onbar_grammar.specs.Script.{Space}
use Rattle.log_history.specs.History.{LogEntry, History}
use Rattle.log_history.specs.Transactions.{InOrder, table_of, low, low_of}
use Rattle.walks.specs.Courses.{after_all, for_each}
use Rattle.walks.specs.CoursesLaws.{after_all-append}
use Rattle.backup_lines.specs.Spans.{Active}
use Rattle.site_worlds.specs.Worlds.{Ring, LaneState, Site, stands, blank, merges, replays, stale, lost}
use Rattle.site_worlds.specs.Files.{first_of_file, last_of_file, HasRecords}
use Rattle.site_worlds.specs.Lanes.{IsAtRest, IsAtEnd}
use Rattle.site_worlds.specs.Fitness.{IsWithin, FitRing, FitStep, AreAtRest, IsFitSite}
use Rattle.site_worlds.specs.Moves.{Move, opened, less_oldest, append_batch, drop_oldest, next_file, move_lanes, site_after, site_rules}
use Rattle.site_worlds.specs.Allowed.{IsNoReset, HasRing, CanAppend, CanLane, stays, advances, EachCan}
use Rattle.world_laws.specs.ListLaws.{all_weaker, none_some}
use Rattle.world_laws.specs.GrowthLaws.{first_beyond}
use Rattle.world_laws.specs.RingLaws.{ring_of, step_of}
use Rattle.world_laws.specs.OpenLaws.{empty_at_end}
use Rattle.world_laws.specs.KeptLaws.{CanAll, can_append}
use Rattle.site_courses.specs.Faults.{Fault, needs_restart, LogFull, not_backed_up, needed_by, no_position}
use Rattle.site_courses.specs.Courses.{check, in_turn, if_active, if_no_ring, if_log_lost, if_any_lost, is_at, to_end, lanes_to_end}
use Rattle.site_courses.specs.Appending.{Room, oldest_of, fits, wants_next, wants_drop, is_full, is_ring_full, room_behind, room, append_with, append_to, append_course, transactions_course}
use Rattle.course_laws.specs.Leading.{Leads, LeadsFrom, leads_check, leads_none, leads_then}

-- lanes that go to the end

-- with no restore under way a lane stands somewhere, or is lost
abbrev IsSettled : LaneState → Type 0
IsSettled (stands upto part) = Unit {0}
IsSettled lost = Unit {0}
IsSettled lane = ⊥

rests_settled : (history : History) (held : ℕ) (lane : LaneState) → IsAtRest history held lane → IsSettled lane
rests_settled history held (stands upto part) rests = tt
rests_settled history held (blank restore) rests = rests
rests_settled history held (merges restore chain archive entries) rests = rests
rests_settled history held (replays restore chain upto part) rests = rests
rests_settled history held stale rests = rests
rests_settled history held lost rests = tt

pub lane_can : (site : Site) (space : ℕ) (lane : LaneState) → site.active ≡ None → HasRing site → CanLane site space lane (to_end (length site.history) lane)
lane_can site space (stands upto part) none has = advances (record { none = none; has = has; upto = upto; part = part; from = refl; to = refl })
lane_can site space (blank restore) none has = stays refl
lane_can site space (merges restore chain archive entries) none has = stays refl
lane_can site space (replays restore chain upto part) none has = stays refl
lane_can site space stale none has = stays refl
lane_can site space lost none has = stays refl

pub lanes_can : (site : Site) (space : ℕ) (lanes : List LaneState) → site.active ≡ None → HasRing site → EachCan site space lanes (map (to_end (length site.history)) lanes)
lanes_can site space [] none has = tt
lanes_can site space (lane ∷ lanes) none has = (lane_can site space lane none has, lanes_can site (suc space) lanes none has)

lane_ended : (end : ℕ) (lane : LaneState) → IsSettled lane → IsAtEnd end (to_end end lane)
lane_ended end (stands upto part) settled = (refl, refl)
lane_ended end (blank restore) settled = settled
lane_ended end (merges restore chain archive entries) settled = settled
lane_ended end (replays restore chain upto part) settled = settled
lane_ended end stale settled = settled
lane_ended end lost settled = tt

lanes_ended : (end : ℕ) (lanes : List LaneState) → AllByRecursion IsSettled lanes → AllByRecursion (IsAtEnd end) (map (to_end end) lanes)
lanes_ended end [] all = tt
lanes_ended end (lane ∷ lanes) all = (lane_ended end lane all.0, lanes_ended end lanes all.1)

lane_is_there : (end : ℕ) (lane : LaneState) → IsSettled lane → is_at end lane ≡ true → IsAtEnd end lane
lane_is_there end (stands upto part) settled is = (grind (arith, nat_tests, is), grind (arith, nat_tests, is))
lane_is_there end (blank restore) settled is = settled
lane_is_there end (merges restore chain archive entries) settled is = settled
lane_is_there end (replays restore chain upto part) settled is = settled
lane_is_there end stale settled is = settled
lane_is_there end lost settled is = tt

pub first_true : (a b : Bool) → (a && b) ≡ true → a ≡ true
first_true true b is = refl
first_true false b is = is

pub second_true : (a b : Bool) → (a && b) ≡ true → b ≡ true
second_true true b is = is
second_true false b is = absurd (false≢true is)

lanes_are_there : (end : ℕ) (lanes : List LaneState) → AllByRecursion IsSettled lanes → list_all (is_at end) lanes ≡ true → AllByRecursion (IsAtEnd end) lanes
lanes_are_there end [] all is = tt
lanes_are_there end (lane ∷ lanes) all is = (
  lane_is_there end lane all.0 (first_true (is_at end lane) (list_all (is_at end) lanes) is),
  lanes_are_there end lanes all.1 (second_true (is_at end lane) (list_all (is_at end) lanes) is),
)

-- behind that all lanes are at the end, and nothing else has changed
pub record AreEnded (site other : Site) : Type 0 where
  pub lanes : List LaneState
  pub is : other ≡ record site { lanes = lanes }
  pub ended : AllByRecursion (IsAtEnd (length site.history)) lanes

pub can_end_lanes : (site : Site) → site.active ≡ None → HasRing site → CanAll (lanes_to_end site) site
can_end_lanes site none has = by (list_all (is_at (length site.history)) site.lanes)
  where
    by : (b : Bool) → CanAll (if b then [] else move_lanes (map (to_end (length site.history)) site.lanes) ∷ []) site
    by true = tt
    by false = (lanes_can site 0 site.lanes none has, tt)

pub lanes_are_ended : (site : Site) → AllByRecursion IsSettled site.lanes → AreEnded site (after_all site_rules (lanes_to_end site) site)
unfolding site_rules
lanes_are_ended site settled = by (list_all (is_at (length site.history)) site.lanes) refl
  where
    by : (b : Bool) → list_all (is_at (length site.history)) site.lanes ≡ b
        → AreEnded site (after_all site_rules (if b then [] else move_lanes (map (to_end (length site.history)) site.lanes) ∷ []) site)
    by true is = record { lanes = site.lanes; is = refl; ended = lanes_are_there (length site.history) site.lanes settled is }
    by false is = record {
      lanes = map (to_end (length site.history)) site.lanes;
      is = refl;
      ended = lanes_ended (length site.history) site.lanes settled;
    }

-- batches

-- a batch of 1 to 256 records that may come behind a history: in order, within the spaces, none a Reset
pub record IsBatch (spaces : List Space) (history : History) (records : List LogEntry) : Type 0 where
  pub some : 1 ≤ length records
  pub few : length records ≤ 256
  pub order : InOrder (history ++ records)
  pub within : AllByRecursion (IsWithin spaces) records
  pub plain : AllByRecursion IsNoReset records

abbrev pub AreBatches : List Space → History → List (List LogEntry) → Type 0
AreBatches spaces history [] = Unit {0}
AreBatches spaces history (records ∷ batches) = IsBatch spaces history records × AreBatches spaces (history ++ records) batches

-- no restore is under way, the log is there, and batches may come one after another
pub record IsReadyFor (batches : List (List LogEntry)) (site : Site) : Type 0 where
  pub none : site.active ≡ None
  pub has : HasRing site
  pub are : AreBatches site.head.spaces site.history batches

-- what the tests of room tell
pub not_above : (a b : ℕ) → nat_lt a b ≡ false → b ≤ a
not_above a b is = grind (arith, nat_tests, is)

pub above : (a b : ℕ) → nat_lt a b ≡ true → a < b
above a b is = grind (arith, nat_tests, is)

pub at_most : (a b : ℕ) → nat_le a b ≡ true → a ≤ b
at_most a b is = grind (arith, nat_tests, is)

pub not_at_most : (a b : ℕ) → nat_le a b ≡ false → b < a
not_at_most a b is = grind (arith, nat_tests, is)

pub one_on : (n : ℕ) → n + 1 ≡ suc n
one_on n = omega arith

-- a current file that can't take a batch of at most 256 records has some
filled_file : (site : Site) (ring : Ring) (records : List LogEntry) → FitRing site.history site.starts site.lines ring → length records ≤ 256
    → (ring.is_open && nat_lt (length site.history + length records) (first_of_file site.starts site.history (length site.starts) + 256)) ≡ false
    → HasRecords site.starts site.history (length site.starts)
filled_file site ring records holds few isnt = by ring.is_open refl isnt
  where
    behind : first_of_file site.starts site.history (length site.starts + 1) ≡ suc (length site.history)
    behind = first_beyond site.starts (length site.history) (length site.starts + 1 - 1) (omega arith)

    by : (b : Bool) → ring.is_open ≡ b → (b && nat_lt (length site.history + length records) (first_of_file site.starts site.history (length site.starts) + 256)) ≡ false
        → HasRecords site.starts site.history (length site.starts)
    by true is full = omega (arith, behind, few, not_above (length site.history + length records) (first_of_file site.starts site.history (length site.starts) + 256) full)
    by false is full = holds.filled is

module _ (records : List LogEntry) (batches : List (List LogEntry)) where
  -- behind the batch
  ready_behind : (site : Site) → site.active ≡ None → HasRing site → AreBatches site.head.spaces (site.history ++ records) batches
      → IsReadyFor batches (site_after (append_batch records) site)
  ready_behind site none has are = record { none = none; has = record { ring = has.ring; is = has.is }; are = are }

  can_append_here : (site : Site) (has : HasRing site) → site.active ≡ None → has.ring.is_open ≡ true → IsBatch site.head.spaces site.history records
      → length site.history + length records ≤ 2 ^ 48
      → length site.history + length records < first_of_file site.starts site.history (length site.starts) + 256 → CanAppend records site
  can_append_here site has none is_open batch few small = record {
    none = none;
    has = has;
    open_file = is_open;
    order = batch.order;
    within = batch.within;
    plain = batch.plain;
    few = few;
    small = small;
  }

  -- the next file is opened, and takes the batch
  module _ (site : Site) (has : HasRing site) (none : site.active ≡ None) (batch : IsBatch site.head.spaces site.history records)
      (few : length site.history + length records ≤ 2 ^ 48) (filled : HasRecords site.starts site.history (length site.starts))
      (room_left : suc (length site.starts) < has.ring.oldest + 8) where
    abbrev has_opened : HasRing (site_after next_file site)
    has_opened = record { ring = record has.ring { is_open = true }; is = ap (option_map opened) has.is }

    can_next : CanAll (next_file ∷ append_batch records ∷ []) site
    can_next = (
      record { has = has; filled = filled; few = omega (arith, few, batch.some); room = room_left },
      (can_append_here (site_after next_file site) has_opened none refl batch few (omega (arith, empty_at_end site.history site.starts, batch.few)), tt),
    )

    next_is_ready : AreBatches site.head.spaces (site.history ++ records) batches
        → IsReadyFor batches (after_all site_rules (next_file ∷ append_batch records ∷ []) site)
    unfolding site_rules
    next_is_ready are = ready_behind (site_after next_file site) none has_opened are

  -- the oldest file is dropped before, all lanes being at the end
  module _ (site : Site) (has : HasRing site) (none : site.active ≡ None) (batch : IsBatch site.head.spaces site.history records)
      (few : length site.history + length records ≤ 2 ^ 48) (filled : HasRecords site.starts site.history (length site.starts))
      (room_left : length site.starts < has.ring.oldest + 8) (many : has.ring.oldest < length site.starts) (saved : has.ring.oldest ≤ has.ring.backed)
      (unneeded : first_of_file site.starts site.history (suc has.ring.oldest) ≤ low site.history)
      (ended : AllByRecursion (IsAtEnd (length site.history)) site.lanes) where
    abbrev has_dropped : HasRing (site_after drop_oldest site)
    has_dropped = record { ring = record has.ring { oldest = suc has.ring.oldest }; is = ap (option_map less_oldest) has.is }

    can_drop : CanAll (drop_oldest ∷ next_file ∷ append_batch records ∷ []) site
    can_drop = (
      record { has = has; not_last = many; saved = saved; not_open = λ is. unneeded; not_needed = λ is. ended },
      can_next (site_after drop_oldest site) has_dropped none batch few filled (omega (arith, room_left)),
    )

    drop_is_ready : AreBatches site.head.spaces (site.history ++ records) batches
        → IsReadyFor batches (after_all site_rules (drop_oldest ∷ next_file ∷ append_batch records ∷ []) site)
    unfolding site_rules
    drop_is_ready are =
        let left : suc (length site.starts) < suc has.ring.oldest + 8 = omega (arith, room_left) in
        next_is_ready (site_after drop_oldest site) has_dropped none batch few filled left are

  -- the oldest file is dropped, once all lanes are at the end
  leads_drop : (site : Site) (has : HasRing site) → IsFitSite site → site.active ≡ None → IsBatch site.head.spaces site.history records
      → AreBatches site.head.spaces (site.history ++ records) batches → length site.history + length records ≤ 2 ^ 48
      → HasRecords site.starts site.history (length site.starts) → has.ring.oldest < length site.starts → has.ring.oldest ≤ has.ring.backed
      → last_of_file site.starts site.history has.ring.oldest < low site.history → Leads site (append_with wants_drop records site) (IsReadyFor batches)
  leads_drop site has fit none batch are few filled many saved unneeded = record {
    can = can_append (lanes_to_end site) moves site (can_end_lanes site none has)
        (subst (CanAll moves) (sym there.is) (can_drop other has_other none batch few filled holds.few many saved first there.ended));
    then_holds = λ is. subst (IsReadyFor batches) (sym (after_all-append site_rules (lanes_to_end site) moves site))
        (subst (λ (s : Site). IsReadyFor batches (after_all site_rules moves s)) (sym there.is)
        (drop_is_ready other has_other none batch few filled holds.few many saved first there.ended are));
  }
    where
      moves : List Move
      moves = drop_oldest ∷ next_file ∷ append_batch records ∷ []

      holds : FitRing site.history site.starts site.lines has.ring
      holds = ring_of site has.ring has.is fit

      rests : AreAtRest site.history site.starts has.ring site.lanes
      rests = subst (λ (a : Option Active). FitStep site.history site.starts (Some has.ring) a site.lanes) none (step_of site has.ring has.is fit)

      there : AreEnded site (after_all site_rules (lanes_to_end site) site)
      there = lanes_are_ended site
          (all_weaker (IsAtRest site.history (first_of_file site.starts site.history has.ring.oldest)) IsSettled site.lanes
          (rests_settled site.history (first_of_file site.starts site.history has.ring.oldest)) rests.each)

      other : Site
      other = record site { lanes = there.lanes }

      has_other : HasRing (record site { lanes = there.lanes })
      has_other = record { ring = has.ring; is = has.is }

      first : first_of_file site.starts site.history (suc has.ring.oldest) ≤ low site.history
      first = omega (arith, unneeded, ap (first_of_file site.starts site.history) (one_on has.ring.oldest))

  -- room is made for a batch, and it is appended, by moves that may be made
  module _ (site : Site) (has : HasRing site) (fit : IsFitSite site) (none : site.active ≡ None) (batch : IsBatch site.head.spaces site.history records)
      (are : AreBatches site.head.spaces (site.history ++ records) batches) where
    holds : FitRing site.history site.starts site.lines has.ring
    holds = ring_of site has.ring has.is fit

    abbrev Fine : Room → Type 0
    Fine r = Leads site (append_with r records site) (IsReadyFor batches)

    full_is_fine : (why : LogFull) → Fine (is_full why)
    full_is_fine why = record { can = tt; then_holds = λ is. absurd (none_some (sym is)) }

    module _ (few : length site.history + length records ≤ 2 ^ 48) where
      fits_is_fine : (has.ring.is_open && nat_lt (length site.history + length records) (first_of_file site.starts site.history (length site.starts) + 256)) ≡ true → Fine fits
      unfolding site_rules
      fits_is_fine is = record {
        can = (
          can_append_here site has none (first_true has.ring.is_open _ is) batch few
              (above (length site.history + length records) (first_of_file site.starts site.history (length site.starts) + 256) (second_true has.ring.is_open _ is)),
          tt,
        );
        then_holds = λ no_fault. ready_behind site none has are;
      }

      module _ (filled : HasRecords site.starts site.history (length site.starts)) where
        next_is_fine : is_ring_full site.starts has.ring ≡ false → Fine wants_next
        next_is_fine is =
            let left : suc (length site.starts) < has.ring.oldest + 8 = omega (arith, not_at_most (has.ring.oldest + 7) (length site.starts) is) in
            record {
              can = can_next site has none batch few filled left;
              then_holds = λ no_fault. next_is_ready site has none batch few filled left are;
            }

        drop_is_fine : is_ring_full site.starts has.ring ≡ true → nat_lt has.ring.backed has.ring.oldest ≡ false
            → nat_le (low site.history) (last_of_file site.starts site.history has.ring.oldest) ≡ false → Fine wants_drop
        drop_is_fine many saved unneeded = leads_drop site has fit none batch are few filled
            (omega (arith, at_most (has.ring.oldest + 7) (length site.starts) many)) (not_above has.ring.backed has.ring.oldest saved)
            (not_at_most (low site.history) (last_of_file site.starts site.history has.ring.oldest) unneeded)

        behind_is_fine : Fine (room_behind site.history site.starts has.ring)
        behind_is_fine = by (is_ring_full site.starts has.ring) refl
          where
            by_low : is_ring_full site.starts has.ring ≡ true → nat_lt has.ring.backed has.ring.oldest ≡ false
                → (b : Bool) → nat_le (low site.history) (last_of_file site.starts site.history has.ring.oldest) ≡ b
                → Fine (if b then is_full (needed_by has.ring.oldest (oldest_of (table_of site.history))) else wants_drop)
            by_low many saved true is = full_is_fine (needed_by has.ring.oldest (oldest_of (table_of site.history)))
            by_low many saved false is = drop_is_fine many saved is

            by_saved : is_ring_full site.starts has.ring ≡ true → (b : Bool) → nat_lt has.ring.backed has.ring.oldest ≡ b
                → Fine (if b then is_full (not_backed_up has.ring.oldest)
                else (if nat_le (low_of (table_of site.history) (length site.history)) (last_of_file site.starts site.history has.ring.oldest)
                then is_full (needed_by has.ring.oldest (oldest_of (table_of site.history))) else wants_drop))
            by_saved many true is = full_is_fine (not_backed_up has.ring.oldest)
            by_saved many false is = by_low many is (nat_le (low_of (table_of site.history) (length site.history)) (last_of_file site.starts site.history has.ring.oldest)) refl

            by : (b : Bool) → is_ring_full site.starts has.ring ≡ b
                → Fine (if b then (if nat_lt has.ring.backed has.ring.oldest then is_full (not_backed_up has.ring.oldest)
                else (if nat_le (low_of (table_of site.history) (length site.history)) (last_of_file site.starts site.history has.ring.oldest)
                then is_full (needed_by has.ring.oldest (oldest_of (table_of site.history))) else wants_drop))
                else wants_next)
            by true is = by_saved is (nat_lt has.ring.backed has.ring.oldest) refl
            by false is = next_is_fine is

      open_is_fine : (b : Bool)
          → (has.ring.is_open && nat_lt (length site.history + length records) (first_of_file site.starts site.history (length site.starts) + 256)) ≡ b
          → Fine (if b then fits else room_behind site.history site.starts has.ring)
      open_is_fine true is = fits_is_fine is
      open_is_fine false is = behind_is_fine (filled_file site has.ring records holds batch.few is)

    room_is_fine : Fine (room site.history site.starts has.ring (length records))
    room_is_fine = by (nat_lt (2 ^ 48) (length site.history + length records)) refl
      where
        by : (b : Bool) → nat_lt (2 ^ 48) (length site.history + length records) ≡ b
            → Fine (if b then is_full (no_position (length site.history))
            else (if has.ring.is_open && nat_lt (length site.history + length records) (first_of_file site.starts site.history (length site.starts) + 256) then fits
            else room_behind site.history site.starts has.ring))
        by true is = full_is_fine (no_position (length site.history))
        by false is = open_is_fine (not_above (2 ^ 48) (length site.history + length records) is) _ refl

  -- A batch is appended by moves that may be made, and the next ones may come behind it.
  pub leads_append : LeadsFrom (IsReadyFor (records ∷ batches)) (append_course records) (IsReadyFor batches)
  leads_append site fit ready = subst (λ (o : Option Ring). Leads site (append_to o records site) (IsReadyFor batches)) (sym ready.has.is)
      (room_is_fine site ready.has fit ready.none ready.are.0 ready.are.1)

-- So are all batches of a script.
pub leads_batches : (batches : List (List LogEntry)) → LeadsFrom (IsReadyFor batches) (for_each site_rules append_course batches) (IsReadyFor [])
leads_batches [] site fit ready = record { can = tt; then_holds = λ none. ready }
leads_batches (records ∷ batches) site fit ready =
    leads_then (IsReadyFor (records ∷ batches)) (IsReadyFor batches) (IsReadyFor []) (append_course records) (for_each site_rules append_course batches)
    (leads_append records batches) (leads_batches batches) site fit ready

-- the batches that a script says may come one after another behind the site's history
abbrev pub MayCome : List (List LogEntry) → Site → Type 0
MayCome batches site = AreBatches site.head.spaces site.history batches

pub ring_there : (site : Site) (ring : Option Ring) → site.ring ≡ ring → if_no_ring ring ≡ None → HasRing site
ring_there site None is none = absurd (none_some (sym none))
ring_there site (Some ring) is none = record { ring = ring; is = is }

pub active_none : (active : Option Active) → option_map (λ restore. needs_restart restore.number) active ≡ None → active ≡ None
active_none None none = refl
active_none (Some restore) none = absurd (none_some (sym none))

-- Each move of `-T` may be made.
pub leads_transactions : (batches : List (List LogEntry)) (ending : Option Fault) → LeadsFrom (MayCome batches) (transactions_course batches ending) (λ site. Unit {0})
leads_transactions batches ending =
    leads_then (MayCome batches) First Last (check if_active) (in_turn (check if_log_lost ∷ check if_any_lost ∷ for_each site_rules append_course batches ∷ check (λ site. ending) ∷ []))
    (leads_check (MayCome batches) if_active)
    (leads_then First Second Last (check if_log_lost) (in_turn (check if_any_lost ∷ for_each site_rules append_course batches ∷ check (λ site. ending) ∷ []))
    (leads_check First if_log_lost)
    (leads_then Second (IsReadyFor batches) Last (check if_any_lost) (in_turn (for_each site_rules append_course batches ∷ check (λ site. ending) ∷ [])) lost
    (leads_then (IsReadyFor batches) (IsReadyFor []) Last (for_each site_rules append_course batches) (in_turn (check (λ site. ending) ∷ []))
    (leads_batches batches)
    (leads_then (IsReadyFor []) Last Last (check (λ site. ending)) (in_turn []) (λ site fit ready. record { can = tt; then_holds = λ none. tt }) (leads_none Last)))))
  where
    First : Site → Type 0
    First site = MayCome batches site × (if_active site ≡ None)

    Second : Site → Type 0
    Second site = First site × (if_log_lost site ≡ None)

    Last : Site → Type 0
    Last site = Unit {0}

    lost : LeadsFrom Second (check if_any_lost) (IsReadyFor batches)
    lost site fit before = record {
      can = tt;
      then_holds = λ none. record { none = active_none site.active before.0.1; has = ring_there site site.ring refl before.1; are = before.0.0 };
    }
