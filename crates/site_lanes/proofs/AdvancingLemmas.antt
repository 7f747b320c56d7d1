-- Lanes that are brought forward one after another.
use Rattle.std.proofs.Common.{◌≡◌, ℕ, ◌+◌, ◌*◌, ◌<◌, List, refl, sym, ◌∙◌, subst, arith, ⊎_elim, inl, inr}
use Rattle.std.proofs.lemmas.Bool.{cases_lt}
use Rattle.site_disk.specs.CallsLaws.{may_use_again, uses_more, uses_nothing}
use Rattle.site_disk.specs.Ledger.{EraView, MayUse, Uses}
use Rattle.site_disk.specs.declared.disk.Disk.{Ghosts}
use Rattle.log_history.specs.History.{History}
use Rattle.log_history.specs.Effects.{Change}
use Rattle.backup_lines.specs.declared.lanes.LaneState.{LaneState}
use Rattle.backup_lines.specs.declared.lanes.LaneState.TheVariants.{At as Stays, Blank, Image, Replay}
use Rattle.lane_advance.specs.Places.{with_place}
use Rattle.space_lane.specs.Lanes.{disk_of, count_of, state_of, IsOpen}
use Rattle.space_lane.specs.declared.lane.Lane.{Lane}
use Rattle.site_lanes.specs.Advancing.{IsPlaced, StandsOnWay, Advances, IsAdvanced, MayHaveAdvanced, to_end}
use Rattle.site_lanes.specs.Lanes.{OfEach, OfFirst, SameFrom, ChangesOne, MayUseEach}
use Rattle.site_lanes.proofs.OneLemmas.{one_value, same_behind, each_again, first_more}

-- as many changes take as much
pub uses_as_many : {D : Type 0} (disk : Ghosts D) (era : EraView) (was is : Lane D) {n m : ℕ} → n ≡ m
    → Uses era (131074 * (n + 2)) ((295683 + 4096 * count_of was) * (n + 2)) (disk.ledger (disk_of was)) (disk.ledger (disk_of is))
    → Uses era (131074 * (m + 2)) ((295683 + 4096 * count_of was) * (m + 2)) (disk.ledger (disk_of was)) (disk.ledger (disk_of is))
uses_as_many disk era was is same uses =
    subst (λ (k : ℕ). Uses era (131074 * (k + 2)) ((295683 + 4096 * count_of was) * (k + 2)) (disk.ledger (disk_of was)) (disk.ledger (disk_of is))) same uses

-- by the kind of a state

pub stays_unplaced : (to : ℕ) (state : LaneState) → (IsPlaced state → ⊥) → state ≡ to_end to state
stays_unplaced to (Stays upto part) isnt = absurd (isnt tt)
stays_unplaced to (Blank restore) isnt = refl
stays_unplaced to (Image restore chain image entries) isnt = refl
stays_unplaced to (Replay restore chain upto part) isnt = refl

pub moves_placed : (to : ℕ) (state : LaneState) → IsPlaced state → with_place state to 0 ≡ to_end to state
moves_placed to (Stays upto part) is = refl
moves_placed to (Blank restore) is = absurd is
moves_placed to (Image restore chain image entries) is = absurd is
moves_placed to (Replay restore chain upto part) is = absurd is

module _ {D : Type 0} (disk : Ghosts D) (era : EraView) (to : ℕ) (changes : List Change) where
  placed_on_way : (history : History) (n site count upto part : ℕ) (lane : Lane D) → StandsOnWay disk history n site count to upto part changes lane → IsPlaced (state_of lane)
  placed_on_way history n site count upto part lane on = subst IsPlaced (sym on.stands.agrees.tells.state_is) tt

  pub works_unplaced : (lane : Lane D) → MayUse era (disk.ledger (disk_of lane)) → IsOpen lane → (IsPlaced (state_of lane) → ⊥) → Advances disk era to changes lane lane
  works_unplaced lane may opened isnt = record {
    made = opened.made;
    space = refl;
    count = refl;
    ledger = uses_more (uses_nothing may) (omega arith) (omega arith);
    crash = λ tells history n site count upto part on. absurd (isnt (placed_on_way history n site count upto part lane on));
  }

  pub done_unplaced : (lane : Lane D) → MayUse era (disk.ledger (disk_of lane)) → IsOpen lane → (IsPlaced (state_of lane) → ⊥) → IsAdvanced disk era to changes lane lane
  done_unplaced lane may opened isnt = record {
    works = works_unplaced lane may opened isnt;
    opened = opened;
    state = stays_unplaced to (state_of lane) isnt;
    stands = λ tells history n site count upto part on. absurd (isnt (placed_on_way history n site count upto part lane on));
    pages = λ tells history n site count upto part on. absurd (isnt (placed_on_way history n site count upto part lane on));
    durable = λ tells synced f c lt image. synced f c (omega (arith, lt, may.not_past)) image;
  }

  abbrev pub EachAdvanced : ℕ → List (Lane D) → List (Lane D) → Type 0
  EachAdvanced i old now = OfFirst i (λ space was is. IsAdvanced disk era to changes was is) old now

  abbrev pub EachWorks : ℕ → List (Lane D) → List (Lane D) → Type 0
  EachWorks i old now = OfFirst i (λ space was is. MayHaveAdvanced disk era to changes was is) old now

  -- the first so many lanes have come there
  pub record Partway (count i : ℕ) (old now : List (Lane D)) : Type 0 where
    pub done : EachAdvanced i old now
    pub ahead : SameFrom i old now
    pub may : MayUseEach disk era now
    pub opened : OfEach (λ space lane. space < count → IsOpen lane) now

  pub none_yet : (count : ℕ) (old : List (Lane D)) → MayUseEach disk era old → OfEach (λ space lane. space < count → IsOpen lane) old → Partway count 0 old old
  none_yet count old may opened = record {
    done = λ k was is lt there behind. absurd (omega (arith, lt));
    ahead = λ k le. refl;
    may = may;
    opened = opened;
  }

  module _ (count i : ℕ) (old now new : List (Lane D)) (so_far : Partway count i old now) where
    pub one_more : ChangesOne (IsAdvanced disk era to changes) i now new → Partway count (i + 1) old new
    one_more change = record {
      done = first_more (IsAdvanced disk era to changes) i now new change (λ space was is. IsAdvanced disk era to changes was is) old so_far.ahead so_far.done change.by;
      ahead = same_behind (IsAdvanced disk era to changes) i now new change old so_far.ahead;
      may = each_again (IsAdvanced disk era to changes) i now new change (λ space lane. MayUse era (disk.ledger (disk_of lane))) so_far.may
          (may_use_again (so_far.may i change.was change.there) change.by.works.ledger);
      opened = each_again (IsAdvanced disk era to changes) i now new change (λ space lane. space < count → IsOpen lane) so_far.opened (λ lt. change.by.opened);
    }

    module _ (change : ChangesOne (Advances disk era to changes) i now new) where
      pub ahead_failed : SameFrom (i + 1) old new
      ahead_failed = same_behind (Advances disk era to changes) i now new change old so_far.ahead

      -- those before it have come there, and those behind it are as they were
      pub works_failed : (all : ℕ) → EachWorks all old new
      works_failed all k was is lt there behind = ⊎_elim
          (λ less. before k was is less there behind)
          (λ ge. inl (one_value old k is was (sym (ahead_failed k ge) ∙ behind) there))
          (cases_lt k (i + 1))
        where
          before : EachWorks (i + 1) old new
          before = first_more (Advances disk era to changes) i now new change (λ space was is. MayHaveAdvanced disk era to changes was is) old so_far.ahead
              (λ space was is less there behind. inr (let e = so_far.done space was is less there behind in e.works)) (inr change.by)

  pub works_done : (i : ℕ) (old now : List (Lane D)) → EachAdvanced i old now → EachWorks i old now
  works_done i old now done k was is lt there behind = inr (let e = done k was is lt there behind in e.works)
