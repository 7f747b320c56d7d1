-- Lanes that are synced one after another.
use Rattle.std.proofs.Common.{◌≡◌, ℕ, ◌+◌, ◌<◌, List, refl, sym, ◌∙◌, subst, arith, ⊎_elim}
use Rattle.std.proofs.lemmas.Bool.{cases_lt}
use Rattle.site_disk.specs.Bytes.{Same}
use Rattle.site_disk.specs.CallsLaws.{may_use_again, uses_nothing}
use Rattle.site_disk.specs.ImagesLaws.{begins}
use Rattle.site_disk.specs.Ledger.{EraView, MayUse}
use Rattle.site_disk.specs.declared.disk.Disk.{Ghosts}
use Rattle.space_lane.specs.Lanes.{disk_of}
use Rattle.space_lane.specs.declared.lane.Lane.{Lane}
use Rattle.site_lanes.specs.Lanes.{OfFirst, SameFrom, ChangesOne, MayUseEach, IsSyncedBy, Syncs, RoseAt, FailsAt}
use Rattle.site_lanes.specs.declared.refusals.LanesFault.{LanesFault}
use Rattle.site_lanes.specs.declared.refusals.LanesFault.TheVariants.{Failed}
use Rattle.site_lanes.proofs.OneLemmas.{one_value, same_behind, each_again, first_more}

module _ {D : Type 0} (disk : Ghosts D) (era : EraView) where
  syncs_nothing : (lane : Lane D) → MayUse era (disk.ledger (disk_of lane)) → Syncs disk era lane lane
  syncs_nothing lane may = record {
    value = refl;
    crash = begins Same Same era.number (disk.image (disk_of lane)) (disk.image (disk_of lane)) (disk.image (disk_of lane)) (λ c. refl);
    ledger = uses_nothing may;
  }

  abbrev pub EachSynced : ℕ → List (Lane D) → List (Lane D) → Type 0
  EachSynced i old now = OfFirst i (λ space was is. IsSyncedBy disk era was is) old now

  abbrev pub EachSyncs : ℕ → List (Lane D) → List (Lane D) → Type 0
  EachSyncs i old now = OfFirst i (λ space was is. Syncs disk era was is) old now

  -- the first so many lanes are synced
  pub record Partway (i : ℕ) (old now : List (Lane D)) : Type 0 where
    pub done : EachSynced i old now
    pub syncs : EachSyncs i old now
    pub ahead : SameFrom i old now
    pub may : MayUseEach disk era now

  pub none_yet : (old : List (Lane D)) → MayUseEach disk era old → Partway 0 old old
  none_yet old may = record {
    done = λ k was is lt there behind. absurd (omega (arith, lt));
    syncs = λ k was is lt there behind. absurd (omega (arith, lt));
    ahead = λ k le. refl;
    may = may;
  }

  module _ (i : ℕ) (old now new : List (Lane D)) (so_far : Partway i old now) (change : ChangesOne (Syncs disk era) i now new) where
    pub syncs_more : EachSyncs (i + 1) old new
    syncs_more = first_more (Syncs disk era) i now new change (λ space was is. Syncs disk era was is) old so_far.ahead so_far.syncs change.by

    pub ahead_more : SameFrom (i + 1) old new
    ahead_more = same_behind (Syncs disk era) i now new change old so_far.ahead

    pub one_more : ChangesOne (IsSyncedBy disk era) i now new → Partway (i + 1) old new
    one_more synced = record {
      done = first_more (IsSyncedBy disk era) i now new synced (λ space was is. IsSyncedBy disk era was is) old so_far.ahead so_far.done synced.by;
      syncs = syncs_more;
      ahead = ahead_more;
      may = each_again (Syncs disk era) i now new change (λ space lane. MayUse era (disk.ledger (disk_of lane))) so_far.may
          (may_use_again (so_far.may i change.was change.there) change.by.ledger);
    }

  pub failed_at : (i count : ℕ) (old new : List (Lane D)) (fault : LanesFault) → fault ≡ Failed i → i < count → RoseAt disk i old new → SameFrom (i + 1) old new
      → FailsAt disk count old new fault
  failed_at i count old new fault is lt rises same = subst (FailsAt disk count old new) (sym is) (lt, rises, same)

  -- those behind the last one that was synced are as they were
  pub syncs_all : (i count : ℕ) (old new : List (Lane D)) → MayUseEach disk era old → EachSyncs i old new → SameFrom i old new → EachSyncs count old new
  syncs_all i count old new may syncs same k was is lt there behind = ⊎_elim
      (λ less. syncs k was is less there behind)
      (λ ge. subst (λ (lane : Lane D). Syncs disk era was lane) (one_value old k was is there (sym (same k ge) ∙ behind)) (syncs_nothing was (may k was there)))
      (cases_lt k i)
