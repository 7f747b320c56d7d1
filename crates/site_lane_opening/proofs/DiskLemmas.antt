-- What holds of the disks of a site behind the opening of lanes, disk by disk.
use Rattle.std.proofs.Common.{◌≡◌, ℕ, ◌<◌, ◌≤◌, List, length, Option, Some, None, Result, Ok, Err, sym, ap, subst, ◌∙◌, arith, inl, inr, ⊎_elim}
use Rattle.std.specs.Prelude.{slice_get, MatchResult}
use Rattle.std.specs.Option.{option_map}
use Rattle.site_disk.specs.CallsLaws.{may_use_again, may_use_later}
use Rattle.site_disk.specs.Ledger.{EraView, MayUse}
use Rattle.site_disk.specs.declared.disk.Disk.{Ghosts}
use Rattle.site_headers.specs.Heads.{Head}
use Rattle.store_opening.specs.Disks.{IsMadeStore}
use Rattle.boot_file.specs.Boots.{IsMade as IsMadeBoot}
use Rattle.logical_log.specs.Rings.{IsMade as IsMadeLog}
use Rattle.space_lane.specs.Lanes.{disk_of, space_of, IsMade}
use Rattle.space_lane.specs.declared.lane.Lane.{Lane}
use Rattle.site_lanes.specs.Lanes.{Syncs}
use Rattle.site_lanes.specs.declared.refusals.LanesFault.{LanesFault}
use Rattle.site_model.specs.declared.disk_name.DiskName.{DiskName}
use Rattle.site_model.specs.declared.disk_name.DiskName.TheVariants.{Cat, Spare, Boot, Log, Volume, Chunk}
use Rattle.site_worlds.specs.Lanes.{pages_of_space}
use Rattle.site_lane_laws.specs.OpeningLaws.{there_is}
use Rattle.site_openings.specs.Openings.{IsWanted}
use Rattle.site_core.specs.Disks.{disk_named, faults_or, may_or, MayUseAll}
use Rattle.site_core.specs.Made.{IsMadeAt, IsMadeSite}
use Rattle.site_core.specs.Quiet.{FaultsLater}
use Rattle.site_core.specs.declared.site.Site.{Site}
use Rattle.site_lane_opening.specs.Steps.{Coming, Opens, Stops, Touches, Tries, era_behind}
use Rattle.site_lane_opening.proofs.TryingLemmas.{synced_made, synced_may}
use Rattle.site_lane_opening.proofs.WantedLemmas.{is_wanted_or}

-- by the answer
pub both_ways : {A E : Type 0} {P R : A → Type 0} {Q S : E → Type 0} (result : Result A E) → ((a : A) → P a → R a) → ((e : E) → Q e → S e) → MatchResult result P Q → MatchResult result R S
both_ways (Ok a) good bad is = good a is
both_ways (Err e) good bad is = bad e is

-- disks that are no chunks
abbrev pub IsNoChunk : DiskName → Type 0
IsNoChunk (Chunk n) = ⊥
IsNoChunk Cat = Unit {0}
IsNoChunk Spare = Unit {0}
IsNoChunk Boot = Unit {0}
IsNoChunk Log = Unit {0}
IsNoChunk (Volume n) = Unit {0}

module _ {D : Type 0} (old new : Site D) (value : new ≡ record old { lanes = new.lanes }) where
  -- those are the same
  same_disk : (Q : Option D → Option D → Type 0) (name : DiskName) → IsNoChunk name → Q (disk_named old name) (disk_named old name) → Q (disk_named old name) (disk_named new name)
  same_disk Q Cat isnt is = subst (λ (s : Site D). Q (disk_named old Cat) (disk_named s Cat)) (sym value) is
  same_disk Q Spare isnt is = subst (λ (s : Site D). Q (disk_named old Spare) (disk_named s Spare)) (sym value) is
  same_disk Q Boot isnt is = subst (λ (s : Site D). Q (disk_named old Boot) (disk_named s Boot)) (sym value) is
  same_disk Q Log isnt is = subst (λ (s : Site D). Q (disk_named old Log) (disk_named s Log)) (sym value) is
  same_disk Q (Volume n) isnt is = subst (λ (s : Site D). Q (disk_named old (Volume n)) (disk_named s (Volume n))) (sym value) is
  same_disk Q (Chunk n) isnt is = absurd isnt

  pub all_disks : (Q : DiskName → Option D → Option D → Type 0) → ((name : DiskName) → IsNoChunk name → Q name (disk_named old name) (disk_named old name))
      → ((n : ℕ) → Q (Chunk n) (disk_named old (Chunk n)) (disk_named new (Chunk n))) → (name : DiskName) → Q name (disk_named old name) (disk_named new name)
  all_disks Q rest chunks Cat = same_disk (Q Cat) Cat tt (rest Cat tt)
  all_disks Q rest chunks Spare = same_disk (Q Spare) Spare tt (rest Spare tt)
  all_disks Q rest chunks Boot = same_disk (Q Boot) Boot tt (rest Boot tt)
  all_disks Q rest chunks Log = same_disk (Q Log) Log tt (rest Log tt)
  all_disks Q rest chunks (Volume n) = same_disk (Q (Volume n)) (Volume n) tt (rest (Volume n) tt)
  all_disks Q rest chunks (Chunk n) = chunks n

module _ {D : Type 0} (disk : Ghosts D) (wanted : Option ℕ) (head : Head) where
  -- lanes that have come to less
  pub touches_weaker : (P Q : Coming disk) (old new : List (Lane D)) → ((pages : ℕ) (was is : Lane D) → P pages was is → Q pages was is) → Touches disk wanted head P old new
      → Touches disk wanted head Q old new
  touches_weaker P Q old new means touches = record {
    as_many = touches.as_many;
    each = λ n was is w there behind. means (pages_of_space head.spaces n) was is (touches.each n was is w there behind);
    others = touches.others;
  }

  -- the chunks, by their lanes
  module _ (P : Coming disk) (old new : Site D) (touches : Touches disk wanted head P old.lanes.items new.lanes.items) (within : (n : ℕ) → IsWanted wanted head n → n < length old.lanes.items) where
    pub touched_chunks : (Q : ℕ → Option D → Option D → Type 0) → ((n : ℕ) → (IsWanted wanted head n → ⊥) → Q n (disk_named old (Chunk n)) (disk_named old (Chunk n)))
        → ((n : ℕ) (was is : Lane D) → IsWanted wanted head n → slice_get old.lanes.items n ≡ Some was → P (pages_of_space head.spaces n) was is → Q n (Some (disk_of was)) (Some (disk_of is)))
        → (n : ℕ) → Q n (disk_named old (Chunk n)) (disk_named new (Chunk n))
    touched_chunks Q unwanted by n = ⊎_elim
        (λ is_wanted.
        let was = there_is old.lanes.items n (within n is_wanted) in
        let is = there_is new.lanes.items n (omega (arith, within n is_wanted, touches.as_many)) in
        subst (λ (o : Option (Lane D)). Q n (option_map disk_of o) (disk_named new (Chunk n))) (sym was.1)
        (subst (λ (o : Option (Lane D)). Q n (Some (disk_of was.0)) (option_map disk_of o)) (sym is.1)
        (by n was.0 is.0 is_wanted was.1 (touches.each n was.0 is.0 is_wanted was.1 is.1))))
        (λ isnt. subst (λ (o : Option (Lane D)). Q n (disk_named old (Chunk n)) (option_map disk_of o)) (sym (touches.others n isnt)) (unwanted n isnt))
        (is_wanted_or wanted head n)

-- what stays of a lane, and of its disk's numbers up to an era
pub record Keeps {D : Type 0} (disk : Ghosts D) (era to : EraView) (was is : Lane D) : Type 0 where
  pub made : IsMade was → IsMade is
  pub space : space_of is ≡ space_of was
  pub faults : (disk.ledger (disk_of was)).faults ≤ (disk.ledger (disk_of is)).faults
  pub may : MayUse era (disk.ledger (disk_of was)) → MayUse to (disk.ledger (disk_of is))

module _ {D : Type 0} (disk : Ghosts D) (era to : EraView) (key : to.key ≡ era.key) where
  syncs_keep : era.number ≤ to.number → (was is : Lane D) → Syncs disk era was is → Keeps disk era to was is
  syncs_keep le was is syncs = record {
    made = λ made. synced_made disk era was is made syncs;
    space = ap space_of syncs.value;
    faults = syncs.ledger.faults;
    may = λ may. may_use_later le key (may_use_again may syncs.ledger);
  }

  tries_keep : era.number < to.number → (site : ℕ) (come : Coming disk) (pages : ℕ) (was is : Lane D) → Tries disk era site come pages was is → Keeps disk era to was is
  tries_keep lt site come pages was is tries =
      let later : (era_behind era).number ≤ to.number = omega (arith, lt) in
      record {
        made = λ made. tries.works.made;
        space = tries.works.space ∙ ap space_of tries.syncs.value;
        faults = omega (arith, tries.syncs.ledger.faults, tries.works.ledger.faults);
        may = λ may. may_use_later later key (may_use_again (synced_may disk era was tries.mid may tries.syncs) tries.works.ledger);
      }

  module _ (wanted : Option ℕ) (head : Head) (old new : List (Lane D)) where
    abbrev pub Kept : Type 0
    Kept = Touches disk wanted head (λ pages was is. Keeps disk era to was is) old new

    pub opens_keep : era.number < to.number → Opens disk wanted head era old new → Kept
    opens_keep lt opens = touches_weaker disk wanted head _ (λ pages was is. Keeps disk era to was is) old new (λ pages was is tries. tries_keep lt head.site _ pages was is tries) opens

    pub stops_keep : era.number ≤ to.number → (refused : Coming disk) (own : LanesFault) → Stops disk wanted head era refused to.number own old new → Kept
    stops_keep le refused own stops = elim stops [
      | inl syncing ↦ touches_weaker disk wanted head (λ pages was is. Syncs disk era was is) (λ pages was is. Keeps disk era to was is) old new (λ pages was is syncs. syncs_keep le was is syncs) syncing.0
      | inr (lt, inl failed) ↦ touches_weaker disk wanted head _ (λ pages was is. Keeps disk era to was is) old new (λ pages was is tries. tries_keep lt head.site _ pages was is tries) failed.0
      | inr (lt, inr refuses) ↦ touches_weaker disk wanted head _ (λ pages was is. Keeps disk era to was is) old new (λ pages was is tries. tries_keep lt head.site _ pages was is tries) refuses.0
    ]

  -- and so of the site
  module _ (wanted : Option ℕ) (head : Head) (old new : Site D) (value : new ≡ record old { lanes = new.lanes }) (made : IsMadeSite old)
      (within : (n : ℕ) → IsWanted wanted head n → n < length old.lanes.items) (le : era.number ≤ to.number) (kept : Kept wanted head old.lanes.items new.lanes.items) where
    abbrev P : Coming disk
    P pages was is = Keeps disk era to was is

    lane_made : (n : ℕ) (lane : Lane D) → slice_get new.lanes.items n ≡ Some lane → IsMadeAt n lane
    lane_made n lane there = ⊎_elim
        (λ w.
        let was = there_is old.lanes.items n (within n w) in
        let is = made.lanes n was.0 was.1 in
        let keeps = kept.each n was.0 lane w was.1 there in
        record { made = keeps.made is.made; space = keeps.space ∙ is.space })
        (λ isnt. made.lanes n lane (sym (kept.others n isnt) ∙ there))
        (is_wanted_or wanted head n)

    pub made_behind : IsMadeSite new
    made_behind = record {
      store = subst (λ (s : Site D). IsMadeStore s.store) (sym value) made.store;
      boot = subst (λ (s : Site D). IsMadeBoot s.boot) (sym value) made.boot;
      log = subst (λ (s : Site D). IsMadeLog s.log) (sym value) made.log;
      count = kept.as_many ∙ made.count;
      lanes = lane_made;
    }

    pub later_behind : FaultsLater disk old new
    later_behind = all_disks old new value (λ name o p. faults_or disk o ≤ faults_or disk p) (λ name isnt. omega arith)
        (touched_chunks disk wanted head P old new kept within (λ n o p. faults_or disk o ≤ faults_or disk p) (λ n isnt. omega arith) (λ n was is w there keeps. keeps.faults))

    may_or_later : (it : Option D) → may_or disk era it → may_or disk to it
    may_or_later None may = tt
    may_or_later (Some it) may = may_use_later le key may

    pub may_behind : MayUseAll disk era old → MayUseAll disk to new
    may_behind may name =
        all_disks old new value (λ n o p. may_or disk era o → may_or disk to p) (λ n isnt m. may_or_later (disk_named old n) m)
        (touched_chunks disk wanted head P old new kept within (λ n o p. may_or disk era o → may_or disk to p) (λ n isnt m. may_or_later (disk_named old (Chunk n)) m) (λ n was is w there keeps. keeps.may))
        name (may name)
