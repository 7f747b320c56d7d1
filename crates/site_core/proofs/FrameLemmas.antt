-- What stays of a site whose lanes went on, and what of its disks.
use Rattle.std.proofs.Common.{◌≡◌, ◌∙◌, ℕ, ◌<◌, ◌≤◌, List, ◌++◌, length, take, drop, Option, None, Some, refl, sym, ap, subst, arith, ⊎_elim, inl, inr}
use Rattle.std.specs.Prelude.{slice_get}
use Rattle.std.specs.Option.{option_map}
use Rattle.std.proofs.lemmas.Bool.{cases_lt}
use Rattle.std.proofs.lemmas.List.{take_at}
use Rattle.std.proofs.lemmas.Option.{slice_get_within, same_Some}
use Rattle.site_disk.specs.Causes.{Rose}
use Rattle.site_disk.specs.CallsLaws.{may_use_again}
use Rattle.site_disk.specs.Ledger.{EraView, MayUse}
use Rattle.site_disk.specs.declared.disk.Disk.{Ghosts}
use Rattle.log_history.specs.Effects.{Change}
use Rattle.catalogue_journal.specs.Catalogues.{cat_of, spare_of}
use Rattle.object_volume.specs.Volumes.{disk_of as volume_disk}
use Rattle.logical_log.specs.Rings.{disk_of as log_disk, IsOpen as IsOpenLog, IsMade as IsMadeLog}
use Rattle.boot_file.specs.Boots.{disk_of as boot_disk, IsMade as IsMadeBoot}
use Rattle.store_opening.specs.Disks.{IsMadeStore}
use Rattle.space_lane.specs.Lanes.{disk_of, space_of, IsOpen as IsOpenLane}
use Rattle.space_lane.specs.declared.lane.Lane.{Lane}
use Rattle.site_lanes.specs.Advancing.{IsAdvanced, MayHaveAdvanced}
use Rattle.site_lanes.specs.Lanes.{MayUseEach, OfEach, OfFirst, SameFrom}
use Rattle.site_lane_laws.specs.OpeningLaws.{there_is}
use Rattle.site_model.specs.declared.disk_name.DiskName.{DiskName}
use Rattle.site_model.specs.declared.disk_name.DiskName.TheVariants.{Cat, Spare, Boot, Log, Volume, Chunk}
use Rattle.site_core.specs.declared.site.Site.{Site}
use Rattle.site_core.specs.Disks.{MayUseAll, faults_on, faults_or, may_or}
use Rattle.site_core.specs.Going.{HaveMoved, RoseOn}
use Rattle.site_core.specs.Made.{IsMadeAt, IsMadeSite}
use Rattle.site_core.specs.Opened.{IsOpenSite}

module _ {D : Type 0} (disk : Ghosts D) where
  -- the disk of each lane may be used
  pub may_each : (era : EraView) (site : Site D) → MayUseAll disk era site → MayUseEach disk era site.lanes.items
  may_each era site may n lane there = subst (λ (o : Option (Lane D)). may_or disk era (option_map disk_of o)) there (may (Chunk n))

  module _ (era : EraView) (spaces to : ℕ) (changes : List Change) (old new : Site D) where
    abbrev Moved : Type 0
    Moved = HaveMoved disk era spaces to changes old new

    -- where the lanes are those of a part of a vector, which is all of it
    pub have_moved : (was moved : List (Lane D)) (len : ℕ) → new ≡ record old { lanes = new.lanes } → new.lanes.items ≡ take len (moved ++ drop (length moved) old.lanes.items)
        → len ≡ length old.lanes.items → was ≡ old.lanes.items → length moved ≡ length was → SameFrom spaces was moved
        → OfFirst spaces (λ n was is. MayHaveAdvanced disk era to changes was is) was moved → Moved
    have_moved was moved len others is whole same count beyond works = record {
      others = others;
      as_many = ap (λ (l : List (Lane D)). length l) items ∙ many;
      beyond = subst (SameFrom spaces old.lanes.items) (sym items) (subst (λ (l : List (Lane D)). SameFrom spaces l moved) same beyond);
      works = subst (OfFirst spaces (λ n was is. MayHaveAdvanced disk era to changes was is) old.lanes.items) (sym items)
          (subst (λ (l : List (Lane D)). OfFirst spaces (λ n was is. MayHaveAdvanced disk era to changes was is) l moved) same works);
    }
      where
        many : length moved ≡ length old.lanes.items
        many = count ∙ ap (λ (l : List (Lane D)). length l) same

        items : new.lanes.items ≡ moved
        items = is ∙ take_at moved (drop (length moved) old.lanes.items) len (many ∙ sym whole)

    module _ (moved : Moved) where
      -- what became of a lane
      pub lane_before : (n : ℕ) (is : Lane D) → slice_get new.lanes.items n ≡ Some is
          → (was : Lane D) × (slice_get old.lanes.items n ≡ Some was) × MayHaveAdvanced disk era to changes was is
      lane_before n is there =
          let was = there_is old.lanes.items n (omega (arith, slice_get_within new.lanes.items n is there, moved.as_many)) in
          ⊎_elim
          (λ lt. (was.0, was.1, moved.works n was.0 is lt was.1 there))
          (λ ge. (was.0, was.1, inl (same_Some is was.0 (sym there ∙ moved.beyond n ge ∙ was.1))))
          (cases_lt n spaces)

      pub lane_behind : (n : ℕ) (was : Lane D) → slice_get old.lanes.items n ≡ Some was
          → (is : Lane D) × (slice_get new.lanes.items n ≡ Some is) × MayHaveAdvanced disk era to changes was is
      lane_behind n was there =
          let is = there_is new.lanes.items n (omega (arith, slice_get_within old.lanes.items n was there, moved.as_many)) in
          ⊎_elim
          (λ lt. (is.0, is.1, moved.works n was is.0 lt there is.1))
          (λ ge. (is.0, is.1, inl (same_Some is.0 was (sym is.1 ∙ moved.beyond n ge ∙ there))))
          (cases_lt n spaces)

      lane_may : (was is : Lane D) → MayUse era (disk.ledger (disk_of was)) → MayHaveAdvanced disk era to changes was is → MayUse era (disk.ledger (disk_of is))
      lane_may was is may (inl same) = subst (λ (l : Lane D). MayUse era (disk.ledger (disk_of l))) (sym same) may
      lane_may was is may (inr works) = may_use_again may works.ledger

      lane_faults : (was is : Lane D) → MayHaveAdvanced disk era to changes was is → (disk.ledger (disk_of was)).faults ≤ (disk.ledger (disk_of is)).faults
      lane_faults was is (inl same) = let e : (disk.ledger (disk_of is)).faults ≡ (disk.ledger (disk_of was)).faults = ap (λ (l : Lane D). (disk.ledger (disk_of l)).faults) same in omega (arith, e)
      lane_faults was is (inr works) = works.ledger.faults

      lane_made : (n : ℕ) (was is : Lane D) → IsMadeAt n was → MayHaveAdvanced disk era to changes was is → IsMadeAt n is
      lane_made n was is made (inl same) = subst (IsMadeAt n) (sym same) made
      lane_made n was is made (inr works) = record { made = works.made; space = works.space ∙ made.space }

      -- All disks may be used in the era still,
      pub moved_may : MayUseAll disk era old → MayUseAll disk era new
      moved_may may Cat = subst (λ (s : Site D). MayUse era (disk.ledger (cat_of s.store.cat))) (sym moved.others) (may Cat)
      moved_may may Spare = subst (λ (s : Site D). MayUse era (disk.ledger (spare_of s.store.cat))) (sym moved.others) (may Spare)
      moved_may may Boot = subst (λ (s : Site D). MayUse era (disk.ledger (boot_disk s.boot))) (sym moved.others) (may Boot)
      moved_may may Log = subst (λ (s : Site D). MayUse era (disk.ledger (log_disk s.log))) (sym moved.others) (may Log)
      moved_may may (Volume n) = subst (λ (s : Site D). may_or disk era (option_map volume_disk (slice_get s.store.volumes.items n))) (sym moved.others) (may (Volume n))
      moved_may may (Chunk n) = by (slice_get new.lanes.items n) refl
        where
          by : (o : Option (Lane D)) → slice_get new.lanes.items n ≡ o → may_or disk era (option_map disk_of o)
          by None none = tt
          by (Some is) there = let was = lane_before n is there in lane_may was.0 is (may_each era old may n was.0 was.1) was.2

      -- no count of faults falls,
      pub moved_later : (name : DiskName) → faults_on disk old name ≤ faults_on disk new name
      moved_later Cat = subst (λ (s : Site D). faults_on disk old Cat ≤ faults_on disk s Cat) (sym moved.others) (omega arith)
      moved_later Spare = subst (λ (s : Site D). faults_on disk old Spare ≤ faults_on disk s Spare) (sym moved.others) (omega arith)
      moved_later Boot = subst (λ (s : Site D). faults_on disk old Boot ≤ faults_on disk s Boot) (sym moved.others) (omega arith)
      moved_later Log = subst (λ (s : Site D). faults_on disk old Log ≤ faults_on disk s Log) (sym moved.others) (omega arith)
      moved_later (Volume n) = subst (λ (s : Site D). faults_on disk old (Volume n) ≤ faults_on disk s (Volume n)) (sym moved.others) (omega arith)
      moved_later (Chunk n) = by (slice_get old.lanes.items n) refl
        where
          by : (o : Option (Lane D)) → slice_get old.lanes.items n ≡ o → faults_or disk (option_map disk_of o) ≤ faults_on disk new (Chunk n)
          by None none = omega arith
          by (Some was) there =
              let is = lane_behind n was there in
              subst (λ (o : Option (Lane D)). (disk.ledger (disk_of was)).faults ≤ faults_or disk (option_map disk_of o)) (sym is.1) (lane_faults was is.0 is.2)

      -- the one that is told as failed rose,
      pub moved_rose : (name : DiskName) → spaces ≤ length old.lanes.items → RoseOn disk spaces old.lanes.items new.lanes.items name
          → Rose (faults_on disk old name) (faults_on disk new name)
      moved_rose Cat enough rose = absurd rose
      moved_rose Spare enough rose = absurd rose
      moved_rose Boot enough rose = absurd rose
      moved_rose Log enough rose = absurd rose
      moved_rose (Volume n) enough rose = absurd rose
      moved_rose (Chunk n) enough rose =
          let was = there_is old.lanes.items n (omega (arith, enough, rose.0)) in
          let is = lane_behind n was.0 was.1 in
          subst (λ (o : Option (Lane D)). Rose (faults_or disk (option_map disk_of o)) (faults_on disk new (Chunk n))) (sym was.1)
          (subst (λ (o : Option (Lane D)). Rose (disk.ledger (disk_of was.0)).faults (faults_or disk (option_map disk_of o))) (sym is.1) (rose.1 was.0 is.0 was.1 is.1))

      -- the values are made as they were,
      pub moved_made : IsMadeSite old → IsMadeSite new
      moved_made made = record {
        store = subst (λ (s : Site D). IsMadeStore s.store) (sym moved.others) made.store;
        boot = subst (λ (s : Site D). IsMadeBoot s.boot) (sym moved.others) made.boot;
        log = subst (λ (s : Site D). IsMadeLog s.log) (sym moved.others) made.log;
        count = moved.as_many ∙ made.count;
        lanes = λ n is there. let was = lane_before n is there in lane_made n was.0 is (made.lanes n was.0 was.1) was.2;
      }

      -- and where all have come there, they are open.
      pub moved_opened : OfFirst spaces (λ n was is. IsAdvanced disk era to changes was is) old.lanes.items new.lanes.items → IsOpenSite spaces old → IsOpenSite spaces new
      moved_opened done is = record {
        log = subst (λ (s : Site D). IsOpenLog s.log) (sym moved.others) is.log;
        few = is.few;
        enough = omega (arith, is.enough, moved.as_many);
        lanes = opened_each;
      }
        where
          opened_each : (n : ℕ) → n < spaces → (lane : Lane D) → slice_get new.lanes.items n ≡ Some lane → IsOpenLane lane × (space_of lane ≡ n)
          opened_each n lt lane there =
              let was = lane_before n lane there in
              let advanced : IsAdvanced disk era to changes was.0 lane = done n was.0 lane lt was.1 there in
              (advanced.opened, advanced.works.space ∙ (is.lanes n lt was.0 was.1).1)

-- The lanes of an open site are open.
pub open_each : {D : Type 0} (count : ℕ) (site : Site D) → IsOpenSite count site → OfEach (λ place lane. place < count → IsOpenLane lane) site.lanes.items
open_each count site is n lane there lt = (is.lanes n lt lane there).0
