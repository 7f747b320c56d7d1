-- What a call does to each disk of a site.
use Rattle.std.proofs.Common.{◌≡◌, ◌≤◌, ◌<◌, ℕ, List, IsTrue, Some, sym, subst, arith}
use Rattle.std.specs.Prelude.{Option, None, slice_get}
use Rattle.std.specs.Option.{option_map}
use Rattle.site_disk.specs.Causes.{Rose}
use Rattle.site_disk.specs.CallsLaws.{uses_nothing, uses_more, spends_in_one, spends_again, spends_later}
use Rattle.site_disk.specs.Images.{Leaves}
use Rattle.site_disk.specs.Ledger.{EraView, MayUse, Spends, Uses}
use Rattle.site_disk.specs.declared.disk.Disk.{Ghosts}
use Rattle.site_headers.specs.Heads.{Head}
use Rattle.catalogue_journal.specs.Catalogues.{cat_of, spare_of}
use Rattle.object_volume.specs.Volumes.{disk_of as volume_disk}
use Rattle.boot_file.specs.Boots.{disk_of as boot_disk}
use Rattle.logical_log.specs.Rings.{disk_of as log_disk}
use Rattle.space_lane.specs.Lanes.{disk_of as lane_disk}
use Rattle.store_opening.specs.Disks.{HasRisen}
use Rattle.store_opening.specs.Faults.{IsDiskFault}
use Rattle.store_opening.specs.declared.faults.StoreFault.{StoreFault}
use Rattle.store_opening.specs.declared.faults.StoreFault.TheVariants.{OutOfMemory as NoMemory, DiskFault as FailedDisk, NotFormatted as NoStore, BadRecord as BadPlace}
use Rattle.store_opening.specs.declared.faults.StoreDisk.TheVariants.{Cat as StoreCat, Spare as StoreSpare, Volume as StoreVolume}
use Rattle.object_volume.specs.declared.volume.Volume.{Volume}
use Rattle.site_model.specs.declared.disk_name.DiskName.{DiskName}
use Rattle.site_model.specs.declared.disk_name.DiskName.TheVariants.{Cat, Spare, Boot, Log, Volume as OfVolume, Chunk}
use Rattle.site_core.specs.declared.faults.SiteFault.{SiteFault}
use Rattle.site_core.specs.declared.faults.SiteFault.TheVariants.{OutOfMemory, DiskFault, NotFormatted, AlreadyFormatted, BadRecord, NeedsRestart, NoSuchSpace, NoSuchPage, ChunkLost, LogLost, LogFull, StoreFull, CatalogueFull, TooManyObjects, BootFull}
use Rattle.site_core.specs.declared.site.Site.{Site}
use Rattle.site_core.specs.Disks.{disk_named, faults_on, faults_or, may_or, MayUseAll, image_or, images_of}
use Rattle.site_formatting.specs.Steps.{Both}
use Rattle.site_formatting.specs.Disks.{EachDisk, SpendsOn, Touches, UsesIn, reads_of, all_writes_of, with_cat}
use Rattle.site_formatting.specs.Faults.{HasCauseOn, fault_of_store}
use Rattle.site_formatting.proofs.StepLemmas.{both_map}

module _ {D : Type 0} where
  -- all disks, by their kinds
  pub each_disk : (P : DiskName → D → D → Type 0) (old new : Site D) → P Cat (cat_of old.store.cat) (cat_of new.store.cat) → P Spare (spare_of old.store.cat) (spare_of new.store.cat)
      → ((n : ℕ) → Both (λ a b. P (OfVolume n) (volume_disk a) (volume_disk b)) (slice_get old.store.volumes.items n) (slice_get new.store.volumes.items n))
      → P Boot (boot_disk old.boot) (boot_disk new.boot) → P Log (log_disk old.log) (log_disk new.log)
      → ((n : ℕ) → Both (λ a b. P (Chunk n) (lane_disk a) (lane_disk b)) (slice_get old.lanes.items n) (slice_get new.lanes.items n))
      → EachDisk P old new
  each_disk P old new cat spare volumes boot log lanes Cat = cat
  each_disk P old new cat spare volumes boot log lanes Spare = spare
  each_disk P old new cat spare volumes boot log lanes Boot = boot
  each_disk P old new cat spare volumes boot log lanes Log = log
  each_disk P old new cat spare volumes boot log lanes (OfVolume n) =
      both_map volume_disk (P (OfVolume n)) (slice_get old.store.volumes.items n) (slice_get new.store.volumes.items n) (volumes n)
  each_disk P old new cat spare volumes boot log lanes (Chunk n) =
      both_map lane_disk (P (Chunk n)) (slice_get old.lanes.items n) (slice_get new.lanes.items n) (lanes n)

  module _ (disk : Ghosts D) where
    -- a disk that isn't used, and one that is
    pub untouched : (era : EraView) (reads writes : ℕ) (it : D) → MayUse era (disk.ledger it) → UsesIn disk era reads writes it it
    untouched era reads writes it may = record { earlier = λ tells f c lt image. image; ledger = uses_more (uses_nothing may) (omega arith) (omega arith) }

    pub used_in : (step : List ℕ → List ℕ → Type 0) (era : EraView) (reads writes : ℕ) (was is : D) → (IsTrue disk.is_modelled → Leaves era.number step (disk.image was) (disk.image is))
        → Uses era reads writes (disk.ledger was) (disk.ledger is) → UsesIn disk era reads writes was is
    used_in step era reads writes was is leaves uses = record { earlier = λ tells. (leaves tells).earlier; ledger = uses }

    -- images of earlier eras
    pub none_earlier : (era : EraView) (head : Head) (old new : Site D) → IsTrue disk.is_modelled → EachDisk (Touches disk era head) old new
        → (f : ℕ) (name : DiskName) (bytes : List ℕ) → f < era.number → images_of disk new f name bytes → images_of disk old f name bytes
    none_earlier era head old new tells each f name bytes lt image = by (disk_named old name) (disk_named new name) (each name) image
      where
        by : (x y : Option D) → Both (Touches disk era head name) x y → image_or disk y f bytes → image_or disk x f bytes
        by None None touched image = image
        by None (Some b) touched image = absurd touched
        by (Some a) None touched image = absurd touched
        by (Some a) (Some b) touched image = touched.earlier tells f bytes lt image

    -- the numbers

    widened : (era : EraView) (head : Head) (name : DiskName) (was is : D) → Touches disk era head name was is → Uses era (reads_of name) (all_writes_of head name) (disk.ledger was) (disk.ledger is)
    widened era head Cat was is touched = uses_more touched.ledger (omega arith) (omega arith)
    widened era head Spare was is touched = touched.ledger
    widened era head Boot was is touched = touched.ledger
    widened era head Log was is touched = touched.ledger
    widened era head (OfVolume n) was is touched = touched.ledger
    widened era head (Chunk n) was is touched = touched.ledger

    spends_or : (era : EraView) (head : Head) (name : DiskName) (x y : Option D) → may_or disk era x → Both (Touches disk era head name) x y → Both (SpendsOn disk era era head name) x y
    spends_or era head name None None may touched = tt
    spends_or era head name None (Some b) may touched = touched
    spends_or era head name (Some a) None may touched = touched
    spends_or era head name (Some a) (Some b) may touched = spends_in_one may (widened era head name a b touched)

    later_or : (from mid to : EraView) (head : Head) (name : DiskName) → mid.number ≤ to.number → to.key ≡ mid.key → (x y : Option D) → Both (SpendsOn disk from mid head name) x y
        → Both (SpendsOn disk from to head name) x y
    later_or from mid to head name le key None None spends = tt
    later_or from mid to head name le key None (Some b) spends = spends
    later_or from mid to head name le key (Some a) None spends = spends
    later_or from mid to head name le key (Some a) (Some b) spends = spends_later spends le key

    -- of the first era alone
    pub spends_first : (era : EraView) (head : Head) (old new : Site D) → MayUseAll disk era old → EachDisk (Touches disk era head) old new → EachDisk (SpendsOn disk era era head) old new
    spends_first era head old new may each name = spends_or era head name (disk_named old name) (disk_named new name) (may name) (each name)

    -- and of both
    pub spends_both : (from mid to : EraView) (head : Head) (old between : Site D) (cat : D) → MayUseAll disk from old → EachDisk (Touches disk from head) old between
        → from.number ≤ mid.number → mid.key ≡ from.key → mid.number ≤ to.number → to.key ≡ mid.key
        → Uses mid 0 4097 (disk.ledger (cat_of between.store.cat)) (disk.ledger cat)
        → EachDisk (SpendsOn disk from to head) old (with_cat between cat)
    spends_both from mid to head old between cat may each le key later same uses = by
      where
        rest : (name : DiskName) → Both (SpendsOn disk from to head name) (disk_named old name) (disk_named between name)
        rest name = later_or from mid to head name later same (disk_named old name) (disk_named between name)
            (later_or from from mid head name le key (disk_named old name) (disk_named between name) (spends_first from head old between may each name))

        by : (name : DiskName) → Both (SpendsOn disk from to head name) (disk_named old name) (disk_named (with_cat between cat) name)
        by Cat =
            let first : Spends from from 1 78849 (disk.ledger (cat_of old.store.cat)) (disk.ledger (cat_of between.store.cat)) = spends_in_one (may Cat) (each Cat).ledger in
            let there = spends_later first le key in
            let second : Spends mid mid 0 4097 (disk.ledger (cat_of between.store.cat)) (disk.ledger cat) = spends_in_one there.may uses in
            spends_later (spends_again there second (omega arith) (omega arith)) later same
        by Spare = rest Spare
        by Boot = rest Boot
        by Log = rest Log
        by (OfVolume n) = rest (OfVolume n)
        by (Chunk n) = rest (Chunk n)

    may_by : (from to : EraView) (head : Head) (name : DiskName) (x y : Option D) → Both (SpendsOn disk from to head name) x y → may_or disk to y
    may_by from to head name None None spends = tt
    may_by from to head name None (Some b) spends = absurd spends
    may_by from to head name (Some a) None spends = tt
    may_by from to head name (Some a) (Some b) spends = spends.may

    pub may_then : (from to : EraView) (head : Head) (old new : Site D) → EachDisk (SpendsOn disk from to head) old new → MayUseAll disk to new
    may_then from to head old new each name = may_by from to head name (disk_named old name) (disk_named new name) (each name)

    pub may_next : (from to : EraView) (head : Head) (old new : Site D) → MayUseAll disk from old → EachDisk (Touches disk from head) old new → from.number ≤ to.number → to.key ≡ from.key
        → MayUseAll disk to new
    may_next from to head old new may each le key name =
        may_by from to head name (disk_named old name) (disk_named new name)
        (later_or from from to head name le key (disk_named old name) (disk_named new name) (spends_first from head old new may each name))

    -- causes

    faults_by : (era : EraView) (head : Head) (name : DiskName) (x y : Option D) → Both (Touches disk era head name) x y → faults_or disk x ≤ faults_or disk y
    faults_by era head name None None touched = omega arith
    faults_by era head name None (Some b) touched = absurd touched
    faults_by era head name (Some a) None touched = absurd touched
    faults_by era head name (Some a) (Some b) touched = touched.ledger.faults

    rose_since : (old mid new : ℕ) → old ≤ mid → Rose mid new → Rose old new
    rose_since old mid new le rose = omega (arith, le, rose)

    pub cause_since : (era : EraView) (head : Head) (old mid new : Site D) → EachDisk (Touches disk era head) old mid → (fault : SiteFault) → HasCauseOn disk mid new fault → HasCauseOn disk old new fault
    cause_since era head old mid new each OutOfMemory has = tt
    cause_since era head old mid new each (DiskFault name) has =
        rose_since (faults_on disk old name) (faults_on disk mid name) (faults_on disk new name) (faults_by era head name (disk_named old name) (disk_named mid name) (each name)) has
    cause_since era head old mid new each NotFormatted has = has
    cause_since era head old mid new each AlreadyFormatted has = has
    cause_since era head old mid new each (BadRecord name slot) has = has
    cause_since era head old mid new each (NeedsRestart number) has = has
    cause_since era head old mid new each (NoSuchSpace name) has = has
    cause_since era head old mid new each (NoSuchPage page) has = has
    cause_since era head old mid new each (ChunkLost space name) has = has
    cause_since era head old mid new each LogLost has = has
    cause_since era head old mid new each (LogFull why) has = has
    cause_since era head old mid new each (StoreFull volume) has = has
    cause_since era head old mid new each CatalogueFull has = has
    cause_since era head old mid new each TooManyObjects has = has
    cause_since era head old mid new each BootFull has = has

    -- a fault of the store
    pub store_cause : (old new : Site D) (fault : StoreFault) → IsDiskFault fault → HasRisen disk.ledger old.store new.store fault → HasCauseOn disk old new (fault_of_store fault)
    store_cause old new NoMemory only rose = absurd only
    store_cause old new (FailedDisk StoreCat) only rose = rose
    store_cause old new (FailedDisk StoreSpare) only rose = rose
    store_cause old new (FailedDisk (StoreVolume number)) only one =
        subst (λ (o : Option (Volume D)). Rose (faults_of o) (faults_of (slice_get new.store.volumes.items number))) (sym one.there)
        (subst (λ (o : Option (Volume D)). Rose (disk.ledger (volume_disk one.was)).faults (faults_of o)) (sym one.behind) one.by)
      where
        faults_of : Option (Volume D) → ℕ
        faults_of o = faults_or disk (option_map volume_disk o)
    store_cause old new NoStore only rose = absurd only
    store_cause old new (BadPlace place slot) only rose = absurd only
