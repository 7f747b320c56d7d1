-- What stays of a site whose store and boot file were read.
use Rattle.std.proofs.Common.{◌≡◌, ◌⊎◌, ℕ, List, length, Option, refl, sym, ap, subst, ◌∙◌, ⊎_elim}
use Rattle.std.specs.Prelude.{slice_get}
use Rattle.std.specs.Option.{option_map}
use Rattle.std.specs.declared.vec.Vec.{Vec}
use Rattle.std.specs.declared.alloc.Global.{Global}
use Rattle.site_disk.specs.Ledger.{EraView, MayUse}
use Rattle.site_disk.specs.declared.disk.Disk.{Ghosts}
use Rattle.site_headers.specs.Heads.{Head}
use Rattle.catalogue_journal.specs.Catalogues.{cat_of, spare_of, objects_of}
use Rattle.boot_file.specs.Boots.{disk_of as boot_disk}
use Rattle.logical_log.specs.Rings.{disk_of as log_disk, IsMade as IsMadeLog}
use Rattle.logical_log.specs.declared.ring.LogRing.{LogRing}
use Rattle.object_volume.specs.Volumes.{disk_of as volume_disk, number_of}
use Rattle.object_volume.specs.declared.volume.Volume.{Volume}
use Rattle.object_store.specs.Stores.{OfEach}
use Rattle.object_store.specs.declared.store.Store.{Store}
use Rattle.space_lane.specs.Lanes.{disk_of as lane_disk}
use Rattle.space_lane.specs.declared.lane.Lane.{Lane}
use Rattle.store_opening.specs.Disks.{EachFrom, MayUseStore}
use Rattle.store_opening.specs.Opening.{OpensVolume, MissesVolume}
use Rattle.store_opening.specs.declared.faults.StoreFault.{StoreFault}
use Rattle.store_opening.proofs.LoopLemmas.{each_here, each_means, each_now, stops_each}
use Rattle.site_model.specs.declared.disk_name.DiskName.{DiskName}
use Rattle.site_model.specs.declared.disk_name.DiskName.TheVariants.{Cat, Spare, Boot as TheBoot, Log, Volume as TheVolume, Chunk}
use Rattle.site_core.specs.declared.faults.SiteFault.{SiteFault}
use Rattle.site_core.specs.declared.site.Site.{Site}
use Rattle.site_core.specs.Disks.{disk_named, bytes_or, may_or, MayUseAll}
use Rattle.site_core.specs.Made.{AreMade, IsMadeSite}
use Rattle.site_core.specs.Quiet.{ReadsSame}
use Rattle.site_opening.specs.Opens.{store_bytes}
use Rattle.site_opening.specs.Steps.{ReadsDisk, ReadsCatalogue, ReadsBoot, OpensParts, MissesParts, StopsAtCatalogue, StopsAtBoot, StopsAtVolumes}
use Rattle.site_opening.proofs.ReadLemmas.{ReadsOr, reads_none, reads_or_none, each_by, by_name}

module _ {D : Type 0} (disk : Ghosts D) (era : EraView) where
  -- a volume was read, or wasn't touched
  pub record ReadsVolume (place : ℕ) (was is : Volume D) : Type 0 where
    pub stays : number_of is ≡ number_of was
    pub reads : ReadsDisk disk era 4096 (volume_disk was) (volume_disk is)

  -- catalogue, boot file and volumes were read, or weren't touched, and the rest is as it was
  pub record KeepsParts (was is : Site D) : Type 0 where
    pub value : is ≡ record was { store = is.store; boot = is.boot }
    pub catalogue : ReadsCatalogue disk era was.store.cat is.store.cat
    pub boot : ReadsBoot disk era was.boot is.boot
    pub volumes : EachFrom ReadsVolume was.store.volumes.items is.store.volumes.items

  opens_reads : (site : ℕ) (was : Store D) (place : ℕ) (one other : Volume D) → OpensVolume disk era site (objects_of was.cat) place one other → ReadsVolume place one other
  opens_reads site was place one other opens = record { stays = opens.stays; reads = record { crash = opens.crash; ledger = opens.ledger } }

  misses_reads : (site : ℕ) (was : Store D) (fault : StoreFault) (place : ℕ) (one other : Volume D) → MissesVolume disk era site (objects_of was.cat) place fault one other → ReadsVolume place one other
  misses_reads site was fault place one other misses = record { stays = misses.stays; reads = record { crash = misses.crash; ledger = misses.ledger } }

  module _ (was : Site D) (may : MayUseAll disk era was) (made : IsMadeSite was) where
    pub may_volume : OfEach (λ place volume. MayUse era (disk.ledger (volume_disk volume))) was.store.volumes.items
    may_volume place volume there = subst (λ (o : Option (Volume D)). may_or disk era (option_map volume_disk o)) there (may (TheVolume place))

    pub may_store : MayUseStore disk.ledger era was.store
    may_store = record { cat = may Cat; spare = may Spare; volumes = may_volume }

    boot_none : ReadsBoot disk era was.boot was.boot
    boot_none = record { made = made.boot; reads = reads_none disk era 8459008 (boot_disk was.boot) (may TheBoot) }

    untouched : OfEach (λ place volume. ReadsVolume place volume volume) was.store.volumes.items
    untouched place volume there = record { stays = refl; reads = reads_none disk era 4096 (volume_disk volume) (may_volume place volume there) }

    module _ (is : Site D) where
      pub opens_keeps : (head : Head) → OpensParts disk era head was is → KeepsParts was is
      opens_keeps head opens = record {
        value = opens.value;
        catalogue = subst (ReadsCatalogue disk era was.store.cat) (sym opens.volumes.cat) opens.catalogue.reads;
        boot = opens.boot.reads;
        volumes = each_means (OpensVolume disk era head.site (objects_of opens.cat)) ReadsVolume was.store.volumes.items is.store.volumes.items
            (opens_reads head.site (record was.store { cat = opens.cat })) opens.volumes.each;
      }

      -- where it stopped at the catalogue, all else is as it was
      at_catalogue : (fault : SiteFault) → StopsAtCatalogue disk era fault was is → KeepsParts was is
      at_catalogue fault stops = record {
        value = subst (λ (s : Site D). s ≡ record was { store = s.store; boot = s.boot }) (sym stops.value) refl;
        catalogue = stops.catalogue.reads;
        boot = subst (ReadsBoot disk era was.boot) (sym (ap (λ (s : Site D). s.boot) stops.value)) boot_none;
        volumes = subst (λ (l : List (Volume D)). EachFrom ReadsVolume was.store.volumes.items l) (sym (ap (λ (s : Site D). s.store.volumes.items) stops.value))
            (each_here ReadsVolume was.store.volumes.items untouched);
      }

      at_boot : (fault : SiteFault) → StopsAtBoot disk era fault was is → KeepsParts was is
      at_boot fault stops = record {
        value = subst (λ (s : Site D). s ≡ record was { store = s.store; boot = s.boot }) (sym stops.value) refl;
        catalogue = stops.catalogue.reads;
        boot = stops.boot.reads;
        volumes = subst (λ (l : List (Volume D)). EachFrom ReadsVolume was.store.volumes.items l) (sym (ap (λ (s : Site D). s.store.volumes.items) stops.value))
            (each_here ReadsVolume was.store.volumes.items untouched);
      }

      at_volumes : (fault : SiteFault) → StopsAtVolumes disk era fault was is → KeepsParts was is
      at_volumes fault stops = record {
        value = stops.value;
        catalogue = subst (ReadsCatalogue disk era was.store.cat) (sym stops.volumes.cat) stops.catalogue.reads;
        boot = stops.boot.reads;
        volumes = stops_each (OpensVolume disk era stops.head.site (objects_of stops.cat)) (MissesVolume disk era stops.head.site (objects_of stops.cat)) stops.volumes.own
            was.store.volumes.items is.store.volumes.items stops.volumes.stops ReadsVolume
            (opens_reads stops.head.site (record was.store { cat = stops.cat })) (misses_reads stops.head.site (record was.store { cat = stops.cat }) stops.volumes.own) untouched;
      }

      pub misses_keeps : (fault : SiteFault) → MissesParts disk era fault was is → KeepsParts was is
      misses_keeps fault misses = ⊎_elim (at_catalogue fault) (λ (others : StopsAtBoot disk era fault was is ⊎ StopsAtVolumes disk era fault was is). ⊎_elim (at_boot fault) (at_volumes fault) others) misses

      -- ---- what that comes to

      module _ (keeps : KeepsParts was is) where
        log_is : is.log ≡ was.log
        log_is = ap (λ (s : Site D). s.log) keeps.value

        lanes_are : is.lanes ≡ was.lanes
        lanes_are = ap (λ (s : Site D). s.lanes) keeps.value

        pub made_still : IsMadeSite is
        made_still = record {
          store = record {
            cat = keeps.catalogue.made;
            capacity = keeps.catalogue.capacity;
            count = keeps.volumes.count ∙ made.store.count;
            numbers = each_now ReadsVolume (λ place volume. number_of volume ≡ place) was.store.volumes.items is.store.volumes.items keeps.volumes
                (λ place one other there by. by.stays ∙ made.store.numbers place one there);
          };
          boot = keeps.boot.made;
          log = subst IsMadeLog (sym log_is) made.log;
          count = ap (λ (l : Vec (Lane D) Global). length l.items) lanes_are ∙ made.count;
          lanes = subst (λ (l : Vec (Lane D) Global). AreMade l.items) (sym lanes_are) made.lanes;
        }

        pub reads_all : (name : DiskName) → ReadsOr disk era (store_bytes name) (disk_named was name) (disk_named is name)
        reads_all = by_name (λ name. ReadsOr disk era (store_bytes name)) was is keeps.catalogue.cat keeps.catalogue.spare keeps.boot.reads
            (subst (λ (log : LogRing D). ReadsDisk disk era 0 (log_disk was.log) (log_disk log)) (sym log_is) (reads_none disk era 0 (log_disk was.log) (may Log)))
            (each_by (ReadsOr disk era 4096) ReadsVolume was.store.volumes.items is.store.volumes.items keeps.volumes tt (λ place one other there by. by.reads))
            (λ n. subst (λ (l : Vec (Lane D) Global). ReadsOr disk era 0 (option_map lane_disk (slice_get was.lanes.items n)) (option_map lane_disk (slice_get l.items n))) (sym lanes_are)
            (reads_or_none disk era 0 (option_map lane_disk (slice_get was.lanes.items n)) (may (Chunk n))))

        -- and where no disk failed, reads give what they gave
        pub same_all : disk.bytes (cat_of is.store.cat) ≡ disk.bytes (cat_of was.store.cat) → disk.bytes (spare_of is.store.cat) ≡ disk.bytes (spare_of was.store.cat)
            → disk.bytes (boot_disk is.boot) ≡ disk.bytes (boot_disk was.boot)
            → EachFrom (λ place one other. disk.bytes (volume_disk other) ≡ disk.bytes (volume_disk one)) was.store.volumes.items is.store.volumes.items → ReadsSame disk was is
        same_all cat spare boot volumes = by_name (λ name one other. bytes_or disk other ≡ bytes_or disk one) was is cat spare boot
            (ap (λ (log : LogRing D). disk.bytes (log_disk log)) log_is)
            (each_by (λ one other. bytes_or disk other ≡ bytes_or disk one) (λ place one other. disk.bytes (volume_disk other) ≡ disk.bytes (volume_disk one)) was.store.volumes.items is.store.volumes.items volumes refl
            (λ place one other there by. by))
            (λ n. ap (λ (l : Vec (Lane D) Global). bytes_or disk (option_map lane_disk (slice_get l.items n))) lanes_are)
