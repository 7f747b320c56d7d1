-- A site that wasn't opened: which disk failed, and what reads give where none did.
use Rattle.std.proofs.Common.{◌≡◌, ◌⊎◌, ℕ, true, false, List, Option, Some, refl, sym, ap, subst, ◌∙◌, ⊎_elim, inl, inr}
use Rattle.std.specs.Option.{option_map}
use Rattle.site_disk.specs.Causes.{Rose}
use Rattle.site_disk.specs.Ledger.{EraView}
use Rattle.site_disk.specs.declared.disk.Disk.{Ghosts}
use Rattle.site_headers.specs.Heads.{Head}
use Rattle.catalogue_replay.specs.Answers.{IsNoFailure as IsNoCatalogueFailure}
use Rattle.catalogue_replay.specs.declared.faults.CatFault.{CatFault}
use Rattle.catalogue_replay.specs.declared.faults.CatFault.TheVariants.{NotFormatted as NoCatalogue, BadRecord as BadPlace, CatalogueFull, TooManyObjects, Failed as CatalogueFailed, OutOfMemory as NoMemory}
use Rattle.catalogue_journal.specs.Answers.{FailsOnOne}
use Rattle.catalogue_journal.specs.Catalogues.{objects_of}
use Rattle.boot_file.specs.Answers.{FailsOn as BootFailsOn, IsNoFailure as IsNoBootFailure}
use Rattle.boot_file.specs.Boots.{disk_of as boot_disk}
use Rattle.boot_file.specs.declared.faults.BootFault.{BootFault}
use Rattle.boot_file.specs.declared.faults.BootFault.TheVariants.{BadRecord as BadBoot, BootFull, Failed as BootFailed, OutOfMemory as NoBootMemory}
use Rattle.object_volume.specs.Volumes.{disk_of as volume_disk}
use Rattle.object_volume.specs.declared.volume.Volume.{Volume}
use Rattle.object_store.specs.declared.store.Store.{Store}
use Rattle.store_opening.specs.Disks.{EachFrom, OneFrom, StopsAt as StopsAtVolume}
use Rattle.store_opening.specs.Faults.{IsDiskFault, IsNoDiskFault as IsNoStoreFailure, IsOfVolume}
use Rattle.store_opening.specs.Opening.{MissesVolume, OpensVolume}
use Rattle.store_opening.specs.declared.faults.StoreDisk.{StoreDisk}
use Rattle.store_opening.specs.declared.faults.StoreFault.{StoreFault}
use Rattle.store_opening.specs.declared.faults.StoreFault.TheVariants.{OutOfMemory as NoStoreMemory, DiskFault as StoreFailed, NotFormatted as NoStore, BadRecord as BadStore}
use Rattle.store_opening.proofs.LoopLemmas.{each_here, each_means, stops_each}
use Rattle.site_model.specs.declared.disk_name.DiskName.{DiskName}
use Rattle.site_model.specs.declared.disk_name.DiskName.TheVariants.{Cat, Spare, Boot as TheBoot, Volume as TheVolume}
use Rattle.site_core.specs.declared.faults.SiteFault.{SiteFault}
use Rattle.site_core.specs.declared.faults.SiteFault.TheVariants.{DiskFault}
use Rattle.site_core.specs.declared.site.Site.{Site}
use Rattle.site_core.specs.Disks.{faults_on, faults_or, MayUseAll}
use Rattle.site_openings.specs.Openings.{IsOfDisks}
use Rattle.site_core.specs.Faults.{IsFailure, IsNoDiskFault, status_in}
use Rattle.site_core.specs.Made.{IsMadeSite}
use Rattle.site_core.specs.Quiet.{ReadsSame}
use Rattle.site_opening.specs.Faults.{disk_of_store, fault_of_boot, fault_of_catalogue, fault_of_store}
use Rattle.site_opening.specs.Steps.{MissesParts, OpensCatalogue, OpensParts, StopsAtCatalogue, StopsAtBoot, StopsAtVolumes}
use Rattle.site_opening.proofs.PartLemmas.{KeepsParts, misses_keeps, opens_keeps, same_all}

-- ---- which disk failed

module _ {D : Type 0} (disk : Ghosts D) (was is : Site D) where
  -- the count of this disk rose
  abbrev pub RoseFor : DiskName → Type 0
  RoseFor name = Rose (faults_on disk was name) (faults_on disk is name)

  same_disk : (one name : DiskName) → DiskFault one ≡ DiskFault name → RoseFor one → RoseFor name
  same_disk one name e rose = let same : one ≡ name = cc in subst RoseFor same rose

  by_catalogue : (own : CatFault) (name : DiskName)
      → FailsOnOne (faults_on disk was Cat) (faults_on disk is Cat) (faults_on disk was Spare) (faults_on disk is Spare) own
      → fault_of_catalogue own ≡ DiskFault name → RoseFor name
  by_catalogue NoCatalogue name fails e = absurd (let no : ⊥ = cc in no)
  by_catalogue (BadPlace spare slot) name fails e = absurd (let no : ⊥ = cc in no)
  by_catalogue (CatalogueFull used wanted) name fails e = absurd (let no : ⊥ = cc in no)
  by_catalogue (TooManyObjects live last) name fails e = absurd (let no : ⊥ = cc in no)
  by_catalogue (CatalogueFailed false) name fails e = same_disk Cat name e fails
  by_catalogue (CatalogueFailed true) name fails e = same_disk Spare name e fails
  by_catalogue NoMemory name fails e = absurd (let no : ⊥ = cc in no)

  by_boot : (own : BootFault) (name : DiskName) → BootFailsOn (faults_on disk was TheBoot) (faults_on disk is TheBoot) own → fault_of_boot own ≡ DiskFault name → RoseFor name
  by_boot (BadBoot slot) name fails e = absurd (let no : ⊥ = cc in no)
  by_boot (BootFull used wanted number) name fails e = absurd (let no : ⊥ = cc in no)
  by_boot BootFailed name fails e = same_disk TheBoot name e fails
  by_boot NoBootMemory name fails e = absurd (let no : ⊥ = cc in no)

  by_volume : (number : ℕ) (own : StoreFault) (name : DiskName) → IsOfVolume number own → (IsDiskFault own → RoseFor (TheVolume number)) → fault_of_store own ≡ DiskFault name → RoseFor name
  by_volume number NoStoreMemory name of rose e = absurd (let no : ⊥ = cc in no)
  by_volume number (StoreFailed which) name of rose e = same_disk (TheVolume number) name (ap (λ (d : StoreDisk). DiskFault (disk_of_store d)) (sym of) ∙ e) (rose tt)
  by_volume number NoStore name of rose e = absurd of
  by_volume number (BadStore which slot) name of rose e = absurd (let no : ⊥ = cc in no)

  module _ (era : EraView) (site : ℕ) (objects : Store D) (own : StoreFault)
      (stops : StopsAtVolume (OpensVolume disk era site (objects_of objects.cat)) (MissesVolume disk era site (objects_of objects.cat)) own was.store.volumes.items is.store.volumes.items) where
    one : OneFrom (MissesVolume disk era site (objects_of objects.cat) stops.number own) stops.number was.store.volumes.items is.store.volumes.items
    one = stops.stopped

    volume_rose : IsDiskFault own → RoseFor (TheVolume stops.number)
    volume_rose failed =
        subst (λ (o : Option (Volume D)). Rose (faults_or disk (option_map volume_disk o)) (faults_on disk is (TheVolume stops.number))) (sym one.there)
        (subst (λ (o : Option (Volume D)). Rose (faults_or disk (Some (volume_disk one.was))) (faults_or disk (option_map volume_disk o))) (sym one.behind) (one.by.rose failed))

    at_volume : (name : DiskName) → fault_of_store own ≡ DiskFault name → RoseFor name
    at_volume name e = by_volume stops.number own name one.by.own volume_rose e

  module _ (era : EraView) (fault : SiteFault) (name : DiskName) (failed : fault ≡ DiskFault name) where
    at_catalogue : StopsAtCatalogue disk era fault was is → RoseFor name
    at_catalogue stops = by_catalogue stops.catalogue.own name stops.catalogue.failed (sym stops.catalogue.fault_is ∙ failed)

    at_boot : StopsAtBoot disk era fault was is → RoseFor name
    at_boot stops = by_boot stops.boot.own name stops.boot.failed (sym stops.boot.fault_is ∙ failed)

    at_volumes : StopsAtVolumes disk era fault was is → RoseFor name
    at_volumes stops = at_volume era stops.head.site (record was.store { cat = stops.cat }) stops.volumes.own stops.volumes.stops name (sym stops.volumes.fault_is ∙ failed)

    pub misses_rose : MissesParts disk era fault was is → RoseFor name
    misses_rose misses = ⊎_elim at_catalogue (λ (others : StopsAtBoot disk era fault was is ⊎ StopsAtVolumes disk era fault was is). ⊎_elim at_boot at_volumes others) misses

-- ---- which faults there are

-- it failed, or is decided by what the disks hold
abbrev pub IsOpeningFault : SiteFault → Type 0
IsOpeningFault fault = IsFailure fault ⊎ IsOfDisks (status_in fault)

only_of_catalogue : (own : CatFault) → IsOpeningFault (fault_of_catalogue own)
only_of_catalogue NoCatalogue = inr tt
only_of_catalogue (BadPlace spare slot) = inr tt
only_of_catalogue (CatalogueFull used wanted) = inr tt
only_of_catalogue (TooManyObjects live last) = inr tt
only_of_catalogue (CatalogueFailed spare) = inl tt
only_of_catalogue NoMemory = inl tt

only_of_boot : (own : BootFault) → IsOpeningFault (fault_of_boot own)
only_of_boot (BadBoot slot) = inr tt
only_of_boot (BootFull used wanted number) = inr tt
only_of_boot BootFailed = inl tt
only_of_boot NoBootMemory = inl tt

only_of_store : (own : StoreFault) → IsOpeningFault (fault_of_store own)
only_of_store NoStoreMemory = inl tt
only_of_store (StoreFailed which) = inl tt
only_of_store NoStore = inr tt
only_of_store (BadStore which slot) = inr tt

module _ {D : Type 0} (disk : Ghosts D) (was is : Site D) (era : EraView) (fault : SiteFault) where
  pub misses_only : MissesParts disk era fault was is → IsOpeningFault fault
  misses_only misses = ⊎_elim
      (λ (stops : StopsAtCatalogue disk era fault was is). subst IsOpeningFault (sym stops.catalogue.fault_is) (only_of_catalogue stops.catalogue.own))
      (λ (others : StopsAtBoot disk era fault was is ⊎ StopsAtVolumes disk era fault was is). ⊎_elim
      (λ (stops : StopsAtBoot disk era fault was is). subst IsOpeningFault (sym stops.boot.fault_is) (only_of_boot stops.boot.own))
      (λ (stops : StopsAtVolumes disk era fault was is). subst IsOpeningFault (sym stops.volumes.fault_is) (only_of_store stops.volumes.own))
      others)
      misses

-- ---- what reads give

no_catalogue_failure : (own : CatFault) → IsNoDiskFault (fault_of_catalogue own) → IsNoCatalogueFailure own
no_catalogue_failure NoCatalogue none = tt
no_catalogue_failure (BadPlace spare slot) none = tt
no_catalogue_failure (CatalogueFull used wanted) none = tt
no_catalogue_failure (TooManyObjects live last) none = tt
no_catalogue_failure (CatalogueFailed spare) none = none
no_catalogue_failure NoMemory none = tt

no_boot_failure : (own : BootFault) → IsNoDiskFault (fault_of_boot own) → IsNoBootFailure own
no_boot_failure (BadBoot slot) none = tt
no_boot_failure (BootFull used wanted number) none = tt
no_boot_failure BootFailed none = none
no_boot_failure NoBootMemory none = tt

no_store_failure : (own : StoreFault) → IsNoDiskFault (fault_of_store own) → IsNoStoreFailure own
no_store_failure NoStoreMemory none = tt
no_store_failure (StoreFailed which) none = none
no_store_failure NoStore none = tt
no_store_failure (BadStore which slot) none = tt

module _ {D : Type 0} (disk : Ghosts D) (era : EraView) (was : Site D) (may : MayUseAll disk era was) (made : IsMadeSite was) (is : Site D) where
  -- of a volume a read gives what it gave
  abbrev KeepsVolume : ℕ → Volume D → Volume D → Type 0
  KeepsVolume place one other = disk.bytes (volume_disk other) ≡ disk.bytes (volume_disk one)

  volumes_same : is.store.volumes.items ≡ was.store.volumes.items → EachFrom KeepsVolume was.store.volumes.items is.store.volumes.items
  volumes_same e = subst (λ (l : List (Volume D)). EachFrom KeepsVolume was.store.volumes.items l) (sym e) (each_here KeepsVolume was.store.volumes.items (λ place volume there. refl))

  pub opens_same : (head : Head) → OpensParts disk era head was is → ReadsSame disk was is
  opens_same head opens =
      let front : OpensCatalogue disk era head was.store.cat is.store.cat = subst (OpensCatalogue disk era head was.store.cat) (sym opens.volumes.cat) opens.catalogue in
      same_all disk era was may made is (opens_keeps disk era was may made is head opens) front.bytes front.spare_bytes opens.boot.bytes
      (each_means (OpensVolume disk era head.site (objects_of opens.cat)) KeepsVolume was.store.volumes.items is.store.volumes.items (λ place one other by. by.bytes) opens.volumes.each)

  module _ (fault : SiteFault) (none : IsNoDiskFault fault) where
    same_at_catalogue : KeepsParts disk era was is → StopsAtCatalogue disk era fault was is → ReadsSame disk was is
    same_at_catalogue keeps stops =
        let own : IsNoCatalogueFailure stops.catalogue.own = no_catalogue_failure stops.catalogue.own (subst IsNoDiskFault stops.catalogue.fault_is none) in
        same_all disk era was may made is keeps (stops.catalogue.bytes own) (stops.catalogue.spare_bytes own) (ap (λ (s : Site D). disk.bytes (boot_disk s.boot)) stops.value)
        (volumes_same (ap (λ (s : Site D). s.store.volumes.items) stops.value))

    same_at_boot : KeepsParts disk era was is → StopsAtBoot disk era fault was is → ReadsSame disk was is
    same_at_boot keeps stops =
        same_all disk era was may made is keeps stops.catalogue.bytes stops.catalogue.spare_bytes
        (stops.boot.bytes (no_boot_failure stops.boot.own (subst IsNoDiskFault stops.boot.fault_is none)))
        (volumes_same (ap (λ (s : Site D). s.store.volumes.items) stops.value))

    same_at_volumes : KeepsParts disk era was is → StopsAtVolumes disk era fault was is → ReadsSame disk was is
    same_at_volumes keeps stops =
        let front : OpensCatalogue disk era stops.head was.store.cat is.store.cat = subst (OpensCatalogue disk era stops.head was.store.cat) (sym stops.volumes.cat) stops.catalogue in
        let own : IsNoStoreFailure stops.volumes.own = no_store_failure stops.volumes.own (subst IsNoDiskFault stops.volumes.fault_is none) in
        same_all disk era was may made is keeps front.bytes front.spare_bytes stops.boot.bytes
        (stops_each (OpensVolume disk era stops.head.site (objects_of stops.cat)) (MissesVolume disk era stops.head.site (objects_of stops.cat)) stops.volumes.own
        was.store.volumes.items is.store.volumes.items stops.volumes.stops KeepsVolume (λ place one other by. by.bytes) (λ place one other by. by.bytes own) (λ place volume there. refl))

    pub misses_same : MissesParts disk era fault was is → ReadsSame disk was is
    misses_same misses =
        let keeps : KeepsParts disk era was is = misses_keeps disk era was may made is fault misses in
        ⊎_elim (same_at_catalogue keeps) (λ (others : StopsAtBoot disk era fault was is ⊎ StopsAtVolumes disk era fault was is). ⊎_elim (same_at_boot keeps) (same_at_volumes keeps) others) misses
