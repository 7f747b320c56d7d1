-- A site that was opened part by part, by the bytes of its disks: they are as its checks ask, or the first check that they don't meet refuses them.
use Rattle.std.proofs.Common.{◌≡◌, ◌⊎◌, ℕ, ◌<◌, ◌≤◌, IsTrue, true, false, List, length, Option, Some, inl, inr, refl, sym, ap, subst, ◌∙◌, arith, ⊎_elim}
use Rattle.std.specs.Prelude.{slice_get}
use Rattle.std.specs.Option.{option_map}
use Rattle.std.proofs.lemmas.Option.{slice_get_within}
use Rattle.site_disk.specs.Ledger.{EraView}
use Rattle.site_disk.specs.declared.disk.Disk.{Ghosts}
use Rattle.site_headers.specs.Areas.{slot_count}
use Rattle.site_headers.specs.Heads.{Head}
use Rattle.catalogue_replay.specs.Answers.{IsBadCatalogue, IsCatalogue}
use Rattle.catalogue_replay.specs.Places.{area_of}
use Rattle.catalogue_replay.specs.declared.faults.CatFault.{CatFault}
use Rattle.catalogue_replay.specs.declared.faults.CatFault.TheVariants.{NotFormatted as NoCatalogue, BadRecord as BadPlace, CatalogueFull, TooManyObjects, Failed as CatalogueFailed, OutOfMemory as NoMemory}
use Rattle.catalogue_journal.specs.Catalogues.{contents_in, objects_of}
use Rattle.catalogue_journal.specs.declared.catalogue.Catalogue.{Catalogue}
use Rattle.boot_file.specs.Answers.{IsBadBoot}
use Rattle.boot_file.specs.Boots.{disk_of as boot_disk, lines_in, number_in, restore_in}
use Rattle.boot_file.specs.Places.{HoldsBoot}
use Rattle.boot_file.specs.declared.boot.Boot.{Boot}
use Rattle.boot_file.specs.declared.faults.BootFault.{BootFault}
use Rattle.boot_file.specs.declared.faults.BootFault.TheVariants.{BadRecord as BadBoot, BootFull, Failed as BootFailed, OutOfMemory as NoBootMemory}
use Rattle.object_volume.specs.Volumes.{disk_of as volume_disk}
use Rattle.object_volume.specs.declared.volume.Volume.{Volume}
use Rattle.object_store.proofs.ReturnLemmas.{get-within}
use Rattle.store_opening.specs.Disks.{EachFrom, OneFrom, StopsAt as StopsAtVolume}
use Rattle.store_opening.specs.Faults.{IsOfVolume, IsRefusal}
use Rattle.store_opening.specs.Opening.{IsBadVolume, IsGoodVolume, MissesVolume, OpensVolume}
use Rattle.store_opening.specs.declared.faults.StoreDisk.{StoreDisk}
use Rattle.store_opening.specs.declared.faults.StoreFault.{StoreFault}
use Rattle.store_opening.specs.declared.faults.StoreFault.TheVariants.{OutOfMemory as NoStoreMemory, DiskFault as StoreFailed, NotFormatted as NoStore, BadRecord as BadStore}
use Rattle.store_opening.proofs.AgreeLemmas.{good_volume}
use Rattle.site_model.specs.declared.disk_name.DiskName.TheVariants.{Cat, Spare, Boot as TheBoot, Volume as TheVolume}
use Rattle.site_model.specs.declared.status.Status.TheVariants.{BadRecord}
use Rattle.site_openings.specs.Openings.{AllowedBy, Allows, Named, RefusedBy, IsFirstBadVolume, formatted_site, good_catalogue, good_boot}
use Rattle.site_core.specs.declared.faults.SiteFault.{SiteFault}
use Rattle.site_core.specs.declared.site.Site.{Site}
use Rattle.site_core.specs.Disks.{bytes_or, contents_of}
use Rattle.site_core.specs.Faults.{IsFailure, status_in}
use Rattle.site_core.specs.Made.{IsMadeSite}
use Rattle.site_opening.specs.Faults.{disk_of_store, fault_of_boot, fault_of_catalogue, fault_of_store}
use Rattle.site_opening.specs.Opens.{TellsBoot, store_checks}
use Rattle.site_opening.specs.Steps.{OpensCatalogue, OpensBoot, OpensParts, MissesParts, MissesBoot, StopsAtCatalogue, StopsAtBoot, StopsAtVolumes}

-- fails, or refuses with its status
abbrev pub Answers : {D : Type 0} → Ghosts D → Site D → SiteFault → Type 0
Answers disk was fault = IsFailure fault ⊎ RefusedBy store_checks (contents_of disk was) (status_in fault)

pub volume_bytes : {D : Type 0} (disk : Ghosts D) (was : Site D) (place : ℕ) (volume : Volume D) → slice_get was.store.volumes.items place ≡ Some volume
    → contents_of disk was (TheVolume place) ≡ disk.bytes (volume_disk volume)
volume_bytes {D = D} disk was place volume there = ap (λ (o : Option (Volume D)). bytes_or disk (option_map volume_disk o)) there

module _ {D : Type 0} (disk : Ghosts D) (era : EraView) (was : Site D) (tells : IsTrue disk.is_modelled) where
  -- ---- the catalogue

  by_catalogue : (own : CatFault) → IsBadCatalogue (area_of slot_count) (contents_of disk was Cat) (contents_of disk was Spare) own → Answers disk was (fault_of_catalogue own)
  by_catalogue NoCatalogue bad = inr (inl (bad, refl))
  by_catalogue (BadPlace false slot) bad = inr (inr ((bad.head, bad.has), inl (false, slot, bad, refl)))
  by_catalogue (BadPlace true slot) bad = inr (inr ((bad.head, bad.has), inl (true, slot, bad, refl)))
  by_catalogue (CatalogueFull used wanted) bad = absurd bad
  by_catalogue (TooManyObjects live last) bad = absurd bad
  by_catalogue (CatalogueFailed spare) bad = inl tt
  by_catalogue NoMemory bad = inl tt

  at_catalogue : (fault : SiteFault) (is : Site D) → StopsAtCatalogue disk era fault was is → Answers disk was fault
  at_catalogue fault is stops = subst (Answers disk was) (sym stops.catalogue.fault_is) (by_catalogue stops.catalogue.own (stops.catalogue.bad tells))

  -- ---- behind an open one, the boot file

  module _ (head : Head) (cat : Catalogue D) (catalogue : OpensCatalogue disk era head was.store.cat cat) where
    is_catalogue : IsCatalogue slot_count head (contents_in cat) (contents_of disk was Cat) (contents_of disk was Spare)
    is_catalogue = catalogue.front tells

    formatted : Allows formatted_site (contents_of disk was)
    formatted = (head, is_catalogue.heads)

    has_catalogue : Allows good_catalogue (contents_of disk was)
    has_catalogue = (head, contents_in cat, is_catalogue)

    by_boot : (own : BootFault) → IsBadBoot head.site (contents_of disk was TheBoot) own → Answers disk was (fault_of_boot own)
    by_boot (BadBoot slot) bad = inr (inr (formatted, inr (has_catalogue, inl (head, is_catalogue.heads, (slot, bad, refl)))))
    by_boot (BootFull used wanted number) bad = absurd bad
    by_boot BootFailed bad = inl tt
    by_boot NoBootMemory bad = inl tt

    at_boot : (fault : SiteFault) (boot : Boot D) → MissesBoot disk era head.site fault was.boot boot → Answers disk was fault
    at_boot fault boot misses = subst (Answers disk was) (sym misses.fault_is) (by_boot misses.own (misses.bad tells))

    -- ---- behind that, the volumes

    module _ (boot : Boot D) (opens : OpensBoot disk era head.site was.boot boot) where
      pub boot_holds : HoldsBoot head.site (lines_in boot) (number_in boot) (restore_in boot) (disk.bytes (boot_disk boot))
      boot_holds = (opens.stands tells).now

      has_boot : Allows good_boot (contents_of disk was)
      has_boot = (
        head,
        is_catalogue.heads,
        (lines_in boot, number_in boot, restore_in boot, subst (HoldsBoot head.site (lines_in boot) (number_in boot) (restore_in boot)) opens.bytes boot_holds),
      )

      is_good : (place : ℕ) (one other : Volume D) → slice_get was.store.volumes.items place ≡ Some one → OpensVolume disk era head.site (objects_of cat) place one other
          → IsGoodVolume place head.site (objects_of cat) (contents_of disk was (TheVolume place))
      is_good place one other there opened =
          good_volume disk era head.site (objects_of cat) was.store.volumes.items was.store.volumes.items place (contents_of disk was (TheVolume place)) one other tells (sym (volume_bytes disk was place one there)) opened

      module _ (now : List (Volume D)) where
        pub allowed : length was.store.volumes.items ≡ 17 → EachFrom (OpensVolume disk era head.site (objects_of cat)) was.store.volumes.items now → AllowedBy store_checks (contents_of disk was)
        allowed count each = (formatted, (has_catalogue, (has_boot, ((head, contents_in cat, is_catalogue, each_good), tt))))
          where
            each_good : (number : ℕ) → number ≤ 16 → IsGoodVolume number head.site (objects_of cat) (contents_of disk was (TheVolume number))
            each_good number le =
                let one = get-within was.store.volumes.items number (omega (arith, le, count)) in
                let other = get-within now number (omega (arith, le, count, each.count)) in
                is_good number one.0 other.0 one.1 (each.each number one.0 other.0 one.1 other.1)

        module _ (count : length was.store.volumes.items ≡ 17) (own : StoreFault)
            (stops : StopsAtVolume (OpensVolume disk era head.site (objects_of cat)) (MissesVolume disk era head.site (objects_of cat)) own was.store.volumes.items now) where
          one : OneFrom (MissesVolume disk era head.site (objects_of cat) stops.number own) stops.number was.store.volumes.items now
          one = stops.stopped

          is_first : IsRefusal own → IsFirstBadVolume head (contents_in cat) (contents_of disk was) stops.number
          is_first refusal = record {
            within = omega (arith, count, slice_get_within was.store.volumes.items stops.number one.was one.there);
            bad = subst (IsBadVolume stops.number head.site (objects_of cat)) (sym (volume_bytes disk was stops.number one.was one.there)) (one.by.bad tells refusal);
            before = λ other lt.
                let le : other < length was.store.volumes.items = omega (arith, lt, slice_get_within was.store.volumes.items stops.number one.was one.there) in
                let here = get-within was.store.volumes.items other le in
                let there = get-within now other (omega (arith, le, stops.count)) in
                is_good other here.0 there.0 here.1 (stops.before other here.0 there.0 lt here.1 there.1);
          }

          by_volumes : (fault : StoreFault) → IsOfVolume stops.number fault → (IsRefusal fault → IsFirstBadVolume head (contents_in cat) (contents_of disk was) stops.number)
              → Answers disk was (fault_of_store fault)
          by_volumes NoStoreMemory of_volume first = inl tt
          by_volumes (StoreFailed which) of_volume first = inl tt
          by_volumes NoStore of_volume first = absurd of_volume
          by_volumes (BadStore which slot) of_volume first =
              let which_is : BadRecord (disk_of_store which) slot ≡ BadRecord (TheVolume stops.number) 4294967295 =
              ap (λ (d : StoreDisk). BadRecord (disk_of_store d) slot) of_volume.0 ∙ ap (BadRecord (TheVolume stops.number)) of_volume.1 in
              inr (inr (formatted, inr (has_catalogue, inr (has_boot, inl (head, contents_in cat, is_catalogue, (stops.number, first tt, which_is))))))

          pub refused_volumes : Answers disk was (fault_of_store own)
          refused_volumes = by_volumes own one.by.own is_first

  -- ---- all of it

  module _ (is : Site D) (made : IsMadeSite was) where
    pub opens_allowed : (head : Head) → OpensParts disk era head was is → AllowedBy store_checks (contents_of disk was)
    opens_allowed head opens = allowed head opens.cat opens.catalogue is.boot opens.boot is.store.volumes.items made.store.count opens.volumes.each

    pub opens_named : (head : Head) → OpensParts disk era head was is → Named head (contents_of disk was)
    opens_named head opens = (is_catalogue head opens.cat opens.catalogue).heads

    pub opens_told : (head : Head) → OpensParts disk era head was is → TellsBoot disk head is
    opens_told head opens = boot_holds head opens.cat opens.catalogue is.boot opens.boot

    stops_boot : (fault : SiteFault) → StopsAtBoot disk era fault was is → Answers disk was fault
    stops_boot fault stops = at_boot stops.head is.store.cat stops.catalogue fault is.boot stops.boot

    stops_volumes : (fault : SiteFault) → StopsAtVolumes disk era fault was is → Answers disk was fault
    stops_volumes fault stops =
        subst (Answers disk was) (sym stops.volumes.fault_is)
        (refused_volumes stops.head stops.cat stops.catalogue is.boot stops.boot is.store.volumes.items made.store.count stops.volumes.own stops.volumes.stops)

    pub misses_answers : (fault : SiteFault) → MissesParts disk era fault was is → Answers disk was fault
    misses_answers fault misses = ⊎_elim (at_catalogue fault is) (λ (others : StopsAtBoot disk era fault was is ⊎ StopsAtVolumes disk era fault was is). ⊎_elim (stops_boot fault) (stops_volumes fault) others) misses
