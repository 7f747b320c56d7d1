-- Where the disks show a fit site, what was opened stands for it.
use Rattle.std.proofs.Common.{◌≡◌, ℕ, ◌+◌, ◌*◌, ◌<◌, ◌≤◌, IsTrue, List, length, Option, None, Some, refl, sym, subst, ◌∙◌, arith}
use Rattle.std.specs.Prelude.{slice_get}
use Rattle.std.specs.Option.{option_map}
use Rattle.std.proofs.lemmas.Option.{slice_get_within}
use Rattle.backup_lines.specs.Lines.{Line}
use Rattle.backup_lines.specs.Spans.{Active}
use Rattle.site_disk.specs.Ledger.{EraView}
use Rattle.site_disk.specs.Seen.{seen}
use Rattle.site_disk.specs.declared.disk.Disk.{Ghosts}
use Rattle.site_headers.specs.Areas.{slot_count}
use Rattle.site_headers.specs.Heads.{Head}
use Rattle.catalogue_replay.specs.Answers.{IsCatalogue}
use Rattle.catalogue_journal.specs.Catalogues.{contents_in, objects_of, IsOpen as IsOpenCatalogue}
use Rattle.catalogue_journal.specs.declared.catalogue.Catalogue.{Catalogue}
use Rattle.boot_file.specs.Boots.{disk_of as boot_disk, lines_in, number_in, restore_in, IsOpen as IsOpenBoot, Stands as BootStands, TellsOf}
use Rattle.boot_file.specs.Places.{HoldsBoot}
use Rattle.object_volume.specs.Volumes.{disk_of as volume_disk}
use Rattle.object_volume.specs.declared.volume.Volume.{Volume}
use Rattle.object_store.specs.Stores.{IsOpenStore}
use Rattle.object_store.proofs.ReturnLemmas.{get-within}
use Rattle.store_opening.specs.Disks.{EachFrom, files_of}
use Rattle.store_opening.specs.Opening.{IsGoodVolume, OpensVolume, ShowsStore}
use Rattle.store_opening.specs.Standing.{Agrees as StoreAgrees, FreeInOrder, IsSettled}
use Rattle.store_opening.proofs.AgreeLemmas.{HasOpened, agrees, open_settled}
use Rattle.store_opening.proofs.LoopLemmas.{get-map}
use Rattle.store_opening.proofs.StoreLemmas.{one_head}
use Rattle.opening_laws.proofs.ShownLemmas.{shown}
use Rattle.site_model.specs.declared.disk_name.DiskName.{DiskName}
use Rattle.site_model.specs.declared.disk_name.DiskName.TheVariants.{Cat, Spare, Boot as TheBoot, Log, Volume as TheVolume, Chunk}
use Rattle.site_worlds.specs.Fitness.{IsFitSite}
use Rattle.site_layouts.specs.Disks.{IsOpened}
use Rattle.site_layouts.specs.Stages.{HeldSite, ShowsHeld, StandsFor}
use Rattle.site_layouts.specs.Stores.{HoldsVolume, contents_of as contents_kept}
use Rattle.site_openings.specs.Openings.{AllowedBy}
use Rattle.site_core.specs.Agreements.{BootAgrees}
use Rattle.site_core.specs.declared.site.Site.{Site}
use Rattle.site_core.specs.Disks.{contents_of, image_or, images_of, bytes_or}
use Rattle.site_core.specs.Layers.{layers}
use Rattle.site_core.specs.Made.{IsMadeSite}
use Rattle.site_core.specs.Quiet.{ReadsSame}
use Rattle.site_opening.specs.Opens.{store_checks}
use Rattle.site_opening.specs.Steps.{OpensCatalogue, OpensParts}
use Rattle.site_opening.proofs.RefusalLemmas.{volume_bytes}

-- the disks of store and boot file show a site
abbrev pub ShowsParts : {D : Type 0} → Ghosts D → Site D → HeldSite → Type 0
ShowsParts disk was at = (name : DiskName) → IsOpened 1 name → ShowsHeld name at (contents_of disk was name)

module _ {D : Type 0} (disk : Ghosts D) (was : Site D) (tells : IsTrue disk.is_modelled) (made : IsMadeSite was) (at : HeldSite) (fits : IsFitSite at.site) (shows : ShowsParts disk was at) where
  shown_volume : (place : ℕ) (file : List ℕ) → slice_get (files_of disk.bytes was.store.volumes.items) place ≡ Some file → HoldsVolume at.site.head at.site.store place file
  shown_volume place file there =
      let one = get-map (λ (v : Volume D). disk.bytes (volume_disk v)) was.store.volumes.items place file there in
      let lt : place < length was.store.volumes.items = slice_get_within was.store.volumes.items place one.0 one.1 in
      subst (HoldsVolume at.site.head at.site.store place) (volume_bytes disk was place one.0 one.1 ∙ one.2)
      (shows (TheVolume place) (omega arith) (omega (arith, lt, made.store.count)))

  shows_store : ShowsStore at.site.head (contents_kept at.site.store) at.site.store.used (contents_of disk was Cat) (contents_of disk was Spare) (files_of disk.bytes was.store.volumes.items)
  shows_store = shown at.site.head at.site.store at.held (contents_of disk was Cat) (contents_of disk was Spare) (files_of disk.bytes was.store.volumes.items) fits.store.apart
      (shows Cat (omega arith)) (shows Spare (omega arith)) shown_volume

  shown_good : (number : ℕ) → number ≤ 16 → IsGoodVolume number at.site.head.site (contents_kept at.site.store).objects (contents_of disk was (TheVolume number))
  shown_good number le = record {
    blocks = at.site.head.blocks;
    header = (shows (TheVolume number) (omega arith) le).header;
    sound = shows_store.apart number;
  }

  -- so its checks let them pass
  pub shown_allowed : AllowedBy store_checks (contents_of disk was)
  shown_allowed = (
    (at.site.head, shows_store.catalogue.heads),
    (
      (at.site.head, contents_kept at.site.store, shows_store.catalogue),
      (
        (at.site.head, shows_store.catalogue.heads, (at.site.lines, at.site.number, at.site.active, shows TheBoot (omega arith))),
        ((at.site.head, contents_kept at.site.store, shows_store.catalogue, shown_good), tt),
      ),
    ),
  )

  -- ---- and what is opened stands for it

  module _ (era : EraView) (is : Site D) (head : Head) (opens : OpensParts disk era head was is) where
    is_catalogue : IsCatalogue slot_count head (contents_in opens.cat) (contents_of disk was Cat) (contents_of disk was Spare)
    is_catalogue = opens.catalogue.front tells

    pub head_is : head ≡ at.site.head
    head_is = one_head (contents_of disk was Cat) (contents_of disk was Spare) head at.site.head (contents_in opens.cat) (contents_kept at.site.store) is_catalogue shows_store.catalogue

    cat_is : is.store.cat ≡ opens.cat
    cat_is = opens.volumes.cat

    front : OpensCatalogue disk era head was.store.cat is.store.cat
    front = subst (OpensCatalogue disk era head was.store.cat) (sym cat_is) opens.catalogue

    volumes_are : EachFrom (OpensVolume disk era head.site (objects_of is.store.cat)) was.store.volumes.items is.store.volumes.items
    volumes_are = subst (λ (cat : Catalogue D). EachFrom (OpensVolume disk era head.site (objects_of cat)) was.store.volumes.items is.store.volumes.items) (sym cat_is) opens.volumes.each

    has_opened : HasOpened disk era head was.store is.store
    has_opened = record {
      made = made.store;
      opened = front.opened;
      capacity = front.reads.capacity;
      heads = is_catalogue.heads;
      mark = is_catalogue.mark;
      spare = is_catalogue.spare;
      stands = front.stands tells;
      bytes = front.bytes;
      cat_reads = 4864 + 4097 * 65536;
      ledger = front.reads.cat.ledger;
      spare_ledger = front.reads.spare.ledger;
      volumes = volumes_are;
    }

    store_agrees : StoreAgrees disk (era.number + 1) is.store (contents_kept at.site.store) at.site.store.used at.site.head
    store_agrees = agrees disk era head was.store is.store tells has_opened at.site.head (contents_kept at.site.store) at.site.store.used shows_store (era.number + 1) (omega arith)

    told : TellsOf at.site.lines at.site.number at.site.active is.boot
    told = opens.boot.held tells at.site.lines at.site.number at.site.active
        (subst (λ (h : Head). HoldsBoot h.site at.site.lines at.site.number at.site.active (contents_of disk was TheBoot)) (sym head_is) (shows TheBoot (omega arith)))

    boot_stands : BootStands at.site.head.site at.site.lines at.site.number at.site.active (seen disk (boot_disk is.boot)) is.boot
    boot_stands =
        let first : BootStands head.site (lines_in is.boot) (number_in is.boot) (restore_in is.boot) (seen disk (boot_disk is.boot)) is.boot = opens.boot.stands tells in
        let second : BootStands at.site.head.site (lines_in is.boot) (number_in is.boot) (restore_in is.boot) (seen disk (boot_disk is.boot)) is.boot =
        subst (λ (h : Head). BootStands h.site (lines_in is.boot) (number_in is.boot) (restore_in is.boot) (seen disk (boot_disk is.boot)) is.boot) head_is first in
        let third : BootStands at.site.head.site at.site.lines (number_in is.boot) (restore_in is.boot) (seen disk (boot_disk is.boot)) is.boot =
        subst (λ (lines : List Line). BootStands at.site.head.site lines (number_in is.boot) (restore_in is.boot) (seen disk (boot_disk is.boot)) is.boot) told.lines_are second in
        let fourth : BootStands at.site.head.site at.site.lines at.site.number (restore_in is.boot) (seen disk (boot_disk is.boot)) is.boot =
        subst (λ (number : ℕ). BootStands at.site.head.site at.site.lines number (restore_in is.boot) (seen disk (boot_disk is.boot)) is.boot) told.number_is third in
        subst (λ (active : Option Active). BootStands at.site.head.site at.site.lines at.site.number active (seen disk (boot_disk is.boot)) is.boot) told.active_is fourth

    boot_agrees : BootAgrees disk (era.number + 1) at.site.head.site at.site.lines at.site.number at.site.active is.boot
    boot_agrees = record { last = omega (arith, opens.boot.reads.reads.ledger.no_later); stands = boot_stands }

    -- a crash in a later era leaves of a volume what a read gives
    of_volume : (f place : ℕ) (bytes : List ℕ) → era.number < f → images_of disk is f (TheVolume place) bytes → bytes ≡ contents_of disk is (TheVolume place)
    of_volume f place bytes later = by (slice_get is.store.volumes.items place) refl
      where
        by : (o : Option (Volume D)) → slice_get is.store.volumes.items place ≡ o → image_or disk (option_map volume_disk o) f bytes → bytes ≡ bytes_or disk (option_map volume_disk o)
        by None there image = image
        by (Some volume) there image =
            let lt : place < length is.store.volumes.items = slice_get_within is.store.volumes.items place volume there in
            let one = get-within was.store.volumes.items place (omega (arith, lt, volumes_are.count)) in
            (volumes_are.each place one.0 volume one.1 there).durable tells f bytes later image

    only_contents : (f : ℕ) (name : DiskName) (bytes : List ℕ) → era.number < f → IsOpened 1 name → images_of disk is f name bytes → bytes ≡ contents_of disk is name
    only_contents f Cat bytes later opened image = front.durable tells f bytes later image
    only_contents f Spare bytes later opened image = front.spare_durable tells f bytes later image
    only_contents f TheBoot bytes later opened image = boot_stands.synced f bytes (omega (arith, later, opens.boot.reads.reads.ledger.no_later)) image
    only_contents f (TheVolume place) bytes later opened image = of_volume f place bytes later image
    only_contents f Log bytes later opened image = absurd (omega (arith, opened))
    only_contents f (Chunk place) bytes later opened image = absurd (omega (arith, opened))

    pub opens_stands : ReadsSame disk was is → StandsFor (layers disk) 1 (era.number + 1) is at
    opens_stands same = record {
      clean = λ f name bytes later opened image.
          subst (ShowsHeld name at) (sym (only_contents f name bytes (omega (arith, later)) opened image ∙ same name)) (shows name opened);
      agree = record {
        store = store_agrees;
        boot = λ opened. boot_agrees;
        log = λ opened. absurd (omega (arith, opened));
        lanes = λ opened. absurd (omega (arith, opened));
      };
      fits = fits;
    }

-- what is open behind Ok
module _ {D : Type 0} (disk : Ghosts D) (era : EraView) (was is : Site D) (made : IsMadeSite was) (head : Head) (opens : OpensParts disk era head was is) where
  pub opens_settled : IsSettled is.store × FreeInOrder is.store
  opens_settled =
      open_settled was.store is.store made.store (subst IsOpenCatalogue (sym opens.volumes.cat) opens.catalogue.opened)
      (subst (λ (cat : Catalogue D). EachFrom (OpensVolume disk era head.site (objects_of cat)) was.store.volumes.items is.store.volumes.items) (sym opens.volumes.cat) opens.volumes.each)

  pub opens_open : IsOpenStore is.store × IsOpenBoot is.boot
  opens_open = (opens_settled.0.opened, opens.boot.opened)
