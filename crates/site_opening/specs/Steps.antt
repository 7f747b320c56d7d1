-- The opening of a site, part by part.
use Rattle.std.specs.Prelude.{◌≡◌, ◌⊎◌, ℕ, ◌+◌, ◌*◌, IsTrue, Option, List}
use Rattle.backup_lines.specs.Lines.{Line}
use Rattle.backup_lines.specs.Spans.{Active}
use Rattle.site_disk.specs.Bytes.{Same}
use Rattle.site_disk.specs.Images.{Leaves, OnlyAfter}
use Rattle.site_disk.specs.Ledger.{EraView, Uses}
use Rattle.site_disk.specs.Seen.{seen}
use Rattle.site_disk.specs.declared.disk.Disk.{Ghosts}
use Rattle.site_headers.specs.Areas.{slot_count}
use Rattle.site_headers.specs.Heads.{Head, IsHead}
use Rattle.catalogue_replay.specs.Answers.{IsBadCatalogue, IsCatalogue, IsNoFailure as IsNoCatalogueFailure}
use Rattle.catalogue_replay.specs.Places.{area_of}
use Rattle.catalogue_replay.specs.declared.faults.CatFault.{CatFault}
use Rattle.catalogue_journal.specs.Answers.{FailsOnOne}
use Rattle.catalogue_journal.specs.Catalogues.{cat_of, spare_of, capacity_of, contents_in, objects_of, IsMade as IsMadeCatalogue, IsOpen as IsOpenCatalogue, Stands as CatalogueStands}
use Rattle.catalogue_journal.specs.declared.catalogue.Catalogue.{Catalogue}
use Rattle.boot_file.specs.Answers.{IsBadBoot, FailsOn as BootFailsOn, IsNoFailure as IsNoBootFailure}
use Rattle.boot_file.specs.Boots.{disk_of as boot_disk, IsMade as IsMadeBoot, IsOpen as IsOpenBoot, Stands as BootStands, TellsOf, lines_in, number_in, restore_in}
use Rattle.boot_file.specs.Places.{HoldsBoot}
use Rattle.boot_file.specs.declared.boot.Boot.{Boot}
use Rattle.boot_file.specs.declared.faults.BootFault.{BootFault}
use Rattle.object_store.specs.declared.store.Store.{Store}
use Rattle.store_opening.specs.Disks.{EachFrom, StopsAt}
use Rattle.store_opening.specs.Opening.{OpensVolume, MissesVolume}
use Rattle.store_opening.specs.declared.faults.StoreFault.{StoreFault}
use Rattle.site_core.specs.declared.faults.SiteFault.{SiteFault}
use Rattle.site_core.specs.declared.site.Site.{Site}
use Rattle.site_opening.specs.Faults.{fault_of_boot, fault_of_catalogue, fault_of_store}

module _ {D : Type 0} (disk : Ghosts D) (era : EraView) where
  -- nothing was written on a disk, and at most so many bytes were read
  pub record ReadsDisk (most : ℕ) (was is : D) : Type 0 where
    pub crash : Leaves era.number Same (disk.image was) (disk.image is)
    pub ledger : Uses era most 0 (disk.ledger was) (disk.ledger is)

  -- ---- the catalogue

  pub record ReadsCatalogue (was is : Catalogue D) : Type 0 where
    pub made : IsMadeCatalogue is
    pub capacity : capacity_of is ≡ slot_count
    pub cat : ReadsDisk (4864 + 4097 * 65536) (cat_of was) (cat_of is)
    pub spare : ReadsDisk 4096 (spare_of was) (spare_of is)

  pub record OpensCatalogue (head : Head) (was is : Catalogue D) : Type 0 where
    pub reads : ReadsCatalogue was is
    pub opened : IsOpenCatalogue is
    pub is_head : IsHead head
    pub front : IsTrue disk.is_modelled → IsCatalogue slot_count head (contents_in is) (disk.bytes (cat_of was)) (disk.bytes (spare_of was))
    pub stands : IsTrue disk.is_modelled → CatalogueStands (seen disk (cat_of is)) is
    pub durable : IsTrue disk.is_modelled → OnlyAfter era.number (disk.bytes (cat_of is)) (disk.image (cat_of is))
    pub spare_durable : IsTrue disk.is_modelled → OnlyAfter era.number (disk.bytes (spare_of is)) (disk.image (spare_of is))
    pub bytes : disk.bytes (cat_of is) ≡ disk.bytes (cat_of was)
    pub spare_bytes : disk.bytes (spare_of is) ≡ disk.bytes (spare_of was)

  pub record MissesCatalogue (fault : SiteFault) (was is : Catalogue D) : Type 0 where
    pub reads : ReadsCatalogue was is
    pub own : CatFault
    pub fault_is : fault ≡ fault_of_catalogue own
    pub bad : IsTrue disk.is_modelled → IsBadCatalogue (area_of slot_count) (disk.bytes (cat_of was)) (disk.bytes (spare_of was)) own
    pub failed : FailsOnOne (disk.ledger (cat_of was)).faults (disk.ledger (cat_of is)).faults (disk.ledger (spare_of was)).faults (disk.ledger (spare_of is)).faults own
    pub bytes : IsNoCatalogueFailure own → disk.bytes (cat_of is) ≡ disk.bytes (cat_of was)
    pub spare_bytes : IsNoCatalogueFailure own → disk.bytes (spare_of is) ≡ disk.bytes (spare_of was)

  -- ---- the boot file of a site

  pub record ReadsBoot (was is : Boot D) : Type 0 where
    pub made : IsMadeBoot is
    pub reads : ReadsDisk 8459008 (boot_disk was) (boot_disk is)

  pub record OpensBoot (site : ℕ) (was is : Boot D) : Type 0 where
    pub reads : ReadsBoot was is
    pub opened : IsOpenBoot is
    pub stands : IsTrue disk.is_modelled → BootStands site (lines_in is) (number_in is) (restore_in is) (seen disk (boot_disk is)) is
    pub held : IsTrue disk.is_modelled → (lines : List Line) (number : ℕ) (active : Option Active) → HoldsBoot site lines number active (disk.bytes (boot_disk was)) → TellsOf lines number active is
    pub bytes : disk.bytes (boot_disk is) ≡ disk.bytes (boot_disk was)

  pub record MissesBoot (site : ℕ) (fault : SiteFault) (was is : Boot D) : Type 0 where
    pub reads : ReadsBoot was is
    pub own : BootFault
    pub fault_is : fault ≡ fault_of_boot own
    pub bad : IsTrue disk.is_modelled → IsBadBoot site (disk.bytes (boot_disk was)) own
    pub failed : BootFailsOn (disk.ledger (boot_disk was)).faults (disk.ledger (boot_disk is)).faults own
    pub bytes : IsNoBootFailure own → disk.bytes (boot_disk is) ≡ disk.bytes (boot_disk was)

  -- ---- its volumes, behind an open catalogue

  pub record OpensVolumes (site : ℕ) (was is : Store D) : Type 0 where
    pub cat : is.cat ≡ was.cat
    pub each : EachFrom (OpensVolume disk era site (objects_of was.cat)) was.volumes.items is.volumes.items

  pub record MissesVolumes (site : ℕ) (fault : SiteFault) (was is : Store D) : Type 0 where
    pub cat : is.cat ≡ was.cat
    pub own : StoreFault
    pub fault_is : fault ≡ fault_of_store own
    pub stops : StopsAt (OpensVolume disk era site (objects_of was.cat)) (MissesVolume disk era site (objects_of was.cat)) own was.volumes.items is.volumes.items

  -- ---- all of these, in this order

  pub record OpensParts (head : Head) (was is : Site D) : Type 0 where
    pub value : is ≡ record was { store = is.store; boot = is.boot }
    pub cat : Catalogue D
    pub catalogue : OpensCatalogue head was.store.cat cat
    pub boot : OpensBoot head.site was.boot is.boot
    pub volumes : OpensVolumes head.site (record was.store { cat = cat }) is.store

  pub record StopsAtCatalogue (fault : SiteFault) (was is : Site D) : Type 0 where
    pub value : is ≡ record was { store = record was.store { cat = is.store.cat } }
    pub catalogue : MissesCatalogue fault was.store.cat is.store.cat

  pub record StopsAtBoot (fault : SiteFault) (was is : Site D) : Type 0 where
    pub value : is ≡ record was { store = record was.store { cat = is.store.cat }; boot = is.boot }
    pub head : Head
    pub catalogue : OpensCatalogue head was.store.cat is.store.cat
    pub boot : MissesBoot head.site fault was.boot is.boot

  pub record StopsAtVolumes (fault : SiteFault) (was is : Site D) : Type 0 where
    pub value : is ≡ record was { store = is.store; boot = is.boot }
    pub head : Head
    pub cat : Catalogue D
    pub catalogue : OpensCatalogue head was.store.cat cat
    pub boot : OpensBoot head.site was.boot is.boot
    pub volumes : MissesVolumes head.site fault (record was.store { cat = cat }) is.store

  abbrev pub MissesParts : SiteFault → Site D → Site D → Type 0
  MissesParts fault was is = StopsAtCatalogue fault was is ⊎ (StopsAtBoot fault was is ⊎ StopsAtVolumes fault was is)
