-- A site of which all is written but the catalogue's header.
use Rattle.std.specs.Prelude.{◌≡◌, ℕ, ◌<◌, List, IfSome}
use Rattle.gated_slots.specs.Header.{StandsClosed}
use Rattle.gated_slots.specs.Slots.{used}
use Rattle.site_disk.specs.Images.{OnlyAfter}
use Rattle.site_disk.specs.Ledger.{EraView}
use Rattle.site_disk.specs.Seen.{seen}
use Rattle.site_disk.specs.declared.disk.Disk.{Ghosts}
use Rattle.site_headers.specs.Heads.{Head}
use Rattle.catalogue_replay.specs.Contents.{empty}
use Rattle.catalogue_replay.specs.Places.{NamesArea, Journals}
use Rattle.catalogue_journal.specs.Catalogues.{cat_of}
use Rattle.site_model.specs.declared.disk_name.DiskName.{DiskName}
use Rattle.site_model.specs.declared.disk_name.DiskName.TheVariants.{Cat}
use Rattle.site_worlds.specs.Worlds.{new_site}
use Rattle.site_layouts.specs.Stores.{Held, catalogue_area}
use Rattle.site_layouts.specs.Layouts.{ShowsSite}
use Rattle.site_core.specs.declared.site.Site.{Site}
use Rattle.site_core.specs.Disks.{disk_named}

-- the area in use is the one on the catalogue's own disk
abbrev pub own : Held
own = record { area = 0 }

-- a disk other than the catalogue's shows its part of a new site
abbrev pub ShowsNew : Head → DiskName → List ℕ → Type 0
ShowsNew head Cat bytes = Unit {0}
ShowsNew head name bytes = ShowsSite name (new_site head) own bytes

module _ {D : Type 0} (disk : Ghosts D) (era : EraView) (head : Head) where
  -- now, and in each image of later eras
  pub record IsReady (name : DiskName) (it : D) : Type 0 where
    pub now : ShowsNew head name (disk.bytes it)
    pub later : (f : ℕ) (c : List ℕ) → era.number < f → disk.image it f c → ShowsNew head name c

  pub record IsPrepared (site : Site D) : Type 0 where
    pub closed : StandsClosed (seen disk (cat_of site.store.cat))
    pub mark : NamesArea (disk.bytes (cat_of site.store.cat))
    pub journal : Journals catalogue_area empty (disk.bytes (cat_of site.store.cat))
    pub used : used catalogue_area (disk.bytes (cat_of site.store.cat)) ≡ 0
    pub durable : OnlyAfter era.number (disk.bytes (cat_of site.store.cat)) (disk.image (cat_of site.store.cat))
    pub each : (name : DiskName) → IfSome (disk_named site name) (IsReady name)
