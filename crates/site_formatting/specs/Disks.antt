-- What a call does to each disk of a site.
use Rattle.std.specs.Prelude.{ℕ, ◌+◌, ◌*◌, ◌<◌, List, IsTrue}
use Rattle.site_disk.specs.Ledger.{EraView, Spends, Uses}
use Rattle.site_disk.specs.declared.disk.Disk.{Ghosts}
use Rattle.site_headers.specs.Heads.{Head}
use Rattle.catalogue_journal.specs.Catalogues.{spare_of, with_disks}
use Rattle.site_model.specs.declared.disk_name.DiskName.{DiskName}
use Rattle.site_model.specs.declared.disk_name.DiskName.TheVariants.{Cat, Spare, Boot, Log, Volume, Chunk}
use Rattle.site_worlds.specs.Lanes.{pages_of_space}
use Rattle.site_core.specs.declared.site.Site.{Site}
use Rattle.site_core.specs.Disks.{disk_named}
use Rattle.site_formatting.specs.Steps.{Both}

-- how many bytes of a disk the formatting reads, and writes, in the first era, and in all
abbrev pub reads_of : DiskName → ℕ
reads_of (Chunk n) = 2
reads_of name = 1

abbrev pub writes_of : Head → DiskName → ℕ
writes_of head Cat = 78849
writes_of head Spare = 77826
writes_of head Boot = 82946
writes_of head Log = 248834
writes_of head (Volume n) = 4098
writes_of head (Chunk n) = 87043 + 4096 * pages_of_space head.spaces n

abbrev pub all_writes_of : Head → DiskName → ℕ
all_writes_of head Cat = 82946
all_writes_of head name = writes_of head name

module _ {D : Type 0} where
  -- each disk has become another in this way
  abbrev pub EachDisk : (DiskName → D → D → Type 0) → Site D → Site D → Type 0
  EachDisk P old new = (name : DiskName) → Both (P name) (disk_named old name) (disk_named new name)

  -- nothing but the disk of the catalogue is another
  abbrev pub with_cat : Site D → D → Site D
  with_cat site cat = record site { store = record site.store { cat = with_disks site.store.cat cat (spare_of site.store.cat) } }

  module _ (disk : Ghosts D) where
    -- no crash in an earlier era leaves more of it
    abbrev pub KeepsEarlier : ℕ → D → D → Type 0
    KeepsEarlier era was is = (f : ℕ) (c : List ℕ) → f < era → disk.image is f c → disk.image was f c

    -- a disk was used in one era
    pub record UsesIn (era : EraView) (reads writes : ℕ) (was is : D) : Type 0 where
      pub earlier : IsTrue disk.is_modelled → KeepsEarlier era.number was is
      pub ledger : Uses era reads writes (disk.ledger was) (disk.ledger is)

    -- by the first era of the formatting
    abbrev pub Touches : EraView → Head → DiskName → D → D → Type 0
    Touches era head name was is = UsesIn era (reads_of name) (writes_of head name) was is

    -- and by all of it
    abbrev pub SpendsOn : EraView → EraView → Head → DiskName → D → D → Type 0
    SpendsOn from to head name was is = Spends from to (reads_of name) (all_writes_of head name) (disk.ledger was) (disk.ledger is)
