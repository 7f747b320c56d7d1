-- What the formatting of a store's disks leaves.
use Rattle.std.specs.Prelude.{◌≡◌, ℕ, IsTrue}
use Rattle.gated_slots.specs.Header.{StandsClosed}
use Rattle.gated_slots.specs.Slots.{used}
use Rattle.site_disk.specs.Causes.{Rose}
use Rattle.site_disk.specs.Images.{Leaves, OnlyAfter}
use Rattle.site_disk.specs.Ledger.{EraView, Uses}
use Rattle.site_disk.specs.Seen.{seen}
use Rattle.site_disk.specs.declared.disk.Disk.{Ghosts}
use Rattle.site_headers.specs.Areas.{slot_count}
use Rattle.site_headers.specs.Heads.{Head}
use Rattle.site_headers.specs.Headers.{HasHeader, spare_tail, volume_tail}
use Rattle.catalogue_replay.specs.Contents.{empty}
use Rattle.catalogue_replay.specs.Places.{area_of, NamesArea, Journals}
use Rattle.catalogue_journal.specs.Catalogues.{cat_of, spare_of}
use Rattle.object_volume.specs.Headers.{HasVolume, MayFormat}
use Rattle.object_volume.specs.Volumes.{disk_of, with_disk}
use Rattle.object_volume.specs.declared.volume.Volume.{Volume}
use Rattle.object_store.specs.Stores.{OfEach}
use Rattle.object_store.specs.declared.store.Store.{Store}
use Rattle.store_opening.specs.declared.faults.StoreDisk.TheVariants.{Volume as VolumeOf}
use Rattle.store_opening.specs.declared.faults.StoreFault.{StoreFault}
use Rattle.store_opening.specs.declared.faults.StoreFault.TheVariants.{DiskFault}

module _ {D : Type 0} (disk : Ghosts D) where
  -- The disks are those of an empty store, but for the header of the catalogue, which is closed in every image of later eras.
  pub record IsFormattedStore (head : Head) (store : Store D) : Type 0 where
    pub closed : StandsClosed (seen disk (cat_of store.cat))
    pub mark : NamesArea (disk.bytes (cat_of store.cat))
    pub journal : Journals (area_of slot_count) empty (disk.bytes (cat_of store.cat))
    pub used : used (area_of slot_count) (disk.bytes (cat_of store.cat)) ≡ 0
    pub spare : HasHeader (spare_tail head.site) (disk.bytes (spare_of store.cat))
    pub volumes : OfEach (λ place volume. HasVolume place head.site head.blocks (disk.bytes (disk_of volume))) store.volumes.items

  -- what a stop within the formatting leaves of a volume's disk
  abbrev pub MayFormatVolume : EraView → ℕ → ℕ → ℕ → D → D → Type 0
  MayFormatVolume era number site blocks was is =
      IsTrue disk.is_modelled → Leaves era.number (MayFormat (volume_tail number site blocks)) (disk.image was) (disk.image is)

  -- a volume was formatted
  pub record FormatsVolume (era : EraView) (site blocks number : ℕ) (was is : Volume D) : Type 0 where
    pub value : is ≡ with_disk was (disk_of is)
    pub header : IsTrue disk.is_modelled → HasVolume number site blocks (disk.bytes (disk_of is))
    pub durable : IsTrue disk.is_modelled → OnlyAfter era.number (disk.bytes (disk_of is)) (disk.image (disk_of is))
    pub crash : MayFormatVolume era number site blocks (disk_of was) (disk_of is)
    pub ledger : Uses era 1 4098 (disk.ledger (disk_of was)) (disk.ledger (disk_of is))

  -- its disk failed
  pub record FailsToFormat (era : EraView) (site blocks number : ℕ) (fault : StoreFault) (was is : Volume D) : Type 0 where
    pub own : fault ≡ DiskFault (VolumeOf number)
    pub value : is ≡ with_disk was (disk_of is)
    pub rose : Rose (disk.ledger (disk_of was)).faults (disk.ledger (disk_of is)).faults
    pub crash : MayFormatVolume era number site blocks (disk_of was) (disk_of is)
    pub ledger : Uses era 1 4098 (disk.ledger (disk_of was)) (disk.ledger (disk_of is))
