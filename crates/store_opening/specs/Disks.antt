-- Calls that go over all disks of a store, one after another.
use Rattle.std.specs.Prelude.{◌≡◌, ℕ, ◌<◌, ◌≤◌, List, length, map, slice_get, Some, IsTrue}
use Rattle.site_disk.specs.Bytes.{Same}
use Rattle.site_disk.specs.Causes.{Rose}
use Rattle.site_disk.specs.Images.{Leaves, OnlyAfter}
use Rattle.site_disk.specs.Ledger.{EraView, Ledger, MayUse, Uses}
use Rattle.site_disk.specs.declared.disk.Disk.{Ghosts}
use Rattle.site_headers.specs.Areas.{slot_count}
use Rattle.catalogue_journal.specs.Catalogues.{cat_of, spare_of, capacity_of, IsMade}
use Rattle.object_volume.specs.Volumes.{disk_of, number_of}
use Rattle.object_volume.specs.declared.volume.Volume.{Volume}
use Rattle.object_store.specs.Stores.{OfEach, MayUseEach}
use Rattle.object_store.specs.declared.store.Store.{Store}
use Rattle.store_opening.specs.declared.faults.StoreDisk.TheVariants.{Cat, Spare, Volume as VolumeOf}
use Rattle.store_opening.specs.declared.faults.StoreFault.{StoreFault}
use Rattle.store_opening.specs.declared.faults.StoreFault.TheVariants.{OutOfMemory, DiskFault, NotFormatted, BadRecord}

module _ {D : Type 0} where
  -- what each of these volumes has become, by its place
  pub record EachFrom (P : ℕ → Volume D → Volume D → Type 0) (old new : List (Volume D)) : Type 0 where
    pub count : length new ≡ length old
    pub each : (place : ℕ) (was is : Volume D) → slice_get old place ≡ Some was → slice_get new place ≡ Some is → P place was is

  -- that of the first ones, while the others are as they were
  pub record FirstFrom (P : ℕ → Volume D → Volume D → Type 0) (n : ℕ) (old new : List (Volume D)) : Type 0 where
    pub count : length new ≡ length old
    pub done : (place : ℕ) (was is : Volume D) → place < n → slice_get old place ≡ Some was → slice_get new place ≡ Some is → P place was is
    pub rest : (place : ℕ) → n ≤ place → slice_get new place ≡ slice_get old place

  -- this holds of the volume at a place, if there is one
  abbrev pub At : ℕ → (Volume D → Type 0) → List (Volume D) → Type 0
  At place P volumes = (volume : Volume D) → slice_get volumes place ≡ Some volume → P volume

  -- what each volume's disk holds
  abbrev pub files_of : (D → List ℕ) → List (Volume D) → List (List ℕ)
  files_of bytes volumes = map (λ volume. bytes (disk_of volume)) volumes

  -- The store has the places of the layout, and 17 volumes, the number of each its place. It may be open or not.
  pub record IsMadeStore (store : Store D) : Type 0 where
    pub cat : IsMade store.cat
    pub capacity : capacity_of store.cat ≡ slot_count
    pub count : length store.volumes.items ≡ 17
    pub numbers : OfEach (λ place volume. number_of volume ≡ place) store.volumes.items

  -- each of its disks may be used in this era
  pub record MayUseStore (ledger : D → Ledger) (era : EraView) (store : Store D) : Type 0 where
    pub cat : MayUse era (ledger (cat_of store.cat))
    pub spare : MayUse era (ledger (spare_of store.cat))
    pub volumes : MayUseEach ledger era store.volumes.items

  -- what each disk of the store has become
  pub record EachDisk (P : D → D → Type 0) (old new : Store D) : Type 0 where
    pub cat : P (cat_of old.cat) (cat_of new.cat)
    pub spare : P (spare_of old.cat) (spare_of new.cat)
    pub volumes : EachFrom (λ place was is. P (disk_of was) (disk_of is)) old.volumes.items new.volumes.items

  -- what a read gives stays
  abbrev pub KeepsBytes : (D → List ℕ) → D → D → Type 0
  KeepsBytes bytes was is = bytes is ≡ bytes was

  -- nothing is written
  abbrev pub WritesNothing : (D → ℕ → List ℕ → Type 0) → EraView → D → D → Type 0
  WritesNothing image era was is = Leaves era.number Same (image was) (image is)

  -- a sync succeeded, and a crash in a later era leaves what a read gives
  pub record IsSynced (disk : Ghosts D) (era : EraView) (was is : D) : Type 0 where
    pub bytes : disk.bytes is ≡ disk.bytes was
    pub synced : (disk.ledger is).synced ≡ era.number
    pub durable : IsTrue disk.is_modelled → OnlyAfter era.number (disk.bytes is) (disk.image is)

  -- a crash in a later era leaves what a read gives, of each disk
  pub record IsDurable (disk : Ghosts D) (era : EraView) (store : Store D) : Type 0 where
    pub cat : OnlyAfter era.number (disk.bytes (cat_of store.cat)) (disk.image (cat_of store.cat))
    pub spare : OnlyAfter era.number (disk.bytes (spare_of store.cat)) (disk.image (spare_of store.cat))
    pub volumes : OfEach (λ place volume. OnlyAfter era.number (disk.bytes (disk_of volume)) (disk.image (disk_of volume))) store.volumes.items

  -- what the volume at a place has become
  pub record OneFrom (P : Volume D → Volume D → Type 0) (place : ℕ) (old new : List (Volume D)) : Type 0 where
    pub was : Volume D
    pub is : Volume D
    pub there : slice_get old place ≡ Some was
    pub behind : slice_get new place ≡ Some is
    pub by : P was is

  -- A call over all volumes stopped at one: those before it were gone over, and those behind it are as they were.
  pub record StopsAt (P : ℕ → Volume D → Volume D → Type 0) (Q : ℕ → StoreFault → Volume D → Volume D → Type 0) (fault : StoreFault) (old new : List (Volume D)) : Type 0 where
    pub number : ℕ
    pub count : length new ≡ length old
    pub before : (place : ℕ) (was is : Volume D) → place < number → slice_get old place ≡ Some was → slice_get new place ≡ Some is → P place was is
    pub stopped : OneFrom (Q number fault) number old new
    pub later : (place : ℕ) → number < place → slice_get new place ≡ slice_get old place

  -- the count of the disk that is named as failed rose
  abbrev pub HasRisen : (D → Ledger) → Store D → Store D → StoreFault → Type 0
  HasRisen ledger old new OutOfMemory = Unit {0}
  HasRisen ledger old new (DiskFault Cat) = Rose (ledger (cat_of old.cat)).faults (ledger (cat_of new.cat)).faults
  HasRisen ledger old new (DiskFault Spare) = Rose (ledger (spare_of old.cat)).faults (ledger (spare_of new.cat)).faults
  HasRisen ledger old new (DiskFault (VolumeOf number)) =
      OneFrom (λ was is. Rose (ledger (disk_of was)).faults (ledger (disk_of is)).faults) number old.volumes.items new.volumes.items
  HasRisen ledger old new NotFormatted = Unit {0}
  HasRisen ledger old new (BadRecord disk slot) = Unit {0}

  -- what the disks of a store are used: at most so many bytes are read and written, of the catalogue's, of the spare one and of each volume's
  pub record UsesStore (ledger : D → Ledger) (era : EraView) (reads writes spare_reads spare_writes each_reads each_writes : ℕ) (old new : Store D) : Type 0 where
    pub cat : Uses era reads writes (ledger (cat_of old.cat)) (ledger (cat_of new.cat))
    pub spare : Uses era spare_reads spare_writes (ledger (spare_of old.cat)) (ledger (spare_of new.cat))
    pub volumes : EachFrom (λ place was is. Uses era each_reads each_writes (ledger (disk_of was)) (ledger (disk_of is))) old.volumes.items new.volumes.items
