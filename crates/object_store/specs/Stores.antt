-- What contracts see of a store.
use Rattle.std.specs.Prelude.{◌≡◌, ℕ, List, length, slice_get, Some}
use Rattle.site_disk.specs.Ledger.{EraView, Ledger, MayUse}
use Rattle.catalogue_journal.specs.Catalogues.{IsOpen as IsOpenCatalogue}
use Rattle.object_volume.specs.Volumes.{disk_of, number_of, IsOpen}
use Rattle.object_volume.specs.declared.volume.Volume.{Volume}
use Rattle.object_store.specs.declared.store.Store.{Store}

module _ {D : Type 0} where
  -- this holds of each of these volumes, by its place among them
  abbrev pub OfEach : (ℕ → Volume D → Type 0) → List (Volume D) → Type 0
  OfEach P volumes = (place : ℕ) (volume : Volume D) → slice_get volumes place ≡ Some volume → P place volume

  -- it is open, and its number is its place
  pub record IsOpenAt (place : ℕ) (volume : Volume D) : Type 0 where
    pub number : number_of volume ≡ place
    pub opened : IsOpen volume

  -- the catalogue is open, and so is each of the 17 volumes
  pub record IsOpenStore (store : Store D) : Type 0 where
    pub cat : IsOpenCatalogue store.cat
    pub count : length store.volumes.items ≡ 17
    pub each : OfEach IsOpenAt store.volumes.items

  -- the disk of each volume may be used in this era
  abbrev pub MayUseEach : (D → Ledger) → EraView → List (Volume D) → Type 0
  MayUseEach ledger era volumes = OfEach (λ place volume. MayUse era (ledger (disk_of volume))) volumes
