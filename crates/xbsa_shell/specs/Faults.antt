-- How often the disks of a store have failed.
use Rattle.std.specs.Prelude.{ℕ, ◌≤◌, slice_get, Option, None, Some}
use Rattle.std.specs.Option.{option_map}
use Rattle.site_disk.specs.Causes.{Rose}
use Rattle.site_disk.specs.declared.disk.Disk.{Ghosts}
use Rattle.catalogue_journal.specs.Catalogues.{cat_of, spare_of}
use Rattle.object_volume.specs.Volumes.{disk_of}
use Rattle.object_volume.specs.declared.volume.Volume.{Volume as VolumeOf}
use Rattle.object_store.specs.declared.store.Store.{Store}
use Rattle.site_model.specs.declared.disk_name.DiskName.{DiskName}
use Rattle.site_model.specs.declared.disk_name.DiskName.TheVariants.{Cat, Spare, Volume}
use Rattle.site_model.specs.declared.status.Status.{Status}
use Rattle.site_model.specs.declared.status.Status.TheVariants.{OutOfMemory, DiskFault}

module _ {D : Type 0} where
  -- the disk of this name, if it is one of the store
  abbrev pub disk_in : Store D → DiskName → Option D
  disk_in store Cat = Some (cat_of store.cat)
  disk_in store Spare = Some (spare_of store.cat)
  disk_in store (Volume n) = option_map (λ (volume : VolumeOf D). disk_of volume) (slice_get store.volumes.items n)
  disk_in store name = None

  abbrev pub faults_or : Ghosts D → Option D → ℕ
  faults_or disk None = 0
  faults_or disk (Some it) = (disk.ledger it).faults

  -- how often it has failed
  abbrev pub faults_in : Ghosts D → Store D → DiskName → ℕ
  faults_in disk store name = faults_or disk (disk_in store name)

  -- no count falls
  abbrev pub NoneFalls : Ghosts D → Store D → Store D → Type 0
  NoneFalls disk old new = (name : DiskName) → faults_in disk old name ≤ faults_in disk new name

  -- a call was cut short: memory ran out, or the disk that is named failed
  abbrev pub HasFailed : Ghosts D → Store D → Store D → Status → Type 0
  HasFailed disk old new OutOfMemory = Unit {0}
  HasFailed disk old new (DiskFault name) = Rose (faults_in disk old name) (faults_in disk new name)
  HasFailed disk old new status = ⊥
