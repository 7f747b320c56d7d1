-- Volumes whose disks are synced.
use Rattle.std.specs.Prelude.{◌≡◌, ℕ}
use Rattle.site_disk.specs.Causes.{Rose}
use Rattle.site_disk.specs.Ledger.{EraView, Uses}
use Rattle.site_disk.specs.declared.disk.Disk.{Ghosts}
use Rattle.object_volume.specs.Volumes.{disk_of, with_disk}
use Rattle.object_volume.specs.declared.volume.Volume.{Volume}
use Rattle.store_opening.specs.Disks.{IsSynced, WritesNothing}
use Rattle.store_opening.specs.declared.faults.StoreDisk.TheVariants.{Volume as VolumeOf}
use Rattle.store_opening.specs.declared.faults.StoreFault.{StoreFault}
use Rattle.store_opening.specs.declared.faults.StoreFault.TheVariants.{DiskFault}

module _ {D : Type 0} (disk : Ghosts D) (era : EraView) (number : ℕ) where
  -- it was
  pub record SyncsVolume (was is : Volume D) : Type 0 where
    pub value : is ≡ with_disk was (disk_of is)
    pub synced : IsSynced disk era (disk_of was) (disk_of is)
    pub crash : WritesNothing disk.image era (disk_of was) (disk_of is)
    pub ledger : Uses era 0 0 (disk.ledger (disk_of was)) (disk.ledger (disk_of is))

  -- its disk failed
  pub record FailsToSync (fault : StoreFault) (was is : Volume D) : Type 0 where
    pub own : fault ≡ DiskFault (VolumeOf number)
    pub value : is ≡ with_disk was (disk_of is)
    pub rose : Rose (disk.ledger (disk_of was)).faults (disk.ledger (disk_of is)).faults
    pub crash : WritesNothing disk.image era (disk_of was) (disk_of is)
    pub ledger : Uses era 0 0 (disk.ledger (disk_of was)) (disk.ledger (disk_of is))
