-- The faults of a formatting.
use Rattle.site_disk.specs.Causes.{Rose}
use Rattle.site_disk.specs.declared.disk.Disk.{Ghosts}
use Rattle.store_opening.specs.declared.faults.StoreDisk.{StoreDisk}
use Rattle.store_opening.specs.declared.faults.StoreDisk.TheVariants.{Cat as StoreCat, Spare as StoreSpare, Volume as StoreVolume}
use Rattle.store_opening.specs.declared.faults.StoreFault.{StoreFault}
use Rattle.store_opening.specs.declared.faults.StoreFault.TheVariants.{OutOfMemory as NoMemory, DiskFault as FailedDisk, NotFormatted as NoStore, BadRecord as BadPlace}
use Rattle.site_model.specs.declared.disk_name.DiskName.{DiskName}
use Rattle.site_model.specs.declared.disk_name.DiskName.TheVariants.{Cat, Spare, Volume}
use Rattle.site_core.specs.declared.site.Site.{Site}
use Rattle.site_core.specs.declared.faults.SiteFault.{SiteFault}
use Rattle.site_core.specs.declared.faults.SiteFault.TheVariants.{OutOfMemory, DiskFault, NotFormatted, BadRecord}
use Rattle.site_core.specs.Disks.{faults_on}

-- a disk of the store
abbrev pub name_of : StoreDisk → DiskName
name_of StoreCat = Cat
name_of StoreSpare = Spare
name_of (StoreVolume number) = Volume number

-- a fault of the store
abbrev pub fault_of_store : StoreFault → SiteFault
fault_of_store NoMemory = OutOfMemory
fault_of_store (FailedDisk disk) = DiskFault (name_of disk)
fault_of_store NoStore = NotFormatted
fault_of_store (BadPlace disk slot) = BadRecord (name_of disk) slot

-- memory ran out, or the count of the disk that is named rose
abbrev pub HasCauseOn : {D : Type 0} → Ghosts D → Site D → Site D → SiteFault → Type 0
HasCauseOn disk old new OutOfMemory = Unit {0}
HasCauseOn disk old new (DiskFault name) = Rose (faults_on disk old name) (faults_on disk new name)
HasCauseOn disk old new fault = ⊥
