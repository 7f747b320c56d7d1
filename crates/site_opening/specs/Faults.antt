-- Faults of the parts of a site as those of the site.
use Rattle.std.specs.Prelude.{Bool, true, false}
use Rattle.catalogue_replay.specs.declared.faults.CatFault.{CatFault}
use Rattle.catalogue_replay.specs.declared.faults.CatFault.TheVariants.{NotFormatted as NoCatalogue, BadRecord as BadPlace, CatalogueFull, TooManyObjects, Failed as CatalogueFailed, OutOfMemory as NoMemory}
use Rattle.boot_file.specs.declared.faults.BootFault.{BootFault}
use Rattle.boot_file.specs.declared.faults.BootFault.TheVariants.{BadRecord as BadBoot, BootFull, Failed as BootFailed, OutOfMemory as NoBootMemory}
use Rattle.store_opening.specs.declared.faults.StoreDisk.{StoreDisk}
use Rattle.store_opening.specs.declared.faults.StoreDisk.TheVariants.{Cat as StoreCat, Spare as StoreSpare, Volume as StoreVolume}
use Rattle.store_opening.specs.declared.faults.StoreFault.{StoreFault}
use Rattle.store_opening.specs.declared.faults.StoreFault.TheVariants.{OutOfMemory as NoStoreMemory, DiskFault as StoreFailed, NotFormatted as NoStore, BadRecord as BadStore}
use Rattle.site_model.specs.declared.disk_name.DiskName.{DiskName}
use Rattle.site_model.specs.declared.disk_name.DiskName.TheVariants.{Cat, Spare, Boot, Volume}
use Rattle.site_core.specs.declared.faults.SiteFault.{SiteFault}
use Rattle.site_core.specs.declared.faults.SiteFault.TheVariants.{OutOfMemory, DiskFault, NotFormatted, BadRecord}

-- the disk that a fault of the catalogue names
abbrev pub disk_of_catalogue : Bool → DiskName
disk_of_catalogue false = Cat
disk_of_catalogue true = Spare

abbrev pub fault_of_catalogue : CatFault → SiteFault
fault_of_catalogue NoCatalogue = NotFormatted
fault_of_catalogue (BadPlace spare slot) = BadRecord (disk_of_catalogue spare) slot
fault_of_catalogue (CatalogueFull used wanted) = BadRecord Cat 4294967295
fault_of_catalogue (TooManyObjects live last) = BadRecord Cat 4294967295
fault_of_catalogue (CatalogueFailed spare) = DiskFault (disk_of_catalogue spare)
fault_of_catalogue NoMemory = OutOfMemory

abbrev pub fault_of_boot : BootFault → SiteFault
fault_of_boot (BadBoot slot) = BadRecord Boot slot
fault_of_boot (BootFull used wanted number) = BadRecord Boot 4294967295
fault_of_boot BootFailed = DiskFault Boot
fault_of_boot NoBootMemory = OutOfMemory

-- the name of a disk of the store
abbrev pub disk_of_store : StoreDisk → DiskName
disk_of_store StoreCat = Cat
disk_of_store StoreSpare = Spare
disk_of_store (StoreVolume number) = Volume number

abbrev pub fault_of_store : StoreFault → SiteFault
fault_of_store NoStoreMemory = OutOfMemory
fault_of_store (StoreFailed disk) = DiskFault (disk_of_store disk)
fault_of_store NoStore = NotFormatted
fault_of_store (BadStore disk slot) = BadRecord (disk_of_store disk) slot
