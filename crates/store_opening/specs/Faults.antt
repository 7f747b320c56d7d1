-- The faults of a store, and of its parts.
use Rattle.std.specs.Prelude.{◌≡◌, ℕ, Bool, true, false}
use Rattle.catalogue_replay.specs.declared.faults.CatFault.{CatFault}
use Rattle.catalogue_replay.specs.declared.faults.CatFault.TheVariants.{NotFormatted as NoCatalogue, BadRecord as BadPlace, CatalogueFull, TooManyObjects, Failed as CatalogueFailed, OutOfMemory as NoMemory}
use Rattle.object_volume.specs.declared.faults.VolumeFault.{VolumeFault}
use Rattle.object_volume.specs.declared.faults.VolumeFault.TheVariants.{NoHeader, Overlap, Failed as VolumeFailed, OutOfMemory as NoRoom}
use Rattle.store_opening.specs.declared.faults.StoreDisk.{StoreDisk}
use Rattle.store_opening.specs.declared.faults.StoreDisk.TheVariants.{Cat, Spare, Volume}
use Rattle.store_opening.specs.declared.faults.StoreFault.{StoreFault}
use Rattle.store_opening.specs.declared.faults.StoreFault.TheVariants.{OutOfMemory, DiskFault, NotFormatted, BadRecord}

-- the disk that a fault of the catalogue names
abbrev pub disk_of_catalogue : Bool → StoreDisk
disk_of_catalogue false = Cat
disk_of_catalogue true = Spare

-- a fault of the catalogue as one of the store
abbrev pub fault_of_catalogue : CatFault → StoreFault
fault_of_catalogue NoCatalogue = NotFormatted
fault_of_catalogue (BadPlace spare slot) = BadRecord (disk_of_catalogue spare) slot
fault_of_catalogue (CatalogueFull used wanted) = BadRecord Cat 4294967295
fault_of_catalogue (TooManyObjects live last) = BadRecord Cat 4294967295
fault_of_catalogue (CatalogueFailed spare) = DiskFault (disk_of_catalogue spare)
fault_of_catalogue NoMemory = OutOfMemory

-- a fault of a volume as one of the store
abbrev pub fault_of_volume : ℕ → VolumeFault → StoreFault
fault_of_volume number NoHeader = BadRecord (Volume number) 4294967295
fault_of_volume number (Overlap block) = BadRecord (Volume number) 4294967295
fault_of_volume number VolumeFailed = DiskFault (Volume number)
fault_of_volume number NoRoom = OutOfMemory

-- it was decided by what the disks hold
abbrev pub IsRefusal : StoreFault → Type 0
IsRefusal OutOfMemory = ⊥
IsRefusal (DiskFault disk) = ⊥
IsRefusal NotFormatted = Unit {0}
IsRefusal (BadRecord disk slot) = Unit {0}

-- it happened to the call: memory ran out, or a disk failed
abbrev pub IsFailure : StoreFault → Type 0
IsFailure OutOfMemory = Unit {0}
IsFailure (DiskFault disk) = Unit {0}
IsFailure NotFormatted = ⊥
IsFailure (BadRecord disk slot) = ⊥

-- a disk failed
abbrev pub IsDiskFault : StoreFault → Type 0
IsDiskFault OutOfMemory = ⊥
IsDiskFault (DiskFault disk) = Unit {0}
IsDiskFault NotFormatted = ⊥
IsDiskFault (BadRecord disk slot) = ⊥

-- no disk failed
abbrev pub IsNoDiskFault : StoreFault → Type 0
IsNoDiskFault OutOfMemory = Unit {0}
IsNoDiskFault (DiskFault disk) = ⊥
IsNoDiskFault NotFormatted = Unit {0}
IsNoDiskFault (BadRecord disk slot) = Unit {0}

-- it isn't the catalogue's disk that failed
abbrev pub IsBehindCatalogue : StoreFault → Type 0
IsBehindCatalogue OutOfMemory = Unit {0}
IsBehindCatalogue (DiskFault Cat) = ⊥
IsBehindCatalogue (DiskFault Spare) = Unit {0}
IsBehindCatalogue (DiskFault (Volume number)) = Unit {0}
IsBehindCatalogue NotFormatted = Unit {0}
IsBehindCatalogue (BadRecord disk slot) = Unit {0}

-- it is one of the volume with this number, or memory ran out
abbrev pub IsOfVolume : ℕ → StoreFault → Type 0
IsOfVolume number OutOfMemory = Unit {0}
IsOfVolume number (DiskFault disk) = disk ≡ Volume number
IsOfVolume number NotFormatted = ⊥
IsOfVolume number (BadRecord disk slot) = (disk ≡ Volume number) × (slot ≡ 4294967295)

-- a disk of the catalogue failed
abbrev pub IsOfCatalogue : StoreFault → Type 0
IsOfCatalogue OutOfMemory = ⊥
IsOfCatalogue (DiskFault Cat) = Unit {0}
IsOfCatalogue (DiskFault Spare) = Unit {0}
IsOfCatalogue (DiskFault (Volume number)) = ⊥
IsOfCatalogue NotFormatted = ⊥
IsOfCatalogue (BadRecord disk slot) = ⊥

-- two refusals name the same disk
abbrev pub NamesAsWell : StoreFault → StoreFault → Type 0
NamesAsWell NotFormatted NotFormatted = Unit {0}
NamesAsWell (BadRecord disk slot) (BadRecord other place) = disk ≡ other
NamesAsWell fault other = ⊥
