-- When a store is opened by what its disks hold, and which place refuses it.
use Rattle.std.specs.Prelude.{◌≡◌, ◌⊎◌, ℕ, ◌<◌, ◌==◌, true, false, IsTrue, List, filter, map, slice_get, Some}
use Rattle.block_chain.specs.Blocks.{times, ascending, AreSound}
use Rattle.block_chain.specs.declared.runs.Run.{Run}
use Rattle.gated_slots.specs.Slots.{used}
use Rattle.site_disk.specs.Causes.{Rose}
use Rattle.site_disk.specs.Images.{OnlyAfter}
use Rattle.site_disk.specs.Ledger.{EraView, Uses}
use Rattle.site_disk.specs.declared.disk.Disk.{Ghosts}
use Rattle.site_headers.specs.Areas.{slot_count}
use Rattle.site_headers.specs.Heads.{Head}
use Rattle.catalogue_slots.specs.Records.{Object}
use Rattle.catalogue_replay.specs.Contents.{Contents}
use Rattle.catalogue_replay.specs.Places.{area_of}
use Rattle.catalogue_replay.specs.Answers.{HasNoHead, IsCatalogue, IsFirstBad}
use Rattle.object_volume.specs.Headers.{HasVolume, HasNoVolume, Overlaps}
use Rattle.object_volume.specs.Volumes.{disk_of, number_of, blocks_in, free_of, IsOpen, IsIdle}
use Rattle.object_volume.specs.declared.volume.Volume.{Volume}
use Rattle.object_store.specs.Holdings.{Holds, blocks_of_all}
use Rattle.object_store.specs.Returns.{place_of_object, runs_on}
use Rattle.store_opening.specs.Disks.{KeepsBytes, WritesNothing}
use Rattle.store_opening.specs.Faults.{IsRefusal, IsDiskFault, IsNoDiskFault, IsOfVolume}
use Rattle.store_opening.specs.declared.faults.StoreDisk.{StoreDisk}
use Rattle.store_opening.specs.declared.faults.StoreDisk.TheVariants.{Cat, Spare, Volume as VolumeOf}
use Rattle.store_opening.specs.declared.faults.StoreFault.{StoreFault}
use Rattle.store_opening.specs.declared.faults.StoreFault.TheVariants.{OutOfMemory, DiskFault, NotFormatted, BadRecord}

-- the runs of the live objects on a volume, object by object
abbrev pub live_on : ℕ → List Object → List (List Run)
live_on volume objects = runs_on volume (map place_of_object objects)

-- of so many blocks those that no object has, ascending
abbrev pub blocks_beside : List (List Run) → ℕ → List ℕ
blocks_beside objects count = filter (λ block. times block (blocks_of_all objects) == 0) (ascending 0 count)

-- ---- bytes

-- a volume is as it should be: a header of the site with its number, and within the blocks that it names the objects' lie apart
pub record IsGoodVolume (number site : ℕ) (objects : List Object) (file : List ℕ) : Type 0 where
  pub blocks : ℕ
  pub header : HasVolume number site blocks file
  pub sound : AreSound blocks (blocks_of_all (live_on number objects))

-- it has no such header, or they don't
abbrev pub IsBadVolume : ℕ → ℕ → List Object → List ℕ → Type 0
IsBadVolume number site objects file =
    HasNoVolume number site file ⊎ ((block : ℕ) × Overlaps true number site file (blocks_of_all (live_on number objects)) block)

-- all volumes before this one are as they should be
abbrev pub AreGoodBefore : ℕ → ℕ → List Object → List (List ℕ) → Type 0
AreGoodBefore number site objects files = (place : ℕ) (file : List ℕ) → place < number → slice_get files place ≡ Some file → IsGoodVolume place site objects file

-- this is the first volume that isn't
pub record IsFirstBadVolume (number site : ℕ) (objects : List Object) (files : List (List ℕ)) : Type 0 where
  pub file : List ℕ
  pub there : slice_get files number ≡ Some file
  pub bad : IsBadVolume number site objects file
  pub before : AreGoodBefore number site objects files

-- the catalogue is as it should be, and this is the first volume that isn't
pub record IsBadBehind (cat spare : List ℕ) (files : List (List ℕ)) (number slot : ℕ) : Type 0 where
  pub slot_is : slot ≡ 4294967295
  pub head : Head
  pub contents : Contents
  pub catalogue : IsCatalogue slot_count head contents cat spare
  pub first : IsFirstBadVolume number head.site contents.objects files

-- this is the first place that isn't as it should be: of the catalogue, its spare disk and the volumes in order
abbrev pub IsBadPlace : List ℕ → List ℕ → List (List ℕ) → StoreDisk → ℕ → Type 0
IsBadPlace cat spare files Cat slot = IsFirstBad (area_of slot_count) cat spare false slot
IsBadPlace cat spare files Spare slot = IsFirstBad (area_of slot_count) cat spare true slot
IsBadPlace cat spare files (VolumeOf number) slot = IsBadBehind cat spare files number slot

-- why a store isn't opened, by what its disks hold; nothing is said of failures
abbrev pub StoreRefuses : List ℕ → List ℕ → List (List ℕ) → StoreFault → Type 0
StoreRefuses cat spare files OutOfMemory = Unit {0}
StoreRefuses cat spare files (DiskFault disk) = Unit {0}
StoreRefuses cat spare files NotFormatted = HasNoHead cat
StoreRefuses cat spare files (BadRecord disk slot) = IsBadPlace cat spare files disk slot

-- all disks are as they should be, with this head and these contents of the catalogue
pub record IsGoodStore (head : Head) (contents : Contents) (cat spare : List ℕ) (files : List (List ℕ)) : Type 0 where
  pub catalogue : IsCatalogue slot_count head contents cat spare
  pub volumes : (place : ℕ) (file : List ℕ) → slice_get files place ≡ Some file → IsGoodVolume place head.site contents.objects file

-- The same, with so many slots used, and each volume with the blocks of the head.
pub record ShowsStore (head : Head) (contents : Contents) (taken : ℕ) (cat spare : List ℕ) (files : List (List ℕ)) : Type 0 where
  pub catalogue : IsCatalogue slot_count head contents cat spare
  pub used : used (area_of slot_count) cat ≡ taken
  pub headers : (place : ℕ) (file : List ℕ) → slice_get files place ≡ Some file → HasVolume place head.site head.blocks file
  pub apart : (place : ℕ) → AreSound head.blocks (blocks_of_all (live_on place contents.objects))

-- ---- volumes

module _ {D : Type 0} (disk : Ghosts D) (era : EraView) (site : ℕ) (objects : List Object) (number : ℕ) where
  -- a volume was opened, and the objects that stand on it are its live ones
  pub record OpensVolume (was is : Volume D) : Type 0 where
    pub stays : number_of is ≡ number_of was
    pub opened : IsOpen is
    pub idle : IsIdle is
    pub header : IsTrue disk.is_modelled → HasVolume number site (blocks_in is) (disk.bytes (disk_of was))
    pub sound : AreSound (blocks_in is) (blocks_of_all (live_on number objects))
    pub holds : Holds is (live_on number objects)
    pub free : free_of is ≡ blocks_beside (live_on number objects) (blocks_in is)
    pub bytes : KeepsBytes disk.bytes (disk_of was) (disk_of is)
    pub durable : IsTrue disk.is_modelled → OnlyAfter era.number (disk.bytes (disk_of is)) (disk.image (disk_of is))
    pub crash : WritesNothing disk.image era (disk_of was) (disk_of is)
    pub ledger : Uses era 4096 0 (disk.ledger (disk_of was)) (disk.ledger (disk_of is))

  -- it wasn't
  pub record MissesVolume (fault : StoreFault) (was is : Volume D) : Type 0 where
    pub stays : number_of is ≡ number_of was
    pub own : IsOfVolume number fault
    pub bad : IsTrue disk.is_modelled → IsRefusal fault → IsBadVolume number site objects (disk.bytes (disk_of was))
    pub rose : IsDiskFault fault → Rose (disk.ledger (disk_of was)).faults (disk.ledger (disk_of is)).faults
    pub bytes : IsNoDiskFault fault → KeepsBytes disk.bytes (disk_of was) (disk_of is)
    pub crash : WritesNothing disk.image era (disk_of was) (disk_of is)
    pub ledger : Uses era 4096 0 (disk.ledger (disk_of was)) (disk.ledger (disk_of is))
