-- What the opening of lanes leaves of a site's disks, and what one lane stands for.
use Rattle.std.specs.Prelude.{◌≡◌, ◌⊎◌, ℕ, ◌<◌, ◌≤◌, List, slice_get, Option, Some}
use Rattle.site_disk.specs.declared.disk.Disk.{Ghosts}
use Rattle.site_headers.specs.Heads.{Head}
use Rattle.site_model.specs.declared.disk_name.DiskName.{DiskName}
use Rattle.site_model.specs.declared.disk_name.DiskName.TheVariants.{Cat, Spare, Boot, Log, Volume, Chunk}
use Rattle.site_model.specs.Runs.{name_at}
use Rattle.space_lane.specs.declared.lane.Lane.{Lane}
use Rattle.site_worlds.specs.Worlds.{LaneState}
use Rattle.site_worlds.specs.Lanes.{pages_of_space}
use Rattle.site_layouts.specs.LaneWords.{LaneAgrees}
use Rattle.site_layouts.specs.Stages.{HeldSite, ShowsHeld}
use Rattle.site_openings.specs.Openings.{IsWanted, no_slot}
use Rattle.site_core.specs.declared.faults.SiteFault.{SiteFault}
use Rattle.site_core.specs.declared.faults.SiteFault.TheVariants.{OutOfMemory, DiskFault, NotFormatted, AlreadyFormatted, BadRecord, NeedsRestart, NoSuchSpace, NoSuchPage, ChunkLost, LogLost, LogFull, StoreFull, CatalogueFull, TooManyObjects, BootFull}
use Rattle.site_core.specs.declared.site.Site.{Site}
use Rattle.site_core.specs.Disks.{contents_of, images_of}

-- a disk is the chunk of a wanted lane: of the space that is wanted, or of any
abbrev pub IsWantedChunk : Option ℕ → Head → DiskName → Type 0
IsWantedChunk wanted head (Chunk n) = IsWanted wanted head n
IsWantedChunk wanted head Cat = ⊥
IsWantedChunk wanted head Spare = ⊥
IsWantedChunk wanted head Boot = ⊥
IsWantedChunk wanted head Log = ⊥
IsWantedChunk wanted head (Volume n) = ⊥

-- a chunk is lost, which is named, its mark is bad, or the disk of a wanted one failed
abbrev pub IsLanesFault : Option ℕ → Head → SiteFault → Type 0
IsLanesFault wanted head (DiskFault name) = IsWantedChunk wanted head name
IsLanesFault wanted head (ChunkLost n name) = name ≡ name_at head.spaces n
IsLanesFault wanted head (BadRecord name slot) = ((n : ℕ) × (name ≡ Chunk n)) × (slot ≡ no_slot)
IsLanesFault wanted head OutOfMemory = ⊥
IsLanesFault wanted head NotFormatted = ⊥
IsLanesFault wanted head AlreadyFormatted = ⊥
IsLanesFault wanted head (NeedsRestart number) = ⊥
IsLanesFault wanted head (NoSuchSpace name) = ⊥
IsLanesFault wanted head (NoSuchPage page) = ⊥
IsLanesFault wanted head LogLost = ⊥
IsLanesFault wanted head (LogFull why) = ⊥
IsLanesFault wanted head (StoreFull volume) = ⊥
IsLanesFault wanted head CatalogueFull = ⊥
IsLanesFault wanted head TooManyObjects = ⊥
IsLanesFault wanted head BootFull = ⊥

module _ {D : Type 0} (disk : Ghosts D) where
  -- what a read gives of each such chunk shows its lane
  abbrev pub ShowLanes : Option ℕ → HeldSite → Site D → Type 0
  ShowLanes wanted at site = (n : ℕ) → IsWanted wanted at.site.head n → ShowsHeld (Chunk n) at (contents_of disk site (Chunk n))

  -- an image that was there; of such a chunk, what a read gave
  pub record IsOld (wanted : Option ℕ) (at : HeldSite) (old : Site D) (f : ℕ) (name : DiskName) (bytes : List ℕ) : Type 0 where
    pub image : images_of disk old f name bytes
    pub synced : IsWantedChunk wanted at.site.head name → bytes ≡ contents_of disk old name

  -- one of such a chunk that shows its lane still
  pub record ShowsStill (wanted : Option ℕ) (at : HeldSite) (name : DiskName) (bytes : List ℕ) : Type 0 where
    pub is_wanted : IsWantedChunk wanted at.site.head name
    pub shows : ShowsHeld name at bytes

  -- Up to an era no image is new, and each image of a later one is either of these.
  pub record LanesLeft (wanted : Option ℕ) (era : ℕ) (at : HeldSite) (old new : Site D) : Type 0 where
    pub up_to : (f : ℕ) (name : DiskName) (bytes : List ℕ) → f ≤ era → images_of disk new f name bytes → images_of disk old f name bytes
    pub later : (f : ℕ) (name : DiskName) (bytes : List ℕ) → era < f → images_of disk new f name bytes
        → IsOld wanted at old f name bytes ⊎ ShowsStill wanted at name bytes

  -- the lane of one space is opened: from an era on its value agrees with it, and each image of its chunk shows it
  pub record OneLane (from space : ℕ) (at : HeldSite) (site : Site D) : Type 0 where
    pub lane : LaneState
    pub lane_is : slice_get at.site.lanes space ≡ Some lane
    pub value : Lane D
    pub value_is : slice_get site.lanes.items space ≡ Some value
    pub agrees : LaneAgrees disk from at.site.head.site (pages_of_space at.site.head.spaces space) at.site.number at.site.active space value lane
    pub shows : (f : ℕ) (bytes : List ℕ) → from ≤ f → images_of disk site f (Chunk space) bytes → ShowsHeld (Chunk space) at bytes
