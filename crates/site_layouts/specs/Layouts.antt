-- What each disk shows of a site, and of a world.
use Rattle.std.specs.Prelude.{ℕ, List, slice_get}
use Rattle.boot_file.specs.Places.{HoldsBoot}
use Rattle.catalogue_replay.specs.Answers.{HasNoHead}
use Rattle.site_model.specs.declared.disk_name.DiskName.{DiskName}
use Rattle.site_model.specs.declared.disk_name.DiskName.TheVariants.{Cat, Spare, Boot, Log, Volume, Chunk}
use Rattle.site_worlds.specs.Worlds.{Site, World, unformatted, formatted}
use Rattle.site_layouts.specs.Stores.{Held, HoldsCatalogue, HoldsSpare, ShowsVolume}
use Rattle.site_layouts.specs.Rings.{ShowsRing}
use Rattle.site_layouts.specs.Chunks.{ShowsChunk}

-- a disk shows its part of a formatted site
abbrev pub ShowsSite : DiskName → Site → Held → List ℕ → Type 0
ShowsSite Cat site held bytes = HoldsCatalogue site.head site.store held bytes
ShowsSite Spare site held bytes = HoldsSpare site.head bytes
ShowsSite Boot site held bytes = HoldsBoot site.head.site site.lines site.number site.active bytes
ShowsSite Log site held bytes = ShowsRing site.head.site site.starts site.history site.ring bytes
ShowsSite (Volume n) site held bytes = ShowsVolume site.head site.store n bytes
ShowsSite (Chunk n) site held bytes = ShowsChunk site.head site.history site.lines site.number site.active n (slice_get site.lanes n) bytes

-- A site isn't formatted where its catalogue has no valid header; the other disks show anything then.
abbrev pub ShowsNone : DiskName → List ℕ → Type 0
ShowsNone Cat bytes = HasNoHead bytes
ShowsNone name bytes = Unit {0}

-- a world, and what bytes alone decide beside it
pub record HeldWorld : Type 0 where
  pub world : World
  pub held : Held

abbrev pub ShowsWorld : DiskName → World → Held → List ℕ → Type 0
ShowsWorld name unformatted held bytes = ShowsNone name bytes
ShowsWorld name (formatted site) held bytes = ShowsSite name site held bytes

-- a disk shows its part of a world
abbrev pub Shows : DiskName → HeldWorld → List ℕ → Type 0
Shows name at bytes = ShowsWorld name at.world at.held bytes

-- contents of the disks stand for a world
abbrev pub StandFor : (DiskName → List ℕ) → World → Type 0
StandFor contents world = (held : Held) × ((name : DiskName) → ShowsWorld name world held (contents name))
