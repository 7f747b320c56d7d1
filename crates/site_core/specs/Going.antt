-- When the lanes of a site can go to the end of its log.
use Rattle.std.specs.Prelude.{◌≡◌, ℕ, ◌+◌, ◌<◌, List, length}
use Rattle.log_history.specs.Effects.{Change}
use Rattle.site_disk.specs.declared.disk.Disk.{Ghosts}
use Rattle.space_lane.specs.declared.lane.Lane.{Lane}
use Rattle.site_disk.specs.Ledger.{EraView}
use Rattle.site_lanes.specs.Advancing.{MayHaveAdvanced}
use Rattle.site_lanes.specs.Lanes.{OfFirst, RoseAt, SameFrom}
use Rattle.site_model.specs.declared.disk_name.DiskName.{DiskName}
use Rattle.site_model.specs.declared.disk_name.DiskName.TheVariants.{Cat, Spare, Boot, Log, Volume, Chunk}
use Rattle.site_worlds.specs.Worlds.{Site}
use Rattle.site_layouts.specs.Stages.{Layers}
use Rattle.site_lane_laws.specs.PhaseLaws.{CanGo}
use Rattle.site_core.specs.declared.site.Site.{Site as Values}
use Rattle.site_core.specs.Layers.{layers}
use Rattle.site_core.specs.declared.faults.SiteFault.{SiteFault}
use Rattle.site_core.specs.declared.faults.SiteFault.TheVariants.{OutOfMemory, DiskFault, NotFormatted, AlreadyFormatted, BadRecord, NeedsRestart, NoSuchSpace, NoSuchPage, ChunkLost, LogLost, LogFull, StoreFull, CatalogueFull, TooManyObjects, BootFull}

-- so many lanes, to the position at which the log ends, by changes
pub record GoTo (spaces to : ℕ) (changes : List Change) (site : Site) : Type 0 where
  pub can : CanGo changes site
  pub count : length site.lanes ≡ spaces
  pub end : length site.history ≡ to

-- The layers in an era in which the log is read before anything else is done: its disk may have been used in it.
abbrev pub reading_layers : {D : Type 0} → Ghosts D → Layers (Values D)
reading_layers disk = record {
  images = (layers disk).images;
  store_agrees = (layers disk).store_agrees;
  boot_agrees = (layers disk).boot_agrees;
  log_agrees = λ from. (layers disk).log_agrees (from + 1);
  lanes_agree = (layers disk).lanes_agree;
}

-- The lanes alone are others: each of the first so many is as it was, or was worked on.
pub record HaveMoved {D : Type 0} (disk : Ghosts D) (era : EraView) (spaces to : ℕ) (changes : List Change) (old new : Values D) : Type 0 where
  pub others : new ≡ record old { lanes = new.lanes }
  pub as_many : length new.lanes.items ≡ length old.lanes.items
  pub beyond : SameFrom spaces old.lanes.items new.lanes.items
  pub works : OfFirst spaces (λ n was is. MayHaveAdvanced disk era to changes was is) old.lanes.items new.lanes.items

module _ {D : Type 0} (disk : Ghosts D) (count : ℕ) (old new : List (Lane D)) where
  -- the disk of one of the first so many chunks failed
  abbrev pub RoseOn : DiskName → Type 0
  RoseOn (Chunk n) = (n < count) × RoseAt disk n old new
  RoseOn Cat = ⊥
  RoseOn Spare = ⊥
  RoseOn Boot = ⊥
  RoseOn Log = ⊥
  RoseOn (Volume n) = ⊥

  abbrev pub FailsOnLane : SiteFault → Type 0
  FailsOnLane (DiskFault name) = RoseOn name
  FailsOnLane OutOfMemory = ⊥
  FailsOnLane NotFormatted = ⊥
  FailsOnLane AlreadyFormatted = ⊥
  FailsOnLane (BadRecord name slot) = ⊥
  FailsOnLane (NeedsRestart number) = ⊥
  FailsOnLane (NoSuchSpace name) = ⊥
  FailsOnLane (NoSuchPage page) = ⊥
  FailsOnLane (ChunkLost space name) = ⊥
  FailsOnLane LogLost = ⊥
  FailsOnLane (LogFull why) = ⊥
  FailsOnLane (StoreFull volume) = ⊥
  FailsOnLane CatalogueFull = ⊥
  FailsOnLane TooManyObjects = ⊥
  FailsOnLane BootFull = ⊥
