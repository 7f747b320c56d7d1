-- When the lanes of a site may go to the end of its log, and why they don't come there.
use Rattle.std.specs.Prelude.{◌≡◌, ℕ, List, length, None}
use Rattle.log_history.specs.History.{LogEntry}
use Rattle.site_model.specs.declared.disk_name.DiskName.TheVariants.{Log}
use Rattle.site_worlds.specs.Worlds.{Site}
use Rattle.site_worlds.specs.Allowed.{HasRing}
use Rattle.site_courses.specs.Appending.{wants_drop}
use Rattle.site_courses.specs.Courses.{if_any_lost}
use Rattle.site_core.specs.Appending.{TakesBatch}
use Rattle.held_log.specs.declared.faults.HeldFault.{HeldFault}
use Rattle.held_log.specs.declared.faults.HeldFault.TheVariants.{OutOfMemory as NoMemory, Failed, BadRecord as BadSlot}
use Rattle.site_core.specs.declared.faults.SiteFault.{SiteFault}
use Rattle.site_core.specs.declared.faults.SiteFault.TheVariants.{OutOfMemory, DiskFault, NotFormatted, AlreadyFormatted, BadRecord, NeedsRestart, NoSuchSpace, NoSuchPage, ChunkLost, LogLost, LogFull, StoreFull, CatalogueFull, TooManyObjects, BootFull}

-- so many lanes, none of them lost, with no restore under way and the log there
pub record MayGo (spaces : ℕ) (site : Site) : Type 0 where
  pub none : site.active ≡ None
  pub has : HasRing site
  pub count : length site.lanes ≡ spaces
  pub none_lost : if_any_lost site ≡ None

-- and a batch may come for which the oldest file is to be dropped
pub record TakesBehindDrop (spaces : ℕ) (records : List LogEntry) (site : Site) : Type 0 where
  pub takes : TakesBatch wants_drop records site
  pub goes : MayGo spaces site

-- a fault of reading the held files
abbrev pub of_held : HeldFault → SiteFault
of_held NoMemory = OutOfMemory
of_held Failed = DiskFault Log
of_held (BadSlot slot) = BadRecord Log slot

-- a disk fails, memory is wanting, or a record of the log isn't in the grammar now
abbrev pub IsCheckpointFault : SiteFault → Type 0
IsCheckpointFault OutOfMemory = Unit {0}
IsCheckpointFault (DiskFault name) = Unit {0}
IsCheckpointFault (BadRecord disk slot) = disk ≡ Log
IsCheckpointFault NotFormatted = ⊥
IsCheckpointFault AlreadyFormatted = ⊥
IsCheckpointFault (NeedsRestart number) = ⊥
IsCheckpointFault (NoSuchSpace name) = ⊥
IsCheckpointFault (NoSuchPage page) = ⊥
IsCheckpointFault (ChunkLost space name) = ⊥
IsCheckpointFault LogLost = ⊥
IsCheckpointFault (LogFull why) = ⊥
IsCheckpointFault (StoreFull volume) = ⊥
IsCheckpointFault CatalogueFull = ⊥
IsCheckpointFault TooManyObjects = ⊥
IsCheckpointFault BootFull = ⊥
