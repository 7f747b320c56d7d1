-- When a batch may come into the log of a site, and what `append` may answer.
use Rattle.std.specs.Prelude.{◌≡◌, ℕ, List, ◌++◌, length, Option, None}
use Rattle.std.specs.List.{AllByRecursion}
use Rattle.log_history.specs.History.{LogEntry}
use Rattle.log_history.specs.Transactions.{InOrder, table_of}
use Rattle.ring_laws.specs.RoomLaws.{oldest_begin}
use Rattle.site_model.specs.declared.disk_name.DiskName.TheVariants.{Log}
use Rattle.site_worlds.specs.Fitness.{IsWithin}
use Rattle.site_worlds.specs.Worlds.{Site}
use Rattle.site_worlds.specs.Allowed.{IsNoReset, HasRing}
use Rattle.site_courses.specs.Courses.{if_any_lost}
use Rattle.site_core.specs.declared.faults.SiteFault.{SiteFault}
use Rattle.site_core.specs.declared.faults.SiteFault.TheVariants.{OutOfMemory, DiskFault, NotFormatted, AlreadyFormatted, BadRecord, NeedsRestart, NoSuchSpace, NoSuchPage, ChunkLost, LogLost, LogFull, StoreFull, CatalogueFull, TooManyObjects, BootFull}

-- With no restore under way, its log there and none of its so many lanes lost, records in order that are no Resets, into pages that the site
-- has; the oldest Begin that is open before them is known.
pub record MayAppend (spaces : ℕ) (records : List LogEntry) (low : Option (ℕ × ℕ)) (site : Site) : Type 0 where
  pub none : site.active ≡ None
  pub has : HasRing site
  pub count : length site.head.spaces ≡ spaces
  pub none_lost : if_any_lost site ≡ None
  pub order : InOrder (site.history ++ records)
  pub within : AllByRecursion (IsWithin site.head.spaces) records
  pub plain : AllByRecursion IsNoReset records
  pub low_is : low ≡ oldest_begin (table_of site.history)

-- a disk fails, memory is wanting, the log is full, or a record of it isn't in the grammar now
abbrev pub IsAppendFault : SiteFault → Type 0
IsAppendFault OutOfMemory = Unit {0}
IsAppendFault (DiskFault name) = Unit {0}
IsAppendFault (BadRecord disk slot) = disk ≡ Log
IsAppendFault (LogFull why) = Unit {0}
IsAppendFault NotFormatted = ⊥
IsAppendFault AlreadyFormatted = ⊥
IsAppendFault (NeedsRestart number) = ⊥
IsAppendFault (NoSuchSpace name) = ⊥
IsAppendFault (NoSuchPage page) = ⊥
IsAppendFault (ChunkLost space name) = ⊥
IsAppendFault LogLost = ⊥
IsAppendFault (StoreFull volume) = ⊥
IsAppendFault CatalogueFull = ⊥
IsAppendFault TooManyObjects = ⊥
IsAppendFault BootFull = ⊥
