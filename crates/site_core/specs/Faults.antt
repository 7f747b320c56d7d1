-- The faults of calls as those of courses.
use Rattle.std.specs.Prelude.{◌≡◌, ℕ, List, Option, None, Some, Result, Ok, Err}
use Rattle.site_disk.specs.Causes.{Rose}
use Rattle.log_files.specs.declared.faults.LogFault.{LogFault}
use Rattle.log_files.specs.declared.faults.LogFault.TheVariants.{LogLost as LostLog, BadRecord as BadSlot, Failed, OutOfMemory as NoMemory}
use Rattle.log_files.specs.declared.room.LogFull.{LogFull as RoomFull}
use Rattle.log_files.specs.declared.room.LogFull.TheVariants.{NotBackedUp, Needed, Positions}
use Rattle.onbar_grammar.specs.Script.{Space}
use Rattle.site_lanes.specs.declared.refusals.LanesFault.{LanesFault}
use Rattle.site_lanes.specs.declared.refusals.LanesFault.TheVariants.{ChunkLost as LostChunk, BadMark, Failed as FailedLane}
use Rattle.site_model.specs.Runs.{name_at}
use Rattle.site_model.specs.declared.disk_name.DiskName.TheVariants.{Log, Chunk}
use Rattle.site_model.specs.declared.status.Status.{Status}
use Rattle.site_model.specs.declared.status.Status.TheVariants.{OutOfMemory as EndsOutOfMemory, DiskFault as EndsDiskFault, NotFormatted as EndsNotFormatted, AlreadyFormatted as EndsAlreadyFormatted, BadRecord as EndsBadRecord, NeedsRestart as EndsNeedsRestart, NoSuchSpace as EndsNoSuchSpace, NoSuchPage as EndsNoSuchPage, ChunkLost as EndsChunkLost, LogLost as EndsLogLost, LogFull as EndsLogFull, StoreFull as EndsStoreFull, CatalogueFull as EndsCatalogueFull, TooManyObjects as EndsTooManyObjects, BootFull as EndsBootFull}
use Rattle.site_courses.specs.Faults.{Fault, LogFull, not_backed_up, needed_by, no_position, not_formatted, already_formatted, needs_restart, no_such_space, no_such_page, log_lost, chunk_lost, log_full, store_full, catalogue_full, too_many_objects, boot_full, bad_record, cut_short}
use Rattle.site_core.specs.declared.faults.SiteFault.{SiteFault}
use Rattle.site_core.specs.declared.faults.SiteFault.TheVariants.{OutOfMemory, DiskFault, NotFormatted, AlreadyFormatted, BadRecord, NeedsRestart, NoSuchSpace, NoSuchPage, ChunkLost, LogLost, LogFull as FullLog, StoreFull, CatalogueFull, TooManyObjects, BootFull}

-- why the log takes no records, as courses have it
abbrev pub full_of : RoomFull → LogFull
full_of (NotBackedUp file) = not_backed_up file
full_of (Needed file txn) = needed_by file txn
full_of (Positions end) = no_position end

-- Want of memory and a disk that failed cut a call short.
abbrev pub fault_in : SiteFault → Fault
fault_in OutOfMemory = cut_short
fault_in (DiskFault disk) = cut_short
fault_in NotFormatted = not_formatted
fault_in AlreadyFormatted = already_formatted
fault_in (BadRecord disk slot) = bad_record
fault_in (NeedsRestart number) = needs_restart number
fault_in (NoSuchSpace name) = no_such_space name
fault_in (NoSuchPage page) = no_such_page page
fault_in (ChunkLost space name) = chunk_lost space
fault_in LogLost = log_lost
fault_in (FullLog why) = log_full (full_of why)
fault_in (StoreFull volume) = store_full volume
fault_in CatalogueFull = catalogue_full
fault_in TooManyObjects = too_many_objects
fault_in BootFull = boot_full

abbrev pub fault_of : {A : Type 0} → Result A SiteFault → Option Fault
fault_of (Ok a) = None
fault_of (Err fault) = Some (fault_in fault)

-- a fault of the log
abbrev pub of_log : LogFault → SiteFault
of_log LostLog = LogLost
of_log (BadSlot slot) = BadRecord Log slot
of_log Failed = DiskFault Log
of_log NoMemory = OutOfMemory

-- a call of the log's disk alone fails for want of memory, or where that disk's count of faults rose
abbrev pub FailsOnLog : ℕ → ℕ → SiteFault → Type 0
FailsOnLog before now OutOfMemory = Unit {0}
FailsOnLog before now (DiskFault Log) = Rose before now
FailsOnLog before now fault = ⊥

-- a fault of the lanes of a site with these spaces
abbrev pub of_lanes : List Space → LanesFault → SiteFault
of_lanes spaces (LostChunk space) = ChunkLost space (name_at spaces space)
of_lanes spaces (BadMark space) = BadRecord (Chunk space) 4294967295
of_lanes spaces (FailedLane space) = DiskFault (Chunk space)

-- the status with which a command ends at it
abbrev pub status_in : SiteFault → Status
status_in OutOfMemory = EndsOutOfMemory
status_in (DiskFault disk) = EndsDiskFault disk
status_in NotFormatted = EndsNotFormatted
status_in AlreadyFormatted = EndsAlreadyFormatted
status_in (BadRecord disk slot) = EndsBadRecord disk slot
status_in (NeedsRestart number) = EndsNeedsRestart number
status_in (NoSuchSpace name) = EndsNoSuchSpace name
status_in (NoSuchPage page) = EndsNoSuchPage page
status_in (ChunkLost space name) = EndsChunkLost name
status_in LogLost = EndsLogLost
status_in (FullLog why) = EndsLogFull why
status_in (StoreFull volume) = EndsStoreFull volume
status_in CatalogueFull = EndsCatalogueFull
status_in TooManyObjects = EndsTooManyObjects
status_in BootFull = EndsBootFull

-- a lost chunk is named as the space is at its place
abbrev pub IsNamed : List Space → SiteFault → Type 0
IsNamed spaces (ChunkLost space name) = name ≡ name_at spaces space
IsNamed spaces fault = Unit {0}

-- memory was wanting, or a disk failed
abbrev pub IsFailure : SiteFault → Type 0
IsFailure OutOfMemory = Unit {0}
IsFailure (DiskFault disk) = Unit {0}
IsFailure NotFormatted = ⊥
IsFailure AlreadyFormatted = ⊥
IsFailure (BadRecord disk slot) = ⊥
IsFailure (NeedsRestart number) = ⊥
IsFailure (NoSuchSpace name) = ⊥
IsFailure (NoSuchPage page) = ⊥
IsFailure (ChunkLost space name) = ⊥
IsFailure LogLost = ⊥
IsFailure (FullLog why) = ⊥
IsFailure (StoreFull volume) = ⊥
IsFailure CatalogueFull = ⊥
IsFailure TooManyObjects = ⊥
IsFailure BootFull = ⊥

-- no disk failed
abbrev pub IsNoDiskFault : SiteFault → Type 0
IsNoDiskFault OutOfMemory = Unit {0}
IsNoDiskFault (DiskFault disk) = ⊥
IsNoDiskFault NotFormatted = Unit {0}
IsNoDiskFault AlreadyFormatted = Unit {0}
IsNoDiskFault (BadRecord disk slot) = Unit {0}
IsNoDiskFault (NeedsRestart number) = Unit {0}
IsNoDiskFault (NoSuchSpace name) = Unit {0}
IsNoDiskFault (NoSuchPage page) = Unit {0}
IsNoDiskFault (ChunkLost space name) = Unit {0}
IsNoDiskFault LogLost = Unit {0}
IsNoDiskFault (FullLog why) = Unit {0}
IsNoDiskFault (StoreFull volume) = Unit {0}
IsNoDiskFault CatalogueFull = Unit {0}
IsNoDiskFault TooManyObjects = Unit {0}
IsNoDiskFault BootFull = Unit {0}
