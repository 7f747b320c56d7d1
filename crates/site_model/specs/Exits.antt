-- The exit statuses of a command.
use Rattle.std.specs.Prelude.{ℕ}
use Rattle.site_model.specs.declared.status.Status.{Status}
use Rattle.site_model.specs.declared.status.Status.TheVariants.{Ok as Done, OutOfMemory, ReadFault, WriteFault, DiskFault, Usage, ScriptFault, NotFormatted, AlreadyFormatted, BadRecord, NoSuchSpace, NoSuchCopy, NoSuchPage, NoSuchLog, NeedsRestart, NothingToRestart, ChunkLost, LogLost, Refused, LogFull, StoreFull, CatalogueFull, BootFull, TooManyObjects}

-- a number of its own for each status
abbrev pub status_number : Status → ℕ
status_number Done = 0
status_number OutOfMemory = 1
status_number ReadFault = 2
status_number WriteFault = 3
status_number (DiskFault disk) = 4
status_number (Usage word) = 5
status_number (ScriptFault line why) = 6
status_number NotFormatted = 7
status_number AlreadyFormatted = 8
status_number (BadRecord disk slot) = 9
status_number (NoSuchSpace name) = 10
status_number (NoSuchCopy id) = 11
status_number (NoSuchPage page) = 12
status_number (NoSuchLog id) = 13
status_number (NeedsRestart number) = 14
status_number NothingToRestart = 15
status_number (ChunkLost name) = 16
status_number LogLost = 17
status_number (Refused items) = 18
status_number (LogFull full) = 19
status_number (StoreFull volume) = 20
status_number CatalogueFull = 21
status_number BootFull = 22
status_number TooManyObjects = 23
