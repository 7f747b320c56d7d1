-- What ends a shell.
use Rattle.std.specs.Prelude.{◌≡◌, ℕ, Option, Some, None, Result, Ok, Err}
use Rattle.onbar_grammar.specs.declared.Why.TheVariants.{Words, TooLong as LineTooLong, ScriptTooLong as ScriptPasses}
use Rattle.script_lines.specs.declared.cutting.LineFault.{LineFault}
use Rattle.script_lines.specs.declared.cutting.LineFault.TheVariants.{Failed, TooLong, ScriptTooLong, OutOfMemory as NoMemoryForLines}
use Rattle.session_machine.specs.declared.answers.BsaRc.{BsaRc}
use Rattle.session_machine.specs.declared.answers.BsaRc.TheVariants.{AccessFailure, OutOfMemory as NoMemoryForCall}
use Rattle.session_machine.specs.declared.answers.Access.TheVariants.{Cat as CatAccess, Spare as SpareAccess, Volume as VolumeAccess}
use Rattle.site_model.specs.declared.disk_name.DiskName.{DiskName}
use Rattle.site_model.specs.declared.disk_name.DiskName.TheVariants.{Cat, Spare, Volume}
use Rattle.site_model.specs.declared.status.Status.{Status}
use Rattle.site_model.specs.declared.status.Status.TheVariants.{OutOfMemory, ReadFault, WriteFault, DiskFault, Usage, ScriptFault, NotFormatted, BadRecord}
use Rattle.store_opening.specs.declared.faults.StoreDisk.{StoreDisk}
use Rattle.store_opening.specs.declared.faults.StoreDisk.TheVariants.{Cat as StoreCat, Spare as StoreSpare, Volume as StoreVolume}
use Rattle.store_opening.specs.declared.faults.StoreFault.{StoreFault}
use Rattle.store_opening.specs.declared.faults.StoreFault.TheVariants.{OutOfMemory as NoMemoryForStore, DiskFault as StoreFails, NotFormatted as StoreHasNone, BadRecord as StoreHasBad}

abbrev pub disk_of_store : StoreDisk → DiskName
disk_of_store StoreCat = Cat
disk_of_store StoreSpare = Spare
disk_of_store (StoreVolume number) = Volume number

-- where the store isn't opened
abbrev pub status_of_store : StoreFault → Status
status_of_store NoMemoryForStore = OutOfMemory
status_of_store (StoreFails disk) = DiskFault (disk_of_store disk)
status_of_store StoreHasNone = NotFormatted
status_of_store (StoreHasBad disk slot) = BadRecord (disk_of_store disk) slot

-- where the line of this number isn't cut
abbrev pub status_of_line : ℕ → LineFault → Status
status_of_line line Failed = ReadFault
status_of_line line TooLong = ScriptFault line LineTooLong
status_of_line line ScriptTooLong = ScriptFault line ScriptPasses
status_of_line line NoMemoryForLines = OutOfMemory

-- at an answer that isn't printed: a disk failed, or memory ran out
abbrev pub status_of_answer : BsaRc → Option Status
status_of_answer (AccessFailure CatAccess) = Some (DiskFault Cat)
status_of_answer (AccessFailure SpareAccess) = Some (DiskFault Spare)
status_of_answer (AccessFailure (VolumeAccess number)) = Some (DiskFault (Volume number))
status_of_answer NoMemoryForCall = Some OutOfMemory
status_of_answer code = None

-- a call's answer doesn't cut the shell short
abbrev pub IsUncut : {T : Type 0} → Result T BsaRc → Type 0
IsUncut (Ok value) = Unit {0}
IsUncut (Err code) = status_of_answer code ≡ None

-- an answer of a call cuts the shell short: a disk failed, or memory ran out
abbrev pub CutsCall : Status → Type 0
CutsCall OutOfMemory = Unit {0}
CutsCall (DiskFault disk) = Unit {0}
CutsCall status = ⊥

-- the statuses with which a run of a script ends early
abbrev pub IsOfRun : Status → Type 0
IsOfRun OutOfMemory = Unit {0}
IsOfRun ReadFault = Unit {0}
IsOfRun WriteFault = Unit {0}
IsOfRun (DiskFault disk) = Unit {0}
IsOfRun (ScriptFault line Words) = Unit {0}
IsOfRun (ScriptFault line LineTooLong) = Unit {0}
IsOfRun (ScriptFault line ScriptPasses) = Unit {0}
IsOfRun status = ⊥

-- the statuses with which a shell ends early
abbrev pub EndsEarly : Status → Type 0
EndsEarly OutOfMemory = Unit {0}
EndsEarly ReadFault = Unit {0}
EndsEarly WriteFault = Unit {0}
EndsEarly (DiskFault disk) = Unit {0}
EndsEarly (Usage word) = Unit {0}
EndsEarly (ScriptFault line Words) = Unit {0}
EndsEarly (ScriptFault line LineTooLong) = Unit {0}
EndsEarly (ScriptFault line ScriptPasses) = Unit {0}
EndsEarly NotFormatted = Unit {0}
EndsEarly (BadRecord disk slot) = Unit {0}
EndsEarly status = ⊥

-- a status that ends a shell as a stop does
abbrev pub CutsShort : Status → Type 0
CutsShort OutOfMemory = Unit {0}
CutsShort ReadFault = Unit {0}
CutsShort WriteFault = Unit {0}
CutsShort (DiskFault disk) = Unit {0}
CutsShort status = ⊥

-- a status that is decided by what the disks hold
abbrev pub IsOfDisks : Status → Type 0
IsOfDisks NotFormatted = Unit {0}
IsOfDisks (BadRecord disk slot) = Unit {0}
IsOfDisks status = ⊥
