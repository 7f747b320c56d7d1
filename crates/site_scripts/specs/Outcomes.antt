-- How a run of a script ends, as courses have it.
use Rattle.std.specs.Prelude.{ℕ, Bool, true, false, Option, None, Some, Result, Ok, Err}
use Rattle.site_model.specs.declared.disk_name.DiskName.TheVariants.{Log}
use Rattle.site_model.specs.declared.status.Status.{Status}
use Rattle.site_model.specs.declared.status.Status.TheVariants.{OutOfMemory as EndsOutOfMemory, ReadFault as EndsReadFault, DiskFault as EndsDiskFault, BadRecord as EndsBadRecord}
use Rattle.site_courses.specs.Faults.{Fault, script_fault, log_full, bad_record, cut_short}
use Rattle.site_core.specs.Faults.{full_of}
use Rattle.site_scripts.specs.declared.outcomes.Cut.{Cut}
use Rattle.site_scripts.specs.declared.outcomes.Cut.TheVariants.{OutOfMemory, ReadFault, DiskFault, BadRecord}
use Rattle.site_scripts.specs.declared.outcomes.Stop.{Stop}
use Rattle.site_scripts.specs.declared.outcomes.Stop.TheVariants.{Done, Fault as LineRefused, Full, Cut as CutShort}
use Rattle.site_scripts.specs.declared.outcomes.ScriptEnd.{ScriptEnd}
use Rattle.site_scripts.specs.declared.outcomes.ScriptEnd.TheVariants.{Done as AllTaken, Fault as LineFault, Full as LogFull}
use Rattle.site_scripts.specs.declared.outcomes.Extended.{Extended}

-- Want of memory, a source and a disk that failed cut a run short.
abbrev pub cut_fault : Cut → Fault
cut_fault OutOfMemory = cut_short
cut_fault ReadFault = cut_short
cut_fault (DiskFault disk) = cut_short
cut_fault (BadRecord slot) = bad_record

-- the status with which a command ends at it
abbrev pub status_of_cut : Cut → Status
status_of_cut OutOfMemory = EndsOutOfMemory
status_of_cut ReadFault = EndsReadFault
status_of_cut (DiskFault disk) = EndsDiskFault disk
status_of_cut (BadRecord slot) = EndsBadRecord Log slot

abbrev pub stop_fault : Stop → Option Fault
stop_fault Done = None
stop_fault (LineRefused line why) = Some (script_fault line why)
stop_fault (Full why) = Some (log_full (full_of why))
stop_fault (CutShort cut) = Some (cut_fault cut)

abbrev pub end_fault : ScriptEnd → Option Fault
end_fault AllTaken = None
end_fault (LineFault line why) = Some (script_fault line why)
end_fault (LogFull why) = Some (log_full (full_of why))

-- the fault of a whole run
abbrev pub fault_of_run : Result Extended Cut → Option Fault
fault_of_run (Ok told) = end_fault told.ending
fault_of_run (Err cut) = Some (cut_fault cut)

-- behind the script's end or a refused line the last batch is left
abbrev pub leaves_batch : Stop → Bool
leaves_batch Done = true
leaves_batch (LineRefused line why) = true
leaves_batch (Full why) = false
leaves_batch (CutShort cut) = false

-- an append ends a run where the log is full, or cuts it short; it reads no script
abbrev pub IsOfAppend : Stop → Type 0
IsOfAppend Done = ⊥
IsOfAppend (LineRefused line why) = ⊥
IsOfAppend (Full why) = Unit {0}
IsOfAppend (CutShort OutOfMemory) = Unit {0}
IsOfAppend (CutShort ReadFault) = ⊥
IsOfAppend (CutShort (DiskFault disk)) = Unit {0}
IsOfAppend (CutShort (BadRecord slot)) = Unit {0}

-- the site is open behind it
abbrev pub is_cut_short : Stop → Bool
is_cut_short Done = false
is_cut_short (LineRefused line why) = false
is_cut_short (Full why) = false
is_cut_short (CutShort cut) = true

-- what is told of a run that stopped so, behind a log with this end
abbrev pub report_of : Stop → ℕ → ℕ → ℕ → Result Extended Cut
report_of Done lines commits end = Ok (record { lines = lines; commits = commits; end = end; ending = AllTaken })
report_of (LineRefused line why) lines commits end = Ok (record { lines = lines; commits = commits; end = end; ending = LineFault line why })
report_of (Full why) lines commits end = Ok (record { lines = lines; commits = commits; end = end; ending = LogFull why })
report_of (CutShort cut) lines commits end = Err cut
