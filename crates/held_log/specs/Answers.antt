-- What reading the held files answers.
use Rattle.log_files.specs.declared.faults.LogFault.{LogFault}
use Rattle.log_files.specs.declared.faults.LogFault.TheVariants.{LogLost, BadRecord, Failed, OutOfMemory}
use Rattle.held_log.specs.declared.faults.HeldFault.{HeldFault}
use Rattle.held_log.specs.declared.faults.HeldFault.TheVariants.{OutOfMemory as NoMemory, Failed as DiskFailed, BadRecord as BadSlot}

-- a fault of the log that is handed on; an open log isn't lost
abbrev pub held_fault_of : LogFault → HeldFault
held_fault_of LogLost = DiskFailed
held_fault_of (BadRecord slot) = BadSlot slot
held_fault_of Failed = DiskFailed
held_fault_of OutOfMemory = NoMemory

-- decided by what the records say
abbrev pub IsRefusal : HeldFault → Type 0
IsRefusal NoMemory = ⊥
IsRefusal DiskFailed = ⊥
IsRefusal (BadSlot slot) = Unit {0}
