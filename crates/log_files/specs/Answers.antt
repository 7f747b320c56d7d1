-- What the calls of the log answer.
use Rattle.std.specs.Prelude.{ℕ}
use Rattle.site_disk.specs.Causes.{Rose}
use Rattle.log_files.specs.declared.faults.LogFault.{LogFault}
use Rattle.log_files.specs.declared.faults.LogFault.TheVariants.{LogLost, BadRecord, Failed, OutOfMemory}

-- decided by the call
abbrev pub IsRefusal : LogFault → Type 0
IsRefusal LogLost = Unit {0}
IsRefusal (BadRecord slot) = Unit {0}
IsRefusal Failed = ⊥
IsRefusal OutOfMemory = ⊥

-- a writing call on an open log fails for its disk or for want of memory
abbrev pub IsFailure : LogFault → Type 0
IsFailure LogLost = ⊥
IsFailure (BadRecord slot) = ⊥
IsFailure Failed = Unit {0}
IsFailure OutOfMemory = Unit {0}

-- the disk failed only where its count rose
abbrev pub FailsOn : ℕ → ℕ → LogFault → Type 0
FailsOn before now LogLost = Unit {0}
FailsOn before now (BadRecord slot) = Unit {0}
FailsOn before now Failed = Rose before now
FailsOn before now OutOfMemory = Unit {0}
