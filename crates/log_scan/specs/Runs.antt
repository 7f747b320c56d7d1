-- What the slots of a file, read in one run, come to.
use Rattle.std.specs.Prelude.{◌≡◌, ℕ, ◌+◌, ◌*◌, ◌<◌, List, length, take}
use Rattle.std.specs.List.{flat_map}
use Rattle.log_history.specs.History.{LogEntry, History}
use Rattle.log_record.specs.Layout.{IsRecord, spelling}
use Rattle.site_disk.specs.Bytes.{extent}
use Rattle.log_files.specs.Files.{FitFile}
use Rattle.log_files.specs.declared.faults.LogFault.{LogFault}
use Rattle.log_files.specs.declared.faults.LogFault.TheVariants.{LogLost, BadRecord, Failed, OutOfMemory}
use Rattle.log_scan.specs.Slots.{MayStand}

-- a bad slot, or want of memory
abbrev pub IsSlotOrMemory : LogFault → Type 0
IsSlotOrMemory LogLost = ⊥
IsSlotOrMemory (BadRecord number) = Unit {0}
IsSlotOrMemory Failed = ⊥
IsSlotOrMemory OutOfMemory = Unit {0}

-- so many of the first slots spell records of a file, and the next one of those wanted spells none that may stand there
pub record StopsAt (place first count : ℕ) (bytes : List ℕ) (number : ℕ) : Type 0 where
  pub entries : History
  pub number_is : number ≡ 256 * place + length entries
  pub within : length entries < count
  pub fits : FitFile first entries
  pub spelled : take (128 * length entries) bytes ≡ flat_map spelling entries
  pub bad : (entry : LogEntry) → IsRecord entry → MayStand first (length entries) entry → extent (128 * length entries) 128 bytes ≡ spelling entry → ⊥
