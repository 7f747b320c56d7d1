-- Why the log of a site isn't opened.
use Rattle.std.specs.Prelude.{◌≡◌, ◌⊎◌, ℕ, ◌+◌, ◌*◌, ◌%◌, ◌<◌, ◌≤◌, List}
use Rattle.gated_slots.specs.Slots.{used}
use Rattle.site_headers.specs.Headers.{HasHeader, log_tail}
use Rattle.log_mark.specs.declared.mark.LogMark.{LogMark}
use Rattle.log_files.specs.Ring.{area_of}
use Rattle.log_files.specs.declared.faults.LogFault.{LogFault}
use Rattle.log_files.specs.declared.faults.LogFault.TheVariants.{LogLost, BadRecord, Failed, OutOfMemory}
use Rattle.log_scan.specs.Slots.{SlotStands}
use Rattle.log_scan.specs.Fronts.{HasFront, first_at}

-- a slot in use of a file held
pub record IsHeldSlot (mark : LogMark) (bytes : List ℕ) (file slot : ℕ) : Type 0 where
  pub oldest : mark.oldest ≤ file
  pub current : file ≤ mark.current
  pub used : slot < used (area_of file) bytes

-- a slot before another, in order of file
abbrev pub IsBefore : ℕ → ℕ → ℕ → ℕ → Type 0
IsBefore file slot other_file other_slot = (file < other_file) ⊎ ((file ≡ other_file) × (slot < other_slot))

-- the first held slot, in order of file, that spells no record which may stand there
pub record IsFirstBad (mark : LogMark) (bytes : List ℕ) (file slot : ℕ) : Type 0 where
  pub held : IsHeldSlot mark bytes file slot
  pub bad : SlotStands (first_at mark file) file slot bytes → ⊥
  pub before : (f s : ℕ) → IsHeldSlot mark bytes f s → IsBefore f s file slot → SlotStands (first_at mark f) f s bytes

-- there is no front in the grammar
pub record IsBadFront (bytes : List ℕ) (number : ℕ) : Type 0 where
  pub number_is : number ≡ 4294967295
  pub none : (mark : LogMark) → HasFront mark bytes → ⊥

-- there is one, and a held slot isn't in the grammar, numbered 256 × place + slot
pub record IsBadSlot (bytes : List ℕ) (number : ℕ) : Type 0 where
  pub mark : LogMark
  pub front : HasFront mark bytes
  pub file : ℕ
  pub slot : ℕ
  pub number_is : number ≡ 256 * (file % 8) + slot
  pub first : IsFirstBad mark bytes file slot

-- Bytes refuse an opening by a fault: the header is looked at first, then the front, then the held slots.
abbrev pub Refuses : ℕ → List ℕ → LogFault → Type 0
Refuses site bytes LogLost = HasHeader (log_tail site) bytes → ⊥
Refuses site bytes (BadRecord number) = HasHeader (log_tail site) bytes × (IsBadFront bytes number ⊎ IsBadSlot bytes number)
Refuses site bytes Failed = ⊥
Refuses site bytes OutOfMemory = ⊥

-- decided by the bytes
abbrev pub IsDecided : LogFault → Type 0
IsDecided LogLost = Unit {0}
IsDecided (BadRecord number) = Unit {0}
IsDecided Failed = ⊥
IsDecided OutOfMemory = ⊥

-- no fault of a log that is lost
abbrev pub IsNotLost : LogFault → Type 0
IsNotLost LogLost = ⊥
IsNotLost (BadRecord number) = Unit {0}
IsNotLost Failed = Unit {0}
IsNotLost OutOfMemory = Unit {0}
