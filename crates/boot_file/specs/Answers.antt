-- What the calls of the boot file answer.
use Rattle.std.specs.Prelude.{◌≡◌, ◌⊎◌, ℕ, ◌+◌, ◌-◌, ◌^◌, ◌<◌, ◌≤◌, min, List, length, Option}
use Rattle.backup_lines.specs.Lines.{Line}
use Rattle.backup_lines.specs.Spans.{Active}
use Rattle.site_disk.specs.Causes.{Rose}
use Rattle.gated_slots.specs.Slots.{used}
use Rattle.site_headers.specs.Headers.{HasHeader}
use Rattle.boot_file.specs.Places.{boot_tail, lines_area, HoldsMark, StopsAt}
use Rattle.boot_file.specs.declared.faults.BootFault.{BootFault}
use Rattle.boot_file.specs.declared.faults.BootFault.TheVariants.{BadRecord, BootFull, Failed, OutOfMemory}

-- decided by the call
abbrev pub IsRefusal : BootFault → Type 0
IsRefusal (BadRecord slot) = Unit {0}
IsRefusal (BootFull used wanted number) = Unit {0}
IsRefusal Failed = ⊥
IsRefusal OutOfMemory = ⊥

-- the disk didn't fail
abbrev pub IsNoFailure : BootFault → Type 0
IsNoFailure (BadRecord slot) = Unit {0}
IsNoFailure (BootFull used wanted number) = Unit {0}
IsNoFailure Failed = ⊥
IsNoFailure OutOfMemory = Unit {0}

-- the disk failed only where its count rose
abbrev pub FailsOn : ℕ → ℕ → BootFault → Type 0
FailsOn before now (BadRecord slot) = Unit {0}
FailsOn before now (BootFull used wanted number) = Unit {0}
FailsOn before now Failed = Rose before now
FailsOn before now OutOfMemory = Unit {0}

-- an open boot file refuses lines for want of room alone
abbrev pub IsAppendFault : BootFault → Type 0
IsAppendFault (BadRecord slot) = ⊥
IsAppendFault (BootFull used wanted number) = Unit {0}
IsAppendFault Failed = Unit {0}
IsAppendFault OutOfMemory = Unit {0}

-- and a record for its number alone, without want of memory
abbrev pub IsRecordFault : BootFault → Type 0
IsRecordFault (BadRecord slot) = ⊥
IsRecordFault (BootFull used wanted number) = Unit {0}
IsRecordFault Failed = Unit {0}
IsRecordFault OutOfMemory = ⊥

-- so many lines more would be more than 65,536; the count that is named is at most 4,294,967,295
pub record LacksRoom (lines more used wanted number : ℕ) : Type 0 where
  pub full : 65536 < lines + more
  pub used_is : used ≡ lines
  pub wanted_is : wanted ≡ min more (2 ^ 32 - 1)
  pub number_is : number ≡ 0

-- a restore would have a number above 2^48
pub record LacksNumber (lines next used wanted number : ℕ) : Type 0 where
  pub full : 2 ^ 48 < next
  pub used_is : used ≡ lines
  pub wanted_is : wanted ≡ 0
  pub number_is : number ≡ next

-- what stands for a slot where another thing is bad
abbrev pub no_slot : ℕ
no_slot = 4294967295

-- the header isn't that of the site's boot file
pub record IsBadHeader (site : ℕ) (bytes : List ℕ) (slot : ℕ) : Type 0 where
  pub slot_is : slot ≡ no_slot
  pub header : HasHeader (boot_tail site) bytes → ⊥

-- it is, and the mark isn't in the grammar
pub record IsBadMark (site : ℕ) (bytes : List ℕ) (slot : ℕ) : Type 0 where
  pub header : HasHeader (boot_tail site) bytes
  pub slot_is : slot ≡ no_slot
  pub mark : (number : ℕ) (active : Option Active) → HoldsMark number active bytes → ⊥

-- header and mark are as they should be
pub record HasFront (site : ℕ) (bytes : List ℕ) : Type 0 where
  pub header : HasHeader (boot_tail site) bytes
  pub number : ℕ
  pub active : Option Active
  pub mark : HoldsMark number active bytes

-- the disk ends before the slots, or this is the first slot in use that isn't in the grammar
abbrev pub IsBadSlot : List ℕ → ℕ → Type 0
IsBadSlot bytes slot =
    (slot ≡ no_slot) × (length bytes < 73728) ⊎ ((slot < used lines_area bytes) × ((lines : List Line) × (length lines ≡ slot) × StopsAt lines bytes))

-- the first that isn't as it should be, of the header, the mark and the slots in use
abbrev pub IsFirstBad : ℕ → List ℕ → ℕ → Type 0
IsFirstBad site bytes slot = IsBadHeader site bytes slot ⊎ (IsBadMark site bytes slot ⊎ (HasFront site bytes × IsBadSlot bytes slot))

-- why a boot file isn't opened
abbrev pub IsBadBoot : ℕ → List ℕ → BootFault → Type 0
IsBadBoot site bytes (BadRecord slot) = IsFirstBad site bytes slot
IsBadBoot site bytes (BootFull used wanted number) = ⊥
IsBadBoot site bytes Failed = Unit {0}
IsBadBoot site bytes OutOfMemory = Unit {0}
