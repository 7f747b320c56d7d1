-- What the calls that read a catalogue answer.
use Rattle.std.specs.Prelude.{◌≡◌, ◌⊎◌, ℕ, ◌<◌, Bool, true, false, List, length}
use Rattle.site_disk.specs.Causes.{Rose}
use Rattle.gated_slots.specs.Slots.{Area}
use Rattle.site_headers.specs.Heads.{Head, IsHead}
use Rattle.site_headers.specs.Headers.{catalogue_tail, spare_tail, HasHeader}
use Rattle.catalogue_replay.specs.Contents.{Contents}
use Rattle.catalogue_replay.specs.Journal.{State, Reads}
use Rattle.catalogue_replay.specs.Places.{area_of, IsBadSlot, NamesArea, Journals}
use Rattle.catalogue_replay.specs.declared.faults.CatFault.{CatFault}
use Rattle.catalogue_replay.specs.declared.faults.CatFault.TheVariants.{NotFormatted, BadRecord, CatalogueFull, TooManyObjects, Failed, OutOfMemory}

-- decided by the call, and nothing that happened to it
abbrev pub IsRefusal : CatFault → Type 0
IsRefusal NotFormatted = Unit {0}
IsRefusal (BadRecord spare slot) = Unit {0}
IsRefusal (CatalogueFull used wanted) = Unit {0}
IsRefusal (TooManyObjects live last) = Unit {0}
IsRefusal (Failed spare) = ⊥
IsRefusal OutOfMemory = ⊥

-- no disk failed
abbrev pub IsNoFailure : CatFault → Type 0
IsNoFailure NotFormatted = Unit {0}
IsNoFailure (BadRecord spare slot) = Unit {0}
IsNoFailure (CatalogueFull used wanted) = Unit {0}
IsNoFailure (TooManyObjects live last) = Unit {0}
IsNoFailure (Failed spare) = ⊥
IsNoFailure OutOfMemory = Unit {0}

-- a failure is that of this disk, and its count rose
abbrev pub FailsOn : Bool → ℕ → ℕ → CatFault → Type 0
FailsOn which before now NotFormatted = Unit {0}
FailsOn which before now (BadRecord spare slot) = Unit {0}
FailsOn which before now (CatalogueFull used wanted) = Unit {0}
FailsOn which before now (TooManyObjects live last) = Unit {0}
FailsOn which before now (Failed spare) = (spare ≡ which) × Rose before now
FailsOn which before now OutOfMemory = Unit {0}

-- the first slots of some bytes say this
pub record IsRead (used : ℕ) (state : State) : Type 0 where
  pub bytes : List ℕ
  pub reads : Reads used bytes state

-- the disk ends before the slots, or this is the first slot in use that isn't in the grammar
abbrev pub IsBadJournal : Area → List ℕ → CatFault → Type 0
IsBadJournal area bytes NotFormatted = ⊥
IsBadJournal area bytes (BadRecord spare slot) = (spare ≡ false) × ((slot ≡ 4294967295) × (length bytes < 73728) ⊎ IsBadSlot area bytes slot)
IsBadJournal area bytes (CatalogueFull used wanted) = ⊥
IsBadJournal area bytes (TooManyObjects live last) = ⊥
IsBadJournal area bytes (Failed spare) = Unit {0}
IsBadJournal area bytes OutOfMemory = Unit {0}

-- the header is a valid one of a catalogue, with this head
pub record HasHead (head : Head) (bytes : List ℕ) : Type 0 where
  pub is_head : IsHead head
  pub header : HasHeader (catalogue_tail head) bytes

-- two disks are a catalogue with these contents: headers, mark and journal stand
pub record IsCatalogue (capacity : ℕ) (head : Head) (contents : Contents) (bytes spare_bytes : List ℕ) : Type 0 where
  pub heads : HasHead head bytes
  pub mark : NamesArea bytes
  pub journal : Journals (area_of capacity) contents bytes
  pub spare : HasHeader (spare_tail head.site) spare_bytes

-- the header isn't a valid one of a catalogue
abbrev pub HasNoHead : List ℕ → Type 0
HasNoHead bytes = (head : Head) → IsHead head → HasHeader (catalogue_tail head) bytes → ⊥

-- the mark doesn't name the area
pub record IsBadMark (bytes : List ℕ) (spare : Bool) (slot : ℕ) : Type 0 where
  pub spare_is : spare ≡ false
  pub slot_is : slot ≡ 4294967295
  pub mark : NamesArea bytes → ⊥

-- the mark does, and the slots aren't in the grammar
pub record AreBadSlots (area : Area) (bytes : List ℕ) (spare : Bool) (slot : ℕ) : Type 0 where
  pub mark : NamesArea bytes
  pub slots : IsBadJournal area bytes (BadRecord spare slot)

-- mark and slots are as they should be, and the spare disk has no valid header of the site
pub record IsBadSpare (area : Area) (site : ℕ) (bytes spare_bytes : List ℕ) (spare : Bool) (slot : ℕ) : Type 0 where
  pub spare_is : spare ≡ true
  pub slot_is : slot ≡ 4294967295
  pub mark : NamesArea bytes
  pub contents : Contents
  pub journal : Journals area contents bytes
  pub header : HasHeader (spare_tail site) spare_bytes → ⊥

-- behind a valid header the first place that isn't as it should be, of mark, slots and the spare disk's header
pub record IsFirstBad (area : Area) (bytes spare_bytes : List ℕ) (spare : Bool) (slot : ℕ) : Type 0 where
  pub head : Head
  pub has : HasHead head bytes
  pub place : IsBadMark bytes spare slot ⊎ (AreBadSlots area bytes spare slot ⊎ IsBadSpare area head.site bytes spare_bytes spare slot)

-- why a catalogue over these two disks isn't opened
abbrev pub IsBadCatalogue : Area → List ℕ → List ℕ → CatFault → Type 0
IsBadCatalogue area bytes spare_bytes NotFormatted = HasNoHead bytes
IsBadCatalogue area bytes spare_bytes (BadRecord spare slot) = IsFirstBad area bytes spare_bytes spare slot
IsBadCatalogue area bytes spare_bytes (CatalogueFull used wanted) = ⊥
IsBadCatalogue area bytes spare_bytes (TooManyObjects live last) = ⊥
IsBadCatalogue area bytes spare_bytes (Failed spare) = Unit {0}
IsBadCatalogue area bytes spare_bytes OutOfMemory = Unit {0}
