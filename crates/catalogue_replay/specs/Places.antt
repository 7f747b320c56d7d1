-- The places on the catalogue's disks, and what stands there.
use Rattle.std.specs.Prelude.{◌≡◌, ℕ, ◌<◌, ◌≤◌, List, length, drop, replicate, Some, None}
use Rattle.gated_slots.specs.Slots.{Area, used, place_of}
use Rattle.twin_mark.specs.Marks.{record_at}
use Rattle.catalogue_replay.specs.Contents.{Contents}
use Rattle.catalogue_replay.specs.Journal.{State, Reads, StopsAt, contents_of}

-- an area of so many slots: gates from 8,192 on, slots of 4,096 bytes from 73,728 on
abbrev pub area_of : ℕ → Area
area_of slots = record { gates = 8192; slots = 73728; size = 4096; capacity = slots }

-- the slots on a disk
abbrev pub slots_on : List ℕ → List ℕ
slots_on bytes = drop 73728 bytes

-- the mark's record names area 0, the only one so far
unfoldable pub area_record : List ℕ
area_record = replicate 255 0

-- the record that the catalogue's mark has
pub record NamesArea (bytes : List ℕ) : Type 0 where
  pub stands : record_at 4096 bytes ≡ Some area_record

-- the used slots of an area spell records that make these contents, all of them there
pub record Journals (area : Area) (contents : Contents) (bytes : List ℕ) : Type 0 where
  pub state : State
  pub reads : Reads (used area bytes) (slots_on bytes) state
  pub all : state.read ≡ used area bytes
  pub whole : state.rest ≡ None
  pub same : contents_of state ≡ contents
  pub reaches : place_of area (used area bytes) ≤ length bytes

-- the first slot in use that isn't in the grammar
pub record IsBadSlot (area : Area) (bytes : List ℕ) (slot : ℕ) : Type 0 where
  pub stops : StopsAt (used area bytes) (slots_on bytes) slot
  pub within : slot < used area bytes
