-- How a disk in memory keeps its bytes and what it was asked.
use Rattle.std.specs.Prelude.{◌≡◌, ℕ, ◌+◌, ◌-◌, ◌≤◌, nat_eq, nat_lt, max, count_by, List, [], ◌∷◌, length, map, reverse, Option, Some, None, Vec}
use Rattle.std.specs.declared.alloc.Global.{Global}
use Rattle.site_disk.specs.declared.memory.recording.Call.{Call}
use Rattle.site_disk.specs.declared.memory.recording.Call.TheVariants.{Write, Sync}
use Rattle.site_disk.specs.Bytes.{extent}
use Rattle.site_disk.specs.Past.{Event, put, synced, contents}

-- what stood there before the first write, of which a copy is made only then
abbrev pub start_of : Option (Vec ℕ Global) → List ℕ → List ℕ
start_of None bytes = bytes
start_of (Some start) bytes = start.items

-- a call with the bytes that it wrote, which stand among the bytes of all writes
abbrev pub event_of : List ℕ → Call → Event
event_of pieces (Write era at from len) = put era at (extent from len pieces)
event_of pieces (Sync era) = synced era

-- what was asked, the newest first
abbrev pub past_of : List ℕ → List Call → List Event
past_of pieces calls = reverse (map (event_of pieces) calls)

-- the era of a call
abbrev pub call_era : Call → ℕ
call_era (Write era at from len) = era
call_era (Sync era) = era

-- how many calls were made up to the moment after the first n of an era
abbrev pub calls_up_to : ℕ → ℕ → List Call → ℕ
calls_up_to f n calls = length calls - (count_by (λ call. nat_lt f (call_era call)) calls + (count_by (λ call. nat_eq (call_era call) f) calls - n))

-- where the bytes of the writes end
abbrev pub call_end : Call → ℕ
call_end (Write era at from len) = from + len
call_end (Sync era) = 0

abbrev pub end_of : List Call → ℕ
end_of [] = 0
end_of (call ∷ calls) = max (call_end call) (end_of calls)

-- the bytes are what the calls made of the start, and each write's bytes are there
pub record IsSound (start : Option (Vec ℕ Global)) (bytes pieces : List ℕ) (calls : List Call) : Type 0 where
  pub now : contents (start_of start bytes) (past_of pieces calls) ≡ bytes
  pub there : end_of calls ≤ length pieces
