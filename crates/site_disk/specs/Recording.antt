-- What contracts see of a recording: what stood there first, what was asked since, the newest first, and spare room.
use Rattle.std.specs.Prelude.{ℕ, ◌-◌, min, List, Option, Some, None, Vec, vec_len}
use Rattle.std.specs.Vec.{vec_capacity}
use Rattle.std.specs.declared.alloc.Global.{Global}
use Rattle.site_disk.specs.declared.memory.recording.Recording.{Recording}
use Rattle.site_disk.specs.Past.{Event}
use Rattle.site_disk.specs.Recorded.{start_of, past_of}

abbrev pub first_bytes : Recording → List ℕ
first_bytes recording = start_of recording.start recording.bytes.items

abbrev pub past_events : Recording → List Event
past_events recording = past_of recording.pieces.items recording.calls.items

-- how much more a collection takes before it asks for memory; none before the start was copied
abbrev pub room_of : {X : Type 0} → Option (Vec ℕ Global) → Vec X Global → ℕ
room_of None v = 0
room_of (Some start) v = vec_capacity v - vec_len v

-- how many more writes and syncs take no memory, and how many bytes of writes
abbrev pub calls_room : Recording → ℕ
calls_room recording = room_of recording.start recording.calls

abbrev pub bytes_room : Recording → ℕ
bytes_room recording = min (room_of recording.start recording.bytes) (room_of recording.start recording.pieces)
