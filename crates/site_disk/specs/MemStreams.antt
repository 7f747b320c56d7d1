-- What contracts see of the source and the sink in memory.
use Rattle.std.specs.Prelude.{ℕ, ◌-◌, List, drop, vec_len}
use Rattle.std.specs.Vec.{vec_capacity}
use Rattle.site_disk.specs.Plans.{Planned}
use Rattle.site_disk.specs.declared.memory.streams.MemSource.{MemSource}
use Rattle.site_disk.specs.declared.memory.streams.MemSink.{MemSink}

-- the bytes that a source has left
abbrev pub source_left : MemSource → List ℕ
source_left source = drop source.at source.bytes.items

-- a source's count of faults
abbrev pub source_faults : MemSource → ℕ
source_faults source = source.faults

-- the calls of a source that fail
abbrev pub source_plan : MemSource → Planned
source_plan source = source.plan

-- the bytes that a sink has taken
abbrev pub sink_taken : MemSink → List ℕ
sink_taken sink = sink.taken.items

-- a sink's count of faults
abbrev pub sink_faults : MemSink → ℕ
sink_faults sink = sink.faults

-- the calls of a sink that fail
abbrev pub sink_plan : MemSink → Planned
sink_plan sink = sink.plan

-- how many bytes a sink takes before it asks for memory
abbrev pub sink_room : MemSink → ℕ
sink_room sink = vec_capacity sink.taken - vec_len sink.taken
