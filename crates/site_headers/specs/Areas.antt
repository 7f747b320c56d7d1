-- Where the areas of the log and of the catalogue stand.
use Rattle.std.specs.Prelude.{ℕ}

-- the gates, one byte for each slot
abbrev pub gates_at : ℕ
gates_at = 8192

-- the slots
abbrev pub slots_at : ℕ
slots_at = 73728

-- how many slots an area has
abbrev pub slot_count : ℕ
slot_count = 65536

-- the bytes of a slot of the log
abbrev pub log_slot_len : ℕ
log_slot_len = 128
