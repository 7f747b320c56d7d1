-- The 4,096 bytes of a slot. All numbers are big-endian; bytes not named are 0.
use Rattle.std.specs.Prelude.{ℕ, ◌-◌, ◌*◌, ◌^◌, ◌<◌, List, [], ◌∷◌, ◌++◌, length, replicate}
use Rattle.std.specs.List.{flat_map}
use Rattle.std.specs.Int.{w16, w32, w64, to_be_bytes}
use Rattle.block_chain.specs.declared.runs.Run.{Run}
use Rattle.bsa_descriptor.specs.Descriptor.{spelling as descriptor_bytes}
use Rattle.catalogue_slots.specs.Records.{Object, Record, add, more, del, base}

-- what stands in bytes 0 to 15: the kind of record, two numbers of 2 and 4 bytes, of which each kind has its own use, and a copy id
pub record Front : Type 0 where
  pub kind : ℕ
  pub word : ℕ
  pub double : ℕ
  pub copy : ℕ

-- they have 8, 16, 32 and 64 bits
pub record FrontFits (front : Front) : Type 0 where
  pub kind : front.kind < 2 ^ 8
  pub word : front.word < 2 ^ 16
  pub double : front.double < 2 ^ 32
  pub copy : front.copy < 2 ^ 64

-- 0 kind, 2 the word, 4 the double word, 8 the copy id
unfoldable pub front_bytes : Front → List ℕ
front_bytes front = front.kind ∷ 0 ∷ [] ++ to_be_bytes w16 front.word ++ to_be_bytes w32 front.double ++ to_be_bytes w64 front.copy

-- kind 1 is an Add with its volume and the count of all runs, 2 a More with the count of its runs, 3 a Del, 4 a Base
abbrev pub front_of : Record → Front
front_of (add count object) = record { kind = 1; word = object.volume; double = count; copy = object.copy }
front_of (more copy runs) = record { kind = 2; word = length runs; double = 0; copy = copy }
front_of (del copy) = record { kind = 3; word = 0; double = 0; copy = copy }
front_of (base last) = record { kind = 4; word = 0; double = 0; copy = last }

-- a run: its first block and the count of its blocks
unfoldable pub run_bytes : Run → List ℕ
run_bytes run = to_be_bytes w32 run.first ++ to_be_bytes w32 run.count

-- runs, one after another, in a place for so many, with zeros behind them
unfoldable pub runs_in_place : ℕ → List Run → List ℕ
runs_in_place room runs = flat_map run_bytes runs ++ replicate (8 * (room - length runs)) 0

-- bytes 16 to 4,095 of an Add: 16 size, 24 digest, 56 descriptor, 2,680 the runs
unfoldable pub add_bytes : Object → List ℕ
add_bytes object = to_be_bytes w64 object.size ++ object.digest ++ descriptor_bytes object.descriptor ++ runs_in_place 177 object.runs

-- 4,080 zeros
unfoldable pub no_bytes : List ℕ
no_bytes = replicate 4080 0

-- bytes 16 to 4,095 of each kind
abbrev pub own_bytes : Record → List ℕ
own_bytes (add count object) = add_bytes object
own_bytes (more copy runs) = runs_in_place 510 runs
own_bytes (del copy) = no_bytes
own_bytes (base last) = no_bytes

-- the bytes of a record
unfoldable pub spelling : Record → List ℕ
spelling entry = front_bytes (front_of entry) ++ own_bytes entry
