-- A log record of 128 bytes: the records that have a spelling, and the spelling of each.
use Rattle.std.specs.Prelude.{◌≡◌, ℕ, ◌+◌, ◌==◌, min, if◌then◌else◌, Option, Some, None, ◌^◌, ◌<◌, ◌≤◌, List, [], ◌∷◌, ◌++◌, length, take, replicate, slice_index, refl}
use Rattle.std.specs.List.{AllByRecursion}
use Rattle.std.specs.Int.{w16, w32, w64, to_be_bytes}
use Rattle.byte_fields.specs.Fields.{field, number_at, padded}
use Rattle.log_history.specs.History.{Patch, LogEntry, begin, write, commit, abort, reset}

-- a transaction's number
pub record IsTxn (txn : ℕ) : Type 0 where
  pub numbered : 0 < txn
  pub fits : txn < 2 ^ 32

-- 1 to 64 bytes that lie within the payload of a page
pub record IsPatch (patch : Patch) : Type 0 where
  pub space_fits : patch.space < 16
  pub page_fits : patch.page < 65536
  pub some : 1 ≤ length patch.bytes
  pub few : length patch.bytes ≤ 64
  pub within : patch.offset + length patch.bytes ≤ 4080
  pub each : AllByRecursion (λ b. b < 256) patch.bytes

-- positions, times and restore numbers go up to 2^48
abbrev pub IsBounded : ℕ → Type 0
IsBounded n = n ≤ 2 ^ 48

-- the records that have a spelling
abbrev pub IsRecord : LogEntry → Type 0
IsRecord (begin txn) = IsTxn txn
IsRecord (write txn patch) = IsTxn txn × IsPatch patch
IsRecord (commit txn time) = IsTxn txn × IsBounded time
IsRecord (abort txn) = IsTxn txn
IsRecord (reset restore target time) = (1 ≤ restore) × IsBounded restore × IsBounded target × IsBounded time

-- what stands in the fields of a record's 128 bytes: of a Write's bytes their count, and the bytes with zeros behind them
pub record Fields : Type 0 where
  pub kind : ℕ
  pub len : ℕ
  pub space : ℕ
  pub txn : ℕ
  pub page : ℕ
  pub offset : ℕ
  pub time : ℕ
  pub target : ℕ
  pub bytes : List ℕ
  pub restore : ℕ

-- a field that a kind doesn't have is 0
unfoldable pub blank : Fields
blank = record {
  kind = 0;
  len = 0;
  space = 0;
  txn = 0;
  page = 0;
  offset = 0;
  time = 0;
  target = 0;
  bytes = padded 64 [];
  restore = 0;
}

-- kind 1 is a Begin, 2 a Write, 3 a Commit, 4 an Abort, 5 a Reset
unfoldable pub fields_of : LogEntry → Fields
fields_of (begin txn) = record blank { kind = 1; txn = txn }
fields_of (write txn patch) = record blank {
  kind = 2;
  len = length patch.bytes;
  space = patch.space;
  txn = txn;
  page = patch.page;
  offset = patch.offset;
  bytes = padded 64 patch.bytes;
}
fields_of (commit txn time) = record blank { kind = 3; txn = txn; time = time }
fields_of (abort txn) = record blank { kind = 4; txn = txn }
fields_of (reset restore target time) = record blank { kind = 5; time = time; target = target; restore = restore }

-- Kind 0, length 1, space 2, transaction 4, page 8, offset 12, two zeros, time 16, target 24. Numbers are big-endian.
unfoldable pub front : Fields → List ℕ
front f = f.kind ∷ f.len ∷ [] ++ to_be_bytes w16 f.space ++ to_be_bytes w32 f.txn ++ to_be_bytes w32 f.page ++ to_be_bytes w16 f.offset
    ++ 0 ∷ 0 ∷ [] ++ to_be_bytes w64 f.time ++ to_be_bytes w64 f.target

-- The front, the bytes from 32 on, the restore number from 96 on, and zeros from 104 on.
unfoldable pub laid : Fields → List ℕ
laid f = front f ++ f.bytes ++ to_be_bytes w64 f.restore ++ replicate 24 0

-- the bytes of a record
unfoldable pub spelling : LogEntry → List ℕ
spelling entry = laid (fields_of entry)

-- the fields that stand in 128 bytes
unfoldable pub fields_at : List ℕ → Fields
fields_at slot = record {
  kind = slice_index slot 0;
  len = slice_index slot 1;
  space = number_at w16 2 slot;
  txn = number_at w32 4 slot;
  page = number_at w32 8 slot;
  offset = number_at w16 12 slot;
  time = number_at w64 16 slot;
  target = number_at w64 24 slot;
  bytes = field 32 64 slot;
  restore = number_at w64 96 slot;
}

-- what the fields of a Write say that it carries
abbrev pub patch_in : Fields → Patch
patch_in f = record { space = f.space; page = f.page; offset = f.offset; bytes = take (min f.len 64) f.bytes }

-- the record whose fields these are, where the kind is one
unfoldable pub entry_in : Fields → Option LogEntry
entry_in f =
    if f.kind == 1 then Some (begin f.txn)
    else (if f.kind == 2 then Some (write f.txn (patch_in f))
    else (if f.kind == 3 then Some (commit f.txn f.time)
    else (if f.kind == 4 then Some (abort f.txn)
    else (if f.kind == 5 then Some (reset f.restore f.target f.time) else None))))

pub length-front : (f : Fields) → length (front f) ≡ 32
unfolding front
length-front f = refl
