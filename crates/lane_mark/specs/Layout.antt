-- The 255 bytes of the record in a chunk's mark. Numbers are big-endian; bytes not named are 0.
use Rattle.std.specs.Prelude.{◌≡◌, ℕ, ◌-◌, ◌*◌, ◌^◌, ◌<◌, ◌≤◌, ◌==◌, List, [], ◌∷◌, ◌++◌, length, drop, replicate, slice_index, if◌then◌else◌, Option, None, Some}
use Rattle.std.specs.List.{AllByRecursion, flat_map}
use Rattle.std.specs.Int.{w32, w64, to_be_bytes}
use Rattle.byte_fields.specs.Fields.{number_at}
use Rattle.backup_lines.specs.declared.lanes.Chain.{Chain}
use Rattle.backup_lines.specs.declared.lanes.LaneState.{LaneState}
use Rattle.backup_lines.specs.declared.lanes.LaneState.TheVariants.{At, Blank, Image, Replay}
use Rattle.backup_lines.specs.Views.{copies_of}
use Rattle.lane_mark.specs.declared.fields.Fields.{Fields}

-- the fields that stand in a record
pub record MarkFields : Type 0 where
  pub kind : ℕ
  pub archive : ℕ
  pub entries : ℕ
  pub restore : ℕ
  pub upto : ℕ
  pub part : ℕ
  pub chain : List ℕ

-- a field that a kind doesn't have is 0
abbrev pub no_fields : MarkFields
no_fields = record { kind = 0; archive = 0; entries = 0; restore = 0; upto = 0; part = 0; chain = [] }

-- Kind 1 stands at a place, 2 is emptied, 3 merges archives, 4 replays the log behind them.
abbrev pub fields_of : LaneState → MarkFields
fields_of (At upto part) = record no_fields { kind = 1; upto = upto; part = part }
fields_of (Blank restore) = record no_fields { kind = 2; restore = restore }
fields_of (Image restore chain image entries) =
    record no_fields { kind = 3; archive = image; entries = entries; restore = restore; chain = copies_of chain }
fields_of (Replay restore chain upto part) =
    record no_fields { kind = 4; restore = restore; upto = upto; part = part; chain = copies_of chain }

-- The record: 0 the kind, 1 the length of the chain, 2 which of its archives, 4 the entries, 8 the restore, 16 the position, 24 the part,
-- 32 the copy ids of the chain, zeros to 255.
unfoldable pub spelled : MarkFields → List ℕ
spelled fields =
    fields.kind ∷ length fields.chain ∷ fields.archive ∷ 0 ∷ [] ++ to_be_bytes w32 fields.entries ++ to_be_bytes w64 fields.restore
    ++ to_be_bytes w64 fields.upto ++ to_be_bytes w32 fields.part ++ replicate 4 0
    ++ flat_map (to_be_bytes w64) fields.chain ++ replicate (223 - 8 * length fields.chain) 0

abbrev pub spelling : LaneState → List ℕ
spelling state = spelled (fields_of state)

-- positions, restores and copy ids go up to 2^48, parts and entries have 32 bits

pub record FitsPlace (upto part : ℕ) : Type 0 where
  pub upto_fits : upto ≤ 2 ^ 48
  pub part_fits : part < 2 ^ 32

pub record FitsRestore (restore : ℕ) : Type 0 where
  pub some : 1 ≤ restore
  pub fits : restore ≤ 2 ^ 48

-- 1 to 3 copy ids, with 0 past the length
pub record FitsChain (chain : Chain) : Type 0 where
  pub some : 1 ≤ chain.len
  pub few : chain.len ≤ 3
  pub places : length chain.copies ≡ 3
  pub each : AllByRecursion (λ copy. copy ≤ 2 ^ 48) chain.copies
  pub none_past : AllByRecursion (λ copy. copy ≡ 0) (drop chain.len chain.copies)

-- which archive of a chain, and how many of its entries
pub record FitsImage (chain : Chain) (image entries : ℕ) : Type 0 where
  pub within : image < chain.len
  pub entries_fit : entries < 2 ^ 32

-- the states that a mark may have
abbrev pub FitsState : LaneState → Type 0
FitsState (At upto part) = FitsPlace upto part
FitsState (Blank restore) = FitsRestore restore
FitsState (Image restore chain image entries) = FitsRestore restore × FitsChain chain × FitsImage chain image entries
FitsState (Replay restore chain upto part) = FitsRestore restore × FitsChain chain × FitsPlace upto part

-- as the program has the fields

abbrev pub no_chain : Chain
no_chain = record { len = 0; copies = 0 ∷ 0 ∷ 0 ∷ [] }

abbrev pub raw_none : Fields
raw_none = record { kind = 0; chain = no_chain; image = 0; entries = 0; restore = 0; upto = 0; part = 0 }

abbrev pub raw_of : LaneState → Fields
raw_of (At upto part) = record raw_none { kind = 1; upto = upto; part = part }
raw_of (Blank restore) = record raw_none { kind = 2; restore = restore }
raw_of (Image restore chain image entries) = record raw_none { kind = 3; restore = restore; chain = chain; image = image; entries = entries }
raw_of (Replay restore chain upto part) = record raw_none { kind = 4; restore = restore; chain = chain; upto = upto; part = part }

-- the state of this kind with these fields
abbrev pub state_with : Fields → Option LaneState
state_with fields =
    if fields.kind == 1 then Some (At fields.upto fields.part)
    else if fields.kind == 2 then Some (Blank fields.restore)
    else if fields.kind == 3 then Some (Image fields.restore fields.chain fields.image fields.entries)
    else if fields.kind == 4 then Some (Replay fields.restore fields.chain fields.upto fields.part)
    else None

-- the first 32 bytes, and the copy ids at their three places
unfoldable pub front : Fields → List ℕ
front fields =
    fields.kind ∷ fields.chain.len ∷ fields.image ∷ 0 ∷ [] ++ to_be_bytes w32 fields.entries ++ to_be_bytes w64 fields.restore
    ++ to_be_bytes w64 fields.upto ++ to_be_bytes w32 fields.part ++ replicate 4 0

unfoldable pub copies_bytes : List ℕ → List ℕ
copies_bytes copies = flat_map (to_be_bytes w64) copies

-- the fields that stand in 255 bytes
abbrev pub chain_at : List ℕ → Chain
chain_at bytes = record { len = slice_index bytes 1; copies = number_at w64 32 bytes ∷ number_at w64 40 bytes ∷ number_at w64 48 bytes ∷ [] }

unfoldable pub fields_at : List ℕ → Fields
fields_at bytes = record {
  kind = slice_index bytes 0;
  chain = chain_at bytes;
  image = slice_index bytes 2;
  entries = number_at w32 4 bytes;
  restore = number_at w64 8 bytes;
  upto = number_at w64 16 bytes;
  part = number_at w32 24 bytes;
}
