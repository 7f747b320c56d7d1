-- The 255 bytes of the record in the log's mark. Numbers are big-endian; bytes not named are 0.
use Rattle.std.specs.Prelude.{◌≡◌, ℕ, ◌+◌, ◌==◌, ◌^◌, ◌≤◌, List, [], ◌∷◌, ◌++◌, length, replicate, slice_index, All, Bool, true, false, refl}
use Rattle.std.specs.List.{flat_map}
use Rattle.std.specs.Int.{w64, to_be_bytes}
use Rattle.byte_fields.specs.Fields.{number_at}
use Rattle.log_mark.specs.declared.mark.LogMark.{LogMark}

-- ids, positions and times go up to 2^48
abbrev pub AreBounded : List ℕ → Type 0
AreBounded numbers = All (λ number. number ≤ 2 ^ 48) numbers

-- Of the files held the oldest is at least 1, and the current one at most 7 above it. Those up to one from the one before the oldest to the
-- current one are backed up.
pub record IsMark (mark : LogMark) : Type 0 where
  pub some : 1 ≤ mark.oldest
  pub held : mark.oldest ≤ mark.current
  pub few : mark.current ≤ mark.oldest + 7
  pub dropped : mark.oldest ≤ mark.backed_up_to + 1
  pub backed : mark.backed_up_to ≤ mark.current
  pub bounded : mark.current ≤ 2 ^ 48
  pub before : mark.before ≤ 2 ^ 48
  pub places : length mark.firsts ≡ 8
  pub firsts : AreBounded mark.firsts

-- 1 where the current file is open, 2 where it is closed
abbrev pub state_byte : Bool → ℕ
state_byte false = 1
state_byte true = 2

-- the current file's id, the oldest one's, the id up to which all are backed up, the time before the oldest file, the state, seven zeros
unfoldable pub front : LogMark → List ℕ
front mark =
    to_be_bytes w64 mark.current ++ to_be_bytes w64 mark.oldest ++ to_be_bytes w64 mark.backed_up_to ++ to_be_bytes w64 mark.before
    ++ state_byte mark.is_closed ∷ [] ++ replicate 7 0

pub length-front : (mark : LogMark) → length (front mark) ≡ 40
unfolding front
length-front mark = refl

-- the first positions, by place
unfoldable pub firsts_bytes : List ℕ → List ℕ
firsts_bytes firsts = flat_map (to_be_bytes w64) firsts

-- the front, the first positions from 40 on, and zeros from 104 on
unfoldable pub spelling : LogMark → List ℕ
spelling mark = front mark ++ firsts_bytes mark.firsts ++ replicate 151 0

-- the fields that stand in 255 bytes
abbrev pub firsts_at : List ℕ → List ℕ
firsts_at bytes =
    number_at w64 40 bytes ∷ number_at w64 48 bytes ∷ number_at w64 56 bytes ∷ number_at w64 64 bytes
    ∷ number_at w64 72 bytes ∷ number_at w64 80 bytes ∷ number_at w64 88 bytes ∷ number_at w64 96 bytes ∷ []

unfoldable pub mark_at : List ℕ → LogMark
mark_at bytes = record {
  current = number_at w64 0 bytes;
  oldest = number_at w64 8 bytes;
  backed_up_to = number_at w64 16 bytes;
  before = number_at w64 24 bytes;
  is_closed = slice_index bytes 32 == 2;
  firsts = firsts_at bytes;
}
