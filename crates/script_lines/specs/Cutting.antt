-- How a script is cut into lines while it comes from a source.
use Rattle.std.specs.Prelude.{◌≡◌, ◌≢◌, ℕ, ◌+◌, ◌<◌, ◌≤◌, List, [], ◌∷◌, ◌++◌, length, take, Bool, true, false, IsTrue, nat_lt, nat_le, ◌&&◌, if◌then◌else◌, Option, None, Some, slice_index}
use Rattle.onbar_grammar.specs.declared.Why.{Why}
use Rattle.onbar_grammar.specs.declared.Why.TheVariants.{TooLong, ScriptTooLong}
use Rattle.onbar_grammar.specs.Script.{Raw, spelled, raw_lines, line_fault}

-- what a caller sees of a script that is being cut: how many of its bytes lie before the next line, the present line,
-- and the bytes that were taken from the source and aren't cut yet
pub record LinesView : Type 0 where
  pub begun : ℕ
  pub line : List ℕ
  pub held : List ℕ

abbrev pub HasNoLineFeed : List ℕ → Type 0
HasNoLineFeed bytes = (k : ℕ) → k < length bytes → slice_index bytes k ≢ 10

-- the first line of `before` is the present one, and `after` follows it
pub record CutsLine (old new : LinesView) (before after : List ℕ) : Type 0 where
  pub raw : Raw
  pub lines : raw_lines before ≡ raw ∷ raw_lines after
  pub spelling : before ≡ spelled raw ++ after
  pub text : raw.text ≡ new.line
  pub within : line_fault old.begun raw ≡ None
  pub begun : new.begun ≡ old.begun + length (spelled raw)

-- the limit that the first line passes
abbrev pub first_fault : ℕ → List Raw → Option Why
first_fault begun [] = None
first_fault begun (raw ∷ others) = line_fault begun raw

-- what was taken from a source is a front of what it had left
abbrev pub TakesFront : List ℕ → List ℕ → Type 0
TakesFront left_before left_after = (got : List ℕ) × (left_before ≡ got ++ left_after)

-- The buffer is made at the first call. The present line and the bytes held stand within it.
pub record IsBuffer (buffer : List ℕ) (line_start line_end held_start held_end begun : ℕ) : Type 0 where
  pub made : 0 < length buffer → length buffer ≡ 65536
  pub line_in_order : line_start ≤ line_end
  pub line_within : line_end ≤ length buffer
  pub line_limit : line_end ≤ line_start + 8256
  pub held_in_order : held_start ≤ held_end
  pub held_within : held_end ≤ length buffer
  pub script_limit : begun ≤ 16777216

-- the first line among the bytes held, as far as it has come: its text, and whether its line feed is there
pub record IsFrontLine (held : List ℕ) (len : ℕ) (is_ended : Bool) : Type 0 where
  pub within : len ≤ length held
  pub text : HasNoLineFeed (take len held)
  pub ended : is_ended ≡ true → (len < length held) × (slice_index held len ≡ 10)
  pub unended : is_ended ≡ false → len ≡ length held

abbrev pub spelled_len : ℕ → Bool → ℕ
spelled_len len is_ended = if is_ended then len + 1 else len

-- the fault of a line by the lengths of its text and of its bytes
abbrev pub fault_at : ℕ → ℕ → ℕ → Option Why
fault_at begun text_len bytes_len =
    if (nat_lt 8256 text_len && nat_le (begun + 8257) 16777216) then Some TooLong
    else (if nat_lt 16777216 (begun + bytes_len) then Some ScriptTooLong else None)

-- the first line among the bytes held has this fault, however it goes on
pub record PassesLimit (lines : LinesView) (why : Why) : Type 0 where
  pub len : ℕ
  pub is_ended : Bool
  pub front : IsFrontLine lines.held len is_ended
  pub fault : fault_at lines.begun len (spelled_len len is_ended) ≡ Some why

-- bytes come from a source, behind those that are held
pub record Gains (tells : Bool) (old new : LinesView) (left_before left_after : List ℕ) : Type 0 where
  pub got : List ℕ
  pub held : new.held ≡ old.held ++ got
  pub taken : IsTrue tells → left_before ≡ got ++ left_after
  pub line : new.line ≡ []
  pub begun : new.begun ≡ old.begun
