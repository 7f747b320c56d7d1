-- Fields of a record of bytes, by their offsets.
use Rattle.std.specs.Prelude.{◌≡◌, ◌≢◌, ℕ, ◌*◌, ◌-◌, ◌^◌, ◌<◌, List, ◌++◌, length, take, drop, replicate, All}
use Rattle.std.specs.Int.{Width, byte_len, from_be_bytes, to_be_bytes}

-- the field of this width at this offset
abbrev pub field : ℕ → ℕ → List ℕ → List ℕ
field offset width bytes = take width (drop offset bytes)

-- the number that stands at this offset in the bytes of an unsigned type, the highest byte first
abbrev pub number_at : Width → ℕ → List ℕ → ℕ
number_at w offset bytes = from_be_bytes w (field offset (byte_len w) bytes)

-- this number stands there
pub record HasNumber (w : Width) (offset : ℕ) (bytes : List ℕ) (number : ℕ) : Type 0 where
  pub fits : number < 2 ^ (8 * byte_len w)
  pub stands : field offset (byte_len w) bytes ≡ to_be_bytes w number

-- a text, and zero bytes behind it up to this width
abbrev pub padded : ℕ → List ℕ → List ℕ
padded width text = text ++ replicate (width - length text) 0

-- a text that a field of this width can hold: no byte of it is zero, and a zero byte is behind it
pub record FitsField (width : ℕ) (text : List ℕ) : Type 0 where
  pub shorter : length text < width
  pub nonzero : All (λ byte. byte ≢ 0) text

-- this text stands in the field of this width at this offset
pub record HasText (offset width : ℕ) (bytes text : List ℕ) : Type 0 where
  pub fits : FitsField width text
  pub stands : field offset width bytes ≡ padded width text
