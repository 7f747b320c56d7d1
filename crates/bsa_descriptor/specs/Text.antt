-- What a text of a descriptor is.
use Rattle.std.specs.Prelude.{ℕ, ◌<◌, ◌≤◌, List, length, All}

-- a printed ASCII character, from the space to the tilde
abbrev pub IsPrinted : ℕ → Type 0
IsPrinted byte = (32 ≤ byte) × (byte ≤ 126)

-- a text of a field of this width: printed characters, and at least one byte fewer than the field has
pub record IsText (width : ℕ) (text : List ℕ) : Type 0 where
  pub shorter : length text < width
  pub printed : All IsPrinted text
