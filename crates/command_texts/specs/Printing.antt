-- What a sink has of a text that wasn't printed whole.
use Rattle.std.specs.Prelude.{◌≡◌, ℕ, ◌<◌, List, ◌++◌, length, take}

-- a front of the text was taken, and not the whole
pub record TakesFront (before after text : List ℕ) : Type 0 where
  pub count : ℕ
  pub short : count < length text
  pub taken : after ≡ before ++ take count text
