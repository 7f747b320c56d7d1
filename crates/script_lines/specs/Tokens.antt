-- The tokens of a line behind its keyword.
use Rattle.std.specs.Prelude.{◌≡◌, List, [], ◌∷◌, ℕ, Result, Err}
use Rattle.onbar_grammar.specs.declared.Why.{Why}
use Rattle.onbar_grammar.specs.declared.Why.TheVariants.{Words}
use Rattle.onbar_grammar.specs.Script.{Line, Space, short_line_of, write_line_of}

-- what follows a keyword of one token
abbrev pub short_tokens : List ℕ → List (List ℕ) → Result Line Why
short_tokens keyword (token ∷ []) = short_line_of keyword token
short_tokens keyword tokens = Err Words

-- what follows `write`
abbrev pub write_tokens : List Space → List (List ℕ) → Result Line Why
write_tokens spaces (txn ∷ name ∷ page ∷ offset ∷ hex ∷ []) = write_line_of spaces txn name page offset hex
write_tokens spaces tokens = Err Words

-- there are two tokens at least
pub record HasTwo (tokens : List (List ℕ)) : Type 0 where
  pub first : List ℕ
  pub second : List ℕ
  pub others : List (List ℕ)
  pub are : tokens ≡ first ∷ second ∷ others
