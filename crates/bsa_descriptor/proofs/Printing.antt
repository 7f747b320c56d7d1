-- Printed characters are ASCII, so that a text is UTF-8.
use Rattle.std.proofs.Common.{ℕ, List, length, arith, inl, inr}
use Rattle.std.specs.Str.{IsUtf8}
use Rattle.std.proofs.lemmas.Bool.{cases_lt}
use Rattle.std.proofs.lemmas.List.{get_or_past}
use Rattle.std.proofs.lemmas.Str.{IsUtf8-from_ascii}
use Rattle.bsa_descriptor.specs.Text.{IsText}

pub utf8_of_text : (width : ℕ) (text : List ℕ) → IsText width text → IsUtf8 text
utf8_of_text width text is = IsUtf8-from_ascii text (λ i. elim (cases_lt i (length text)) [
  | inl within ↦ let printed = is.printed i 0 within in omega (arith, printed.1)
  | inr past ↦ omega (arith, get_or_past text i 0 past)
])
