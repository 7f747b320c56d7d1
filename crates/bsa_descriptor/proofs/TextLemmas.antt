-- Texts in their fields.
use Rattle.std.proofs.Common.{◌≡◌, ℕ, List, Option, Some, None, IsSome, IfSome, refl, sym, ap, subst, arith}
use Rattle.byte_fields.specs.Fields.{FitsField, HasText}
use Rattle.bsa_descriptor.specs.Text.{IsText}
use Rattle.bsa_descriptor.specs.Groups.{TextAt}

-- no printed character is zero
pub FitsField-text : (width : ℕ) (text : List ℕ) → IsText width text → FitsField width text
FitsField-text width text is = record { shorter = is.shorter; nonzero = λ k d within zero. let printed = is.printed k d within in omega (arith, printed.0, zero) }

pub HasText-TextAt : (offset width : ℕ) (bytes text : List ℕ) → TextAt offset width bytes text → HasText offset width bytes text
HasText-TextAt offset width bytes text has = record { fits = FitsField-text width text has.is_text; stands = has.stands }

-- what holds of the one value that an option may have
pub IfSome-at : (r : Option (List ℕ)) (x : List ℕ) (P : List ℕ → Type 0) → IfSome r (λ v. v ≡ x) → (IsSome r → P x) → IfSome r P
IfSome-at None x P value holds = tt
IfSome-at (Some v) x P value holds = subst P (sym value) (holds refl)

pub some_value : (r : Option (List ℕ)) (x : List ℕ) → IfSome r (λ v. v ≡ x) → IsSome r → r ≡ Some x
some_value None x value some = cc
some_value (Some v) x value some = ap Some value
