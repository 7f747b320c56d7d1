-- Numbers of a word of 32 bits, and between two bounds.
use Rattle.std.proofs.Common.{◌≡◌, ℕ, ◌+◌, ◌-◌, ◌*◌, ◌<◌, ◌≤◌, List, [], ◌∷◌, nat_le, ◌&&◌, cond, None, Some, inl, inr, arith}
use Rattle.std.proofs.lemmas.Bool.{cases_Bool, and_parts, leb-true}
use Rattle.std.proofs.lemmas.Bool.Decides.{nat_tests}
use Rattle.std.proofs.lemmas.Option.{cond_some, option_and_then_some}
use Rattle.std.specs.Char.{is_ascii_digit}
use Rattle.onbar_grammar.specs.Numbers.{digits_value, within_u32, number, number_within}

pub within_u32-Some : (n : ℕ) → n < 4294967296 → within_u32 (Some n) ≡ Some n
within_u32-Some n fits = grind (arith, nat_tests)

within_u32-large : (n : ℕ) → 4294967295 < n → within_u32 (Some n) ≡ None
within_u32-large n large = grind (arith, nat_tests)

-- a number never falls by a further digit
digits_value-large : (before : ℕ) (digits : List ℕ) → 4294967295 < before → within_u32 (digits_value before digits) ≡ None
digits_value-large before [] large = within_u32-large before large
digits_value-large before (digit ∷ digits) large =
    elim (cases_Bool (is_ascii_digit digit)) [
      | inl is ↦ rw is (digits_value-large (before * 10 + (digit - 48)) digits (omega arith))
      | inr is_not ↦ rw is_not
    ]

pub digits_value-passes : (before digit : ℕ) (digits : List ℕ) → 4294967295 < before * 10 + (digit - 48)
    → within_u32 (digits_value before (digit ∷ digits)) ≡ None
digits_value-passes before digit digits large =
    elim (cases_Bool (is_ascii_digit digit)) [
      | inl is ↦ rw is (digits_value-large (before * 10 + (digit - 48)) digits large)
      | inr is_not ↦ rw is_not
    ]

-- a number within bounds is within them
pub number_within-Some : (low high : ℕ) (word : List ℕ) (n : ℕ) → number_within low high word ≡ Some n → (low ≤ n) × (n ≤ high)
number_within-Some low high word n is =
    option_and_then_some (λ n. cond (nat_le low n && nat_le n high) (Some n) None) (number word) n is
    (λ x was within.
    let parts = cond_some (nat_le low x && nat_le x high) x n within in
    let both = and_parts (nat_le low x) (nat_le x high) parts.0 in
    let le : low ≤ x = leb-true low x both.0 in
    let ge : x ≤ high = leb-true x high both.1 in
    (omega (arith, parts.1), omega (arith, parts.1)))
