-- Numbers of a word of 64 bits.
use Rattle.std.proofs.Common.{◌≡◌, ℕ, ◌+◌, ◌-◌, ◌*◌, ◌<◌, ◌≤◌, List, [], ◌∷◌, nat_le, cond, None, Some, inl, inr, arith}
use Rattle.std.proofs.lemmas.Bool.{cases_Bool}
use Rattle.std.proofs.lemmas.Bool.Decides.{nat_tests}
use Rattle.std.specs.Char.{is_ascii_digit}
use Rattle.onbar_grammar.specs.Numbers.{digits_value}
use Rattle.bsa_lines.specs.Operands.{within_u64}

pub within_u64-Some : (n : ℕ) → n < 18446744073709551616 → within_u64 (Some n) ≡ Some n
within_u64-Some n fits = grind (arith, nat_tests)

within_u64-large : (n : ℕ) → 18446744073709551615 < n → within_u64 (Some n) ≡ None
within_u64-large n large = grind (arith, nat_tests)

-- a number never falls by a further digit
digits_value-large : (before : ℕ) (digits : List ℕ) → 18446744073709551615 < before → within_u64 (digits_value before digits) ≡ None
digits_value-large before [] large = within_u64-large before large
digits_value-large before (digit ∷ digits) large =
    elim (cases_Bool (is_ascii_digit digit)) [
      | inl is ↦ rw is (digits_value-large (before * 10 + (digit - 48)) digits (omega arith))
      | inr is_not ↦ rw is_not
    ]

pub digits_value-passes : (before digit : ℕ) (digits : List ℕ) → 18446744073709551615 < before * 10 + (digit - 48)
    → within_u64 (digits_value before (digit ∷ digits)) ≡ None
digits_value-passes before digit digits large =
    elim (cases_Bool (is_ascii_digit digit)) [
      | inl is ↦ rw is (digits_value-large (before * 10 + (digit - 48)) digits large)
      | inr is_not ↦ rw is_not
    ]
