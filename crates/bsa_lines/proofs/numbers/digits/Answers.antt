use Rattle.std.proofs.Common.{◌≡◌, ◌<◌, ◌+◌, ◌-◌, ◌*◌, length, get_or, drop, ap, sym, ◌∙◌, arith, None, List, ℕ}
use Rattle.std.proofs.lemmas.List.{drop_more, drop_all}
use Rattle.onbar_grammar.specs.Numbers.{digits_value}
use Rattle.bsa_lines.specs.Operands.{within_u64}
use Rattle.bsa_lines.proofs.NumberLemmas.{digits_value-passes, within_u64-Some}
use Rattle.bsa_lines.proofs.numbers.digits.Goals as goal

-- a digit that passes the largest number
passes : (before place : ℕ) (word : List ℕ) → place < length word → 18446744073709551615 < before * 10 + (get_or word place 0 - 48)
    → within_u64 (digits_value before (drop place word)) ≡ within_u64 (digits_value 0 word) → None ≡ within_u64 (digits_value 0 word)
passes before place word inside large rest =
    sym (digits_value-passes before (get_or word place 0) (drop (place + 1) word) large)
    ∙ ap (λ digits. within_u64 (digits_value before digits)) (sym (drop_more word place 0 inside)) ∙ rest

pub returns-in_err-checked_mul : goal.returns-in_err-checked_mul
returns-in_err-checked_mul c =
    let too_large = c.in_err-checked_mul.ensures in
    rw c.from_residual.ensures
    (passes c.loop-digit.value c.loop-digit.digit-index c.args.word.now c.loop-digit-test.true (omega (arith, too_large)) c.loop-digit.invariant.rest)

pub returns-in_err-value : goal.returns-in_err-value
returns-in_err-value c =
    let too_large = c.in_err-value.ensures in
    let tens = c.in_ok-checked_mul.ensures in
    let digit = c.from.ensures in
    rw c.from_residual-in_err-value.ensures
    (passes c.loop-digit.value c.loop-digit.digit-index c.args.word.now c.loop-digit-test.true (omega (arith, too_large, tens.1, digit))
    c.loop-digit.invariant.rest)

pub returns : goal.returns
returns c =
    sym (within_u64-Some c.loop-digit.value c.loop-digit.invariant.fits)
    ∙ ap (λ digits. within_u64 (digits_value c.loop-digit.value digits))
    (sym (drop_all c.loop-digit.digit-index c.args.word.now c.loop-digit-test.false))
    ∙ c.loop-digit.invariant.rest
