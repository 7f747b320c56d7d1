use Rattle.std.proofs.Common.{◌≡◌, ◌<◌, drop}
use Rattle.onbar_grammar.specs.Numbers.{digits_value}
use Rattle.bsa_lines.specs.Operands.{within_u64}
use Rattle.bsa_lines.proofs.numbers.digits.Given as goal

-- the digits that are left complete the number
abbrev pub invariant-loop-digit : goal.invariant-loop-digit
invariant-loop-digit l = record {
  fits : l.value < 18446744073709551616;
  rest : within_u64 (digits_value l.value (drop l.digit-index l.word)) ≡ within_u64 (digits_value 0 l.word);
}
