use Rattle.std.proofs.Common.{◌≡◌, ◌<◌, drop}
use Rattle.onbar_grammar.specs.Numbers.{digits_value, within_u32}
use Rattle.onbar_grammar.proofs.numbers.digits.Given as goal

-- the digits that are left complete the number
abbrev pub invariant-loop-digit : goal.invariant-loop-digit
invariant-loop-digit l = record {
  fits : l.value < 4294967296;
  rest : within_u32 (digits_value l.value (drop l.digit-index l.word)) ≡ within_u32 (digits_value 0 l.word);
}
