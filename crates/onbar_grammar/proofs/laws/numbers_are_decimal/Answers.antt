use Rattle.onbar_grammar.proofs.NumberLemmas.{number_iff_decimal}
use Rattle.onbar_grammar.proofs.laws.numbers_are_decimal.Goals as goal

pub returns : goal.returns
returns c = number_iff_decimal
