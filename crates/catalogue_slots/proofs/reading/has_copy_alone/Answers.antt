use Rattle.std.proofs.Common.{arith}
use Rattle.catalogue_slots.proofs.KindLemmas.{zeros_no_bytes, no_bytes_zeros}
use Rattle.catalogue_slots.proofs.reading.has_copy_alone.Goals as goal

pub returns : goal.returns
returns c = (
  λ zeros. record {
    word = omega arith;
    double = omega arith;
    copy = c.is_copy.ensures.0 c.if-not-is_copy.false;
    zeros = zeros_no_bytes c.args.own.now c.requires (c.is_zero_from.ensures.0 zeros);
  },
  λ has. c.is_zero_from.ensures.1 (no_bytes_zeros c.args.own.now has.zeros),
)
