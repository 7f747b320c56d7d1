use Rattle.std.proofs.Common.{arith}
use Rattle.site_headers.proofs.sizes.volume_size_of.Goals as goal

pub returns-then-matches-clause-found : goal.returns-then-matches-clause-found
returns-then-matches-clause-found c = record {
  some = omega arith;
  few = omega arith;
  blocks_stand = c.u32_at-blocks.ensures.found;
  zeros = c.is_zero_from.ensures.0 c.if-is_zero_from.true;
}
