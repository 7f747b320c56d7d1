use Rattle.std.proofs.lemmas.Bool.{both_ways}
use Rattle.level_archive.proofs.HeadLemmas.{is_head, named-head, zeros-head}
use Rattle.level_archive.proofs.head.ImageHead.is_spelled_by.Goals as goal

pub returns-then-has_bytes : goal.returns-then-has_bytes
returns-then-has_bytes c = (
  λ zeros. is_head c.args.self.now c.front_of.result c.args.block.now c.front_of.ensures c.told-block
      (c.has_bytes.ensures.0 c.if-has_bytes.true) (c.is_zero_from.ensures.0 zeros),
  λ is. c.is_zero_from.ensures.1 (zeros-head c.args.self.now c.args.block.now is),
)

pub returns-else-has_bytes : goal.returns-else-has_bytes
returns-else-has_bytes c = (
  λ named. absurd (both_ways c.has_bytes.result c.if-has_bytes.false named),
  λ is. c.has_bytes.ensures.1 (named-head c.args.self.now c.front_of.result c.args.block.now c.front_of.ensures is),
)
