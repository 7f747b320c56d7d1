use Rattle.std.proofs.Common.{arith}
use Rattle.block_chain.proofs.LayoutLemmas.{tail_within}
use Rattle.block_chain.proofs.lists.BlockList.append.Goals as goal

pub bounds-next-self : goal.bounds-next-self
bounds-next-self c = tail_within c.args.next.now c.args.self.now c.requires.chain (λ e. omega (arith, e, c.if-self-gt0.true))
