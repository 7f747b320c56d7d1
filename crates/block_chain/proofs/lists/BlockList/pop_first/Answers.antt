use Rattle.block_chain.proofs.LayoutLemmas.{head_within, IsChain-pop}
use Rattle.block_chain.proofs.lists.BlockList.pop_first.Goals as goal

pub bounds-next-block : goal.bounds-next-block
bounds-next-block c = head_within c.args.next.now c.args.self.now c.requires c.if-self-eq0.false

pub returns-clause-chain : goal.returns-clause-chain
returns-clause-chain c = IsChain-pop c.args.next.now c.args.self.now c.requires c.if-self-eq0.false
