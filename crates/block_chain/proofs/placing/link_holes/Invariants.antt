use Rattle.block_chain.proofs.HoleLemmas.{HasLinked}
use Rattle.block_chain.proofs.placing.link_holes.Given as goal

abbrev pub invariant-loop-block : goal.invariant-loop-block
invariant-loop-block l = HasLinked l.fn.next l.next l.holes l.block
