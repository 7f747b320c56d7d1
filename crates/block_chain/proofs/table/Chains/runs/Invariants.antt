use Rattle.block_chain.specs.Table.{blocks_of}
use Rattle.block_chain.proofs.RunLemmas.{HasWalked}
use Rattle.block_chain.proofs.table.Chains.runs.Given as goal

abbrev pub invariant-loop-left : goal.invariant-loop-left
invariant-loop-left l = HasWalked l.self-inside.next.items (blocks_of l.self l.list) l.runs.items l.run l.block l.left

abbrev pub decreases-loop-left : goal.decreases-loop-left
decreases-loop-left l = l.left
