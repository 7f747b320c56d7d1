use Rattle.std.proofs.Common.{take}
use Rattle.block_chain.specs.Blocks.{blocks_of_runs}
use Rattle.block_chain.proofs.RunLemmas.{Spans}
use Rattle.block_chain.proofs.table.Chains.list_of.Given as goal

abbrev pub invariant-loop-run : goal.invariant-loop-run
invariant-loop-run l = Spans l.list (blocks_of_runs (take l.run-index l.runs))
