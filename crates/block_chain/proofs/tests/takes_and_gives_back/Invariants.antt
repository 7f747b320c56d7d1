use Rattle.block_chain.specs.Table.{IsListOf}
use Rattle.block_chain.proofs.tests.takes_and_gives_back.Given as goal

abbrev pub invariant-loop-block : goal.invariant-loop-block
invariant-loop-block g l = IsListOf l.chains l.list
