use Rattle.block_chain.specs.RunLaws.{length-blocks_of_runs}
use Rattle.block_chain.proofs.laws.runs_of_a_table_fit.Goals as goal

pub returns-clause-count : goal.returns-clause-count
returns-clause-count c = length-blocks_of_runs
