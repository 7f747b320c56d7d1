use Rattle.restore_laws.specs.PlannedLaws.{planned_chain_merged}
use Rattle.restore_laws.proofs.laws.a_planned_chain_gives_the_page.Goals as goal

pub returns : goal.returns
returns c = planned_chain_merged
