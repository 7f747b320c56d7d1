use Rattle.restore_laws.specs.MergedLaws.{chain_merged}
use Rattle.restore_laws.proofs.laws.merged_archives_give_the_page.Goals as goal

pub returns : goal.returns
returns c = chain_merged
