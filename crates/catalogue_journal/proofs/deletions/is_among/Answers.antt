use Rattle.std.proofs.Common.{◌∙◌}
use Rattle.catalogue_journal.proofs.DeletionLemmas.{among}
use Rattle.catalogue_journal.proofs.deletions.is_among.Goals as goal

pub returns : goal.returns
returns c order = c.is_ok.ensures.value ∙ among c.args.copies.now c.args.copy c.binary_search.result order c.binary_search.ensures.position
