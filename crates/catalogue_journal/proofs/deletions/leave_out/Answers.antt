use Rattle.std.proofs.Common.{rules}
use Rattle.std.proofs.lemmas.Fn.{filter_same}
use Rattle.catalogue_journal.specs.Deletions.{is_other}
use Rattle.catalogue_journal.proofs.deletions.leave_out.Goals as goal

pub returns-clause-left : goal.returns-clause-left
returns-clause-left c = filter_same _ (is_other c.args.copies.now) _ (λ x b f' k. search rules) _ _ c.retain.ensures.filtered
