use Rattle.std.proofs.Common.{ap, map, ◌∙◌}
use Rattle.catalogue_slots.specs.Views.{object_of}
use Rattle.catalogue_journal.proofs.DeletionLemmas.{without_all-filter}
use Rattle.catalogue_journal.proofs.deletions.take_out_all.Goals as goal

pub returns-clause-left : goal.returns-clause-left
returns-clause-left c = ap (map object_of) c.leave_out.ensures.left ∙ without_all-filter 0 c.args.copies.now c.args.objects.now.items c.requires.rising
