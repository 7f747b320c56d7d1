use Rattle.std.proofs.Common.{◌≡◌, subst}
use Rattle.gated_slots.specs.Slots.{Area, used}
use Rattle.catalogue_journal.specs.Catalogues.{cat_of}
use Rattle.catalogue_journal.proofs.catalogue.Catalogue.format.Goals as goal

pub returns-in-Ok-clause-none : goal.returns-in-Ok-clause-none
returns-in-Ok-clause-none g c tells =
    subst (λ (a : Area). used a (g.D.Disk.bytes c.format_catalogue.new.disk) ≡ 0) c.requires.made.area (c.in_default.ensures.none tells)
