use Rattle.site_disk.specs.Ledger.{MayUse}
use Rattle.site_disk.specs.MemDisk.{disk_ledger}
use Rattle.catalogue_journal.specs.Catalogues.{cat_of, spare_of, IsOpen}
use Rattle.catalogue_trials.proofs.tests.four_slots_take_four_additions.Given as goal

abbrev pub invariant-loop-copy : goal.invariant-loop-copy
invariant-loop-copy g l = record {
  may : MayUse l.era (disk_ledger (cat_of l.catalogue));
  spare : MayUse l.era (disk_ledger (spare_of l.catalogue));
  opened : IsOpen l.catalogue;
}
