use Rattle.std.proofs.Common.{take}
use Rattle.catalogue_journal.specs.Catalogues.{objects_of}
use Rattle.catalogue_journal.specs.Transactions.{AreLive}
use Rattle.catalogue_trials.proofs.tests.are_live.Given as goal

abbrev pub invariant-loop-i : goal.invariant-loop-i
invariant-loop-i l = AreLive (take l.i l.copies) (objects_of l.catalogue)
