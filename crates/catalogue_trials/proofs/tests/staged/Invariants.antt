use Rattle.std.proofs.Common.{map}
use Rattle.std.specs.List.{AllByRecursion}
use Rattle.catalogue_journal.specs.Transactions.{IsAddition}
use Rattle.catalogue_journal.specs.Views.{addition_of}
use Rattle.catalogue_trials.proofs.tests.staged.Given as goal

abbrev pub invariant-loop-count : goal.invariant-loop-count
invariant-loop-count l = AllByRecursion IsAddition (map addition_of l.add.items)
