use Rattle.std.proofs.Common.{◌≡◌}
use Rattle.catalogue_trials.proofs.TestLemmas.{runs_from}
use Rattle.catalogue_trials.proofs.tests.runs_of.Given as goal

abbrev pub invariant-loop-i : goal.invariant-loop-i
invariant-loop-i l = l.runs.items ≡ runs_from 0 l.i
