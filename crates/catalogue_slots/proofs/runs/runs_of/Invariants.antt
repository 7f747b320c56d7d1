use Rattle.std.proofs.Common.{ℕ, List}
use Rattle.block_chain.specs.declared.runs.Run.{Run}
use Rattle.catalogue_slots.specs.Parts.{BeginsWithRuns}
use Rattle.catalogue_slots.proofs.RunLemmas.{EndsAt}
use Rattle.catalogue_slots.proofs.runs.runs_of.Given as goal

-- the runs that were read, and where the last of them ends
pub record HasRead (bytes : List ℕ) (count : ℕ) (runs : List Run) (end : ℕ) : Type 0 where
  pub begins : BeginsWithRuns bytes count runs
  pub ends : EndsAt end runs

abbrev pub invariant-loop-i : goal.invariant-loop-i
invariant-loop-i l = HasRead l.bytes l.i l.runs.items l.end
