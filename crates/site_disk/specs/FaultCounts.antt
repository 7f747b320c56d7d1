-- The failures of a disk in memory, by their causes.
use Rattle.std.specs.Prelude.{◌≡◌, ℕ, ◌+◌, Result, IsErr, MatchResult}
use Rattle.site_disk.specs.declared.memory.disk.FaultCounts.{FaultCounts}
use Rattle.site_disk.specs.Ledger.{counted}

-- those that were planned and those for want of memory together
abbrev pub fault_count : FaultCounts → ℕ
fault_count counts = counts.planned + counts.starved

-- a call fails exactly where it is to fail by plan or memory ran out, and the count of that cause rises
pub record CountsFaults {T E : Type 0} (fails : Type 0) (old new : FaultCounts) (result : Result T E) : Type 0 where
  pub failed : fails → IsErr result
  pub planned : fails → new.planned ≡ counted old.planned 1
  pub not_starved : fails → new.starved ≡ old.starved
  pub not_planned : ¬ fails → new.planned ≡ old.planned
  pub starved : ¬ fails → MatchResult result (λ _. new.starved ≡ old.starved) (λ _. new.starved ≡ counted old.starved 1)
