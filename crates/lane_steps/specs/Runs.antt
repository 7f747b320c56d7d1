-- The commit of which changes were laid last, and where the work is cut behind them.
use Rattle.std.specs.Prelude.{◌≡◌, ◌≤◌, ℕ, max, List, [], ◌∷◌, length, Option, None, Some}
use Rattle.std.specs.List.{AllByRecursion}
use Rattle.log_history.specs.Effects.{Change}
use Rattle.lane_ways.specs.Ways.{changes_before, changes_by, last_commit}

-- Of the changes that are laid from a position on so many are of this commit, and none is of a later one; the last commit before it is
-- known, and so is that of all of them.
pub record IsRun (from commit count whole : ℕ) (laid : List Change) : Type 0 where
  pub before : AllByRecursion (λ change. change.commit ≤ commit) laid
  pub counts : count ≡ length (changes_by commit laid)
  pub earlier : whole ≡ last_commit from (changes_before commit laid)
  pub last : last_commit from laid ≡ max whole commit

-- the commit of the first of them
abbrev pub first_commit : List Change → Option ℕ
first_commit [] = None
first_commit (change ∷ list) = Some change.commit
