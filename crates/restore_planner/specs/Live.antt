-- What is live at a position, by the Resets of the log.
use Rattle.std.specs.Prelude.{ℕ, suc, ◌<◌, ◌≤◌, List, [], ◌∷◌, Bool, false, ◌&&◌, nat_le, Option, None, Some}
use Rattle.log_history.specs.Live.{ResetPoint}
use Rattle.backup_lines.specs.declared.stretches.Stretch.{Stretch}

-- Resets, the last first, and a position
pub record LiveAt : Type 0 where
  pub resets : List ResetPoint
  pub at : ℕ

-- stretches below a limit, each below the one before it
abbrev pub FallBelow : ℕ → List Stretch → Type 0
FallBelow limit [] = Unit {0}
FallBelow limit (stretch ∷ stretches) = (stretch.to < limit) × (stretch.from ≤ stretch.to) × FallBelow stretch.from stretches

-- the position behind the first stretch
abbrev pub limit_of : List Stretch → ℕ
limit_of [] = 0
limit_of (stretch ∷ stretches) = suc stretch.to

-- stretches, each below the one before it
abbrev pub Fall : List Stretch → Type 0
Fall stretches = FallBelow (limit_of stretches) stretches

-- a stretch that begins at `to` or before has a position from one up to `to`
abbrev pub reached_by : ℕ → ℕ → Option Stretch → Bool
reached_by from to None = false
reached_by from to (Some stretch) = nat_le from to && nat_le from stretch.to
