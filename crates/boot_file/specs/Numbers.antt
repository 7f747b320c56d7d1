-- The numbers of restores.
use Rattle.std.specs.Prelude.{◌≡◌, ◌⊎◌, ℕ, ◌+◌, Option, None, Some, IsSomeAnd}
use Rattle.backup_lines.specs.Spans.{Active}
use Rattle.boot_lines.specs.MarkLayout.{IsGoal}

-- the number of the last restore, once this one is the active one, or none is
abbrev pub number_after : ℕ → Option Active → ℕ
number_after number None = number
number_after number (Some active) = active.number

-- the next number, or that of the active restore
abbrev pub IsNumbered : ℕ → Option Active → ℕ → Type 0
IsNumbered number was next = (next ≡ number + 1) ⊎ IsSomeAnd was (λ active. next ≡ active.number)

-- a restore that may be made the active one: the one that is, or one with the next number, within its bounds
pub record MayFollow (number : ℕ) (was : Option Active) (active : Active) : Type 0 where
  pub numbered : IsNumbered number was active.number
  pub goal : IsGoal active
