-- The log files that a restore wants: those with a live position behind the last archive of one of its chains.
use Rattle.std.specs.Prelude.{ℕ, List, Contains, ◌↔◌}
use Rattle.log_history.specs.Live.{ResetPoint}
use Rattle.backup_lines.specs.Lines.{Span}
use Rattle.backup_lines.specs.Chains.{IsNeededFrom}
use Rattle.backup_lines.specs.Plans.{SpacePlan}

pub record IsWanted (resets : List ResetPoint) (q : ℕ) (plans : List SpacePlan) (span : Span) : Type 0 where
  pub plan : SpacePlan
  pub planned : Contains plans plan
  pub needed : IsNeededFrom resets plan.low q span

-- of all spans, those that are wanted
abbrev pub AreWanted : List ResetPoint → ℕ → List SpacePlan → List Span → List Span → Type 0
AreWanted resets q plans spans files = (span : Span) → Contains spans span → Contains files span ↔ IsWanted resets q plans span
