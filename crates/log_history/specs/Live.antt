-- Which positions are live: a restore goes back to its target, and what came between no longer counts.
use Rattle.std.specs.Prelude.{ℕ, suc, List, [], ◌∷◌, length, reverse, Bool, ◌&&◌, nat_lt, nat_le, if◌then◌else◌}
use Rattle.log_history.specs.History.{LogEntry, History, reset}

-- where a Reset stands, and the position that it goes back to
pub record ResetPoint : Type 0 where
  pub at : ℕ
  pub target : ℕ

-- the Resets of records that are given newest first, the last one first
abbrev pub reset_points_back : List LogEntry → List ResetPoint
reset_points_back [] = []
reset_points_back (reset restore target time ∷ past) = record { at = suc (length past); target = target } ∷ reset_points_back past
reset_points_back (entry ∷ past) = reset_points_back past

abbrev pub reset_points : History → List ResetPoint
reset_points history = reset_points_back (reverse history)

-- Position x at n, by the last Reset at or before n: from it on all up to n is live, and before it what is live at its target.
abbrev pub live_by : List ResetPoint → ℕ → ℕ → Bool
live_by [] n x = nat_le x n
live_by (point ∷ older) n x =
    if nat_lt n point.at then live_by older n x
    else (if nat_le point.at x then nat_le x n else (nat_lt point.target point.at && live_by older point.target x))

-- whether position x is live at position n
abbrev pub live : History → ℕ → ℕ → Bool
live history n x = live_by (reset_points history) n x
