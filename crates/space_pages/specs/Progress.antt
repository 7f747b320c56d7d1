-- The Writes in effect at a position, one record after another.
use Rattle.std.specs.Prelude.{ℕ, suc, List, [], ◌∷◌, ◌++◌, length, map, reverse, if◌then◌else◌}
use Rattle.log_history.specs.History.{LogEntry, History}
use Rattle.log_history.specs.Live.{ResetPoint, live_by}
use Rattle.log_history.specs.Effects.{Change, change_by}
use Rattle.log_history.specs.Transactions.{Table, given, table_back}

-- what a record at a position gives by the table before it: its Writes, where by the reset_points the position is live at n
abbrev pub given_at : List ResetPoint → ℕ → ℕ → LogEntry → Table → List Change
given_at reset_points n x entry table = if live_by reset_points n x then map (change_by x) (given entry table) else []

-- what records give at n, given newest first
abbrev pub changes_back : List ResetPoint → ℕ → List LogEntry → List Change
changes_back reset_points n [] = []
changes_back reset_points n (entry ∷ past) = changes_back reset_points n past ++ given_at reset_points n (suc (length past)) entry (table_back past)

-- what the records of a front of a history give at n, by the reset_points of all of it
abbrev pub changes_until : List ResetPoint → ℕ → History → List Change
changes_until reset_points n front = changes_back reset_points n (reverse front)
