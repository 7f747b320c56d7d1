-- One step of a lane along its way.
use Rattle.std.specs.Prelude.{◌≡◌, ℕ, List, Bool, false}
use Rattle.log_history.specs.History.{History}
use Rattle.log_history.specs.Effects.{Change}
use Rattle.backup_lines.specs.declared.lanes.LaneState.{LaneState}
use Rattle.lane_advance.specs.Advances.{GoesTo}
use Rattle.lane_advance.specs.Places.{with_place}

-- It comes to a place by changes that lead it to a position, and tells whether it stands short of that.
pub record StepsTo (history : History) (n space count to upto part : ℕ) (list : List Change) (old new : LaneState) (more : Bool) : Type 0 where
  pub further : ℕ
  pub later : ℕ
  pub goes : GoesTo history n space count to upto part list further later
  pub state : new ≡ with_place old further later
  pub there : more ≡ false → (further ≡ to) × (later ≡ 0)
  pub short : (further ≡ to) × (later ≡ 0) → more ≡ false
