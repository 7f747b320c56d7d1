use Rattle.std.proofs.Common.{◌≡◌, take}
use Rattle.log_history.specs.Live.{live_by}
use Rattle.live_positions.specs.ResetPoints.{reset_points_in}
use Rattle.live_positions.proofs.reset_points.is_live.Given as goal

abbrev pub invariant-loop-i : goal.invariant-loop-i
invariant-loop-i l = live_by (reset_points_in (take l.i l.points)) l.limit l.x ≡ live_by (reset_points_in l.points) l.n l.x
