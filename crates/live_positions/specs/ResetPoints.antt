-- The program's Resets as the history has them.
use Rattle.std.specs.Prelude.{List, map, reverse}
use Rattle.log_history.specs.Live.{ResetPoint}
use Rattle.live_positions.specs.declared.reset_points.ResetPoint.{ResetPoint as RustResetPoint}

abbrev pub reset_point_of : RustResetPoint → ResetPoint
reset_point_of point = record { at = point.at; target = point.target }

-- the last first
abbrev pub reset_points_in : List RustResetPoint → List ResetPoint
reset_points_in points = reverse (map reset_point_of points)
