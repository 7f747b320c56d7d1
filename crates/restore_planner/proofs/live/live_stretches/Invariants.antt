use Rattle.std.proofs.Common.{◌≡◌, ◌++◌, take}
use Rattle.backup_lines.specs.Chains.{live_stretches}
use Rattle.live_positions.specs.ResetPoints.{reset_points_in}
use Rattle.restore_planner.proofs.live.live_stretches.Given as goal

-- the stretches that are left complete the list
abbrev pub invariant-loop-i : goal.invariant-loop-i
invariant-loop-i l = l.stretches.items ++ live_stretches (reset_points_in (take l.i l.resets)) l.limit ≡ live_stretches (reset_points_in l.resets) l.n
