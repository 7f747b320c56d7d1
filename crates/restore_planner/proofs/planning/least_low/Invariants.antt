use Rattle.std.proofs.Common.{◌≡◌, map, take}
use Rattle.backup_lines.specs.Plans.{least_low}
use Rattle.restore_planner.specs.Views.{space_plan_of}
use Rattle.restore_planner.proofs.planning.least_low.Given as goal

abbrev pub invariant-loop-plan : goal.invariant-loop-plan
invariant-loop-plan l = l.least ≡ least_low (map space_plan_of (take l.plan-index l.plans))
