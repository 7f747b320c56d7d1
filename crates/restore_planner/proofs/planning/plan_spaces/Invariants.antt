use Rattle.std.proofs.Common.{◌≡◌, map}
use Rattle.backup_lines.specs.Plans.{space_plans}
use Rattle.backup_lines.specs.Views.{archive_of}
use Rattle.restore_planner.specs.Views.{space_plan_of}
use Rattle.restore_planner.proofs.planning.plan_spaces.Given as goal

abbrev pub invariant-loop-space : goal.invariant-loop-space
invariant-loop-space l = map space_plan_of l.plans.items ≡ space_plans (map archive_of l.archives) l.live.resets l.live.at l.space
