use Rattle.std.proofs.Common.{◌≡◌, map, take}
use Rattle.backup_lines.specs.Plans.{archives_needed_by}
use Rattle.restore_planner.specs.Views.{space_plan_of}
use Rattle.restore_planner.proofs.needs.needed.Given as goal

abbrev pub invariant-loop-space : goal.invariant-loop-space
invariant-loop-space l = l.needs.items ≡ archives_needed_by l.restore l.states (map space_plan_of (take l.space-index l.plan.spaces.items))
