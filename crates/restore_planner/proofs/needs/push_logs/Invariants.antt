use Rattle.std.proofs.Common.{◌≡◌, ◌++◌, map, take}
use Rattle.backup_lines.specs.Plans.{logs_needed}
use Rattle.backup_lines.specs.Views.{span_view}
use Rattle.restore_planner.proofs.needs.push_logs.Given as goal

abbrev pub invariant-loop-span : goal.invariant-loop-span
invariant-loop-span l = l.needs.items ≡ l.initial.needs.items ++ logs_needed (map span_view (take l.span-index l.logs))
