use Rattle.std.proofs.Common.{◌≡◌, map, take}
use Rattle.backup_lines.specs.Plans.{files_from}
use Rattle.backup_lines.specs.Views.{span_view}
use Rattle.restore_planner.proofs.planning.files_from.Given as goal

abbrev pub invariant-loop-span : goal.invariant-loop-span
invariant-loop-span l = map span_view l.files.items ≡ files_from l.live.resets l.live.at l.low (map span_view (take l.span-index l.spans))
