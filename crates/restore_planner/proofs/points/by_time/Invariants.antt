use Rattle.std.proofs.Common.{◌≡◌, drop, map}
use Rattle.backup_lines.specs.Spans.{by_time}
use Rattle.backup_lines.specs.Views.{span_view}
use Rattle.restore_planner.proofs.points.by_time.Given as goal

abbrev pub invariant-loop-span : goal.invariant-loop-span
invariant-loop-span l = by_time l.time l.last (map span_view (drop l.span-index l.spans)) ≡ by_time l.time 0 (map span_view l.spans)
