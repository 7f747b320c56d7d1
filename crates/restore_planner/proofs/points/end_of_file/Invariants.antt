use Rattle.std.proofs.Common.{◌≡◌, drop, map}
use Rattle.backup_lines.specs.Spans.{end_of_file}
use Rattle.backup_lines.specs.Views.{span_view}
use Rattle.restore_planner.proofs.points.end_of_file.Given as goal

abbrev pub invariant-loop-span : goal.invariant-loop-span
invariant-loop-span l = end_of_file l.file (map span_view (drop l.span-index l.spans)) ≡ end_of_file l.file (map span_view l.spans)
