use Rattle.std.proofs.Common.{◌≡◌, map, take}
use Rattle.std.specs.List.{filter_map}
use Rattle.backup_lines.specs.Spans.{reset_in}
use Rattle.backup_lines.specs.Views.{span_view}
use Rattle.live_positions.specs.ResetPoints.{reset_point_of}
use Rattle.restore_planner.proofs.live.resets_of.Given as goal

abbrev pub invariant-loop-span : goal.invariant-loop-span
invariant-loop-span l = map reset_point_of l.resets.items ≡ filter_map reset_in (map span_view (take l.span-index l.spans))
