use Rattle.std.proofs.Common.{map, take}
use Rattle.backup_lines.specs.Views.{line_of}
use Rattle.restore_planner.specs.Files.{by_line, HasSpans}
use Rattle.restore_planner.proofs.files.newest_lines.Given as goal

abbrev pub invariant-loop-line : goal.invariant-loop-line
invariant-loop-line l = HasSpans l.files (by_line (map line_of (take l.line-index l.lines)))
