use Rattle.std.proofs.Common.{map, take}
use Rattle.std.specs.Option.{option_or}
use Rattle.backup_lines.specs.Views.{line_of}
use Rattle.restore_planner.specs.Files.{by_line, live_line, HasSpans}
use Rattle.restore_planner.proofs.files.put_live_lines.Given as goal

abbrev pub invariant-loop-line : goal.invariant-loop-line
invariant-loop-line l = HasSpans l.files
    (λ file. option_or (live_line (map line_of l.lines) (map line_of (take l.line-index l.lines)) file) (by_line (map line_of l.lines) file))
