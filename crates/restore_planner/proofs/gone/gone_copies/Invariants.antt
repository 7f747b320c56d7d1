use Rattle.std.proofs.Common.{map, take}
use Rattle.backup_lines.specs.Views.{line_of}
use Rattle.restore_planner.specs.Gone.{AreGone}
use Rattle.restore_planner.proofs.gone.gone_copies.Given as goal

abbrev pub invariant-loop-line : goal.invariant-loop-line
invariant-loop-line l = AreGone (map line_of (take l.line-index l.lines)) l.gone
