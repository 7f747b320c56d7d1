use Rattle.std.proofs.Common.{drop, map}
use Rattle.backup_lines.specs.Views.{span_view}
use Rattle.restore_planner.specs.Files.{PutsHeld}
use Rattle.restore_planner.proofs.files.put_held.Given as goal

abbrev pub invariant-loop-i : goal.invariant-loop-i
invariant-loop-i l = PutsHeld (map span_view (drop l.i l.held)) l.backed_up_to l.initial.files l.files
