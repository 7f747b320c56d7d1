use Rattle.std.proofs.Common.{◌≡◌, ◌%◌, length}
use Rattle.boot_lines.specs.LineLayout.{lines_of}
use Rattle.boot_file.specs.Reading.{Partway}
use Rattle.boot_file.proofs.reading.take_run.Given as goal

abbrev pub invariant-loop-slot : goal.invariant-loop-slot
invariant-loop-slot l = record { whole : length l.rest % 128 ≡ 0; way : Partway (lines_of l.initial.lines.items) (lines_of l.lines.items) l.run l.rest }

abbrev pub decreases-loop-slot : goal.decreases-loop-slot
decreases-loop-slot l = length l.rest
