use Rattle.std.proofs.Common.{◌≡◌, take}
use Rattle.std.specs.List.{flat_map}
use Rattle.boot_lines.specs.LineLayout.{lines_of, spelling}
use Rattle.boot_file.proofs.batch.spelled.Given as goal

abbrev pub invariant-loop-line : goal.invariant-loop-line
invariant-loop-line l = l.bytes.items ≡ flat_map spelling (lines_of (take l.line-index l.lines))
