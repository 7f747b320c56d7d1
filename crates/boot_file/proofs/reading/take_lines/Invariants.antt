use Rattle.std.proofs.Common.{◌-◌}
use Rattle.boot_lines.specs.LineLayout.{lines_of}
use Rattle.boot_file.proofs.ReadingLemmas.{HasRead}
use Rattle.boot_file.proofs.reading.take_lines.Given as goal

abbrev pub invariant-loop-read : goal.invariant-loop-read
invariant-loop-read g l =
    HasRead g.D.Disk.is_modelled g.D.Disk.bytes g.D.Disk.image g.D.Disk.ledger l.era l.held l.read l.fn.disk l.disk (lines_of l.lines.items)

abbrev pub decreases-loop-read : goal.decreases-loop-read
decreases-loop-read g l = l.held - l.read
