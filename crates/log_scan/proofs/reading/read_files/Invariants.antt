use Rattle.std.proofs.Common.{◌+◌, ◌*◌, take}
use Rattle.log_files.specs.Files.{total}
use Rattle.log_scan.proofs.ScanLemmas.{HasRead}
use Rattle.log_scan.proofs.PartwayLemmas.{IsPartway}
use Rattle.log_scan.proofs.reading.read_files.Given as goal

abbrev pub invariant-loop-count : goal.invariant-loop-count
invariant-loop-count g l = record {
  part : IsPartway g.D.Disk.is_modelled l.marked l.counts (l.count-index + 1) (g.D.Disk.bytes l.fn.disk) l.held;
  read : HasRead l.era (128 * total (take (l.count-index + 1) l.counts)) (g.D.Disk.bytes l.fn.disk) (g.D.Disk.bytes l.disk) (g.D.Disk.image l.fn.disk) (g.D.Disk.image l.disk)
      (g.D.Disk.ledger l.fn.disk) (g.D.Disk.ledger l.disk);
}
