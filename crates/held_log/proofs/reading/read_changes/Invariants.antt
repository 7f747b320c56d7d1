use Rattle.std.proofs.Common.{◌≡◌, ℕ, ◌*◌, IsTrue}
use Rattle.site_disk.specs.Seen.{seen}
use Rattle.log_files.specs.Files.{LogFiles}
use Rattle.log_scan.proofs.ScanLemmas.{HasRead}
use Rattle.logical_log.specs.Rings.{disk_of, with_disk, IsOpen, Stands, TellsOf}
use Rattle.held_log.proofs.FilesLemmas.{PartRead}
use Rattle.held_log.proofs.reading.read_changes.Given as goal

abbrev pub invariant-loop-i : goal.invariant-loop-i
invariant-loop-i g l = record {
  opened : IsOpen l.log;
  told : (files : LogFiles) → TellsOf files l.fn.log → TellsOf files l.log;
  value : l.log ≡ with_disk l.fn.log (disk_of l.log);
  read : HasRead l.era (32768 * l.i) (g.D.Disk.bytes (disk_of l.fn.log)) (g.D.Disk.bytes (disk_of l.log)) (g.D.Disk.image (disk_of l.fn.log)) (g.D.Disk.image (disk_of l.log))
      (g.D.Disk.ledger (disk_of l.fn.log)) (g.D.Disk.ledger (disk_of l.log));
  stands : IsTrue g.D.Disk.is_modelled → (site : ℕ) (files : LogFiles) → Stands site files (seen g.D.Disk (disk_of l.fn.log)) l.fn.log
      → Stands site files (seen g.D.Disk (disk_of l.log)) l.log;
  part : IsTrue g.D.Disk.is_modelled → (site : ℕ) (files : LogFiles) → Stands site files (seen g.D.Disk (disk_of l.fn.log)) l.fn.log
      → PartRead files l.i l.reader;
}
