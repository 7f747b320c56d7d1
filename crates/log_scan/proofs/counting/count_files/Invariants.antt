use Rattle.std.proofs.Common.{◌≡◌, ◌+◌, ◌-◌, vec_len, vec_capacity, ◌≤◌, ◌*◌, length, IsTrue}
use Rattle.std.specs.List.{AllByRecursion}
use Rattle.log_scan.specs.Fronts.{counts_from}
use Rattle.log_scan.proofs.ScanLemmas.{HasRead}
use Rattle.log_scan.proofs.counting.count_files.Given as goal

abbrev pub invariant-loop-file : goal.invariant-loop-file
invariant-loop-file g l = record {
  within : l.oldest ≤ l.file;
  upto : l.file ≤ l.current;
  len : vec_len l.counts ≡ l.file - l.oldest;
  room : vec_capacity l.counts ≡ l.current - l.oldest + 1;
  count : length l.counts.items ≡ l.file - l.oldest;
  each : AllByRecursion (λ count. count ≤ 256) l.counts.items;
  used : IsTrue g.D.Disk.is_modelled → l.counts.items ≡ counts_from l.oldest (l.file - l.oldest) (g.D.Disk.bytes l.fn.disk);
  read : HasRead l.era (256 * (l.file - l.oldest)) (g.D.Disk.bytes l.fn.disk) (g.D.Disk.bytes l.disk) (g.D.Disk.image l.fn.disk) (g.D.Disk.image l.disk)
      (g.D.Disk.ledger l.fn.disk) (g.D.Disk.ledger l.disk);
}
