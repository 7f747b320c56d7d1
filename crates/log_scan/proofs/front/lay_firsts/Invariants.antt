use Rattle.std.proofs.Common.{◌≡◌, ◌+◌, ◌*◌, ◌≤◌, drop, length}
use Rattle.log_files.specs.Files.{firsts_by, laid, total}
use Rattle.log_scan.proofs.front.lay_firsts.Given as goal

abbrev pub invariant-loop-i : goal.invariant-loop-i
invariant-loop-i l = record {
  laid : laid l.firsts (l.oldest + l.i) l.next (drop l.i l.counts) ≡ firsts_by l.oldest l.first l.counts;
  places : length l.firsts ≡ 8;
  next : l.next + total (drop l.i l.counts) ≡ l.first + total l.counts;
  bound : l.next ≤ l.first + 256 * l.i;
}
