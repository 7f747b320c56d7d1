use Rattle.std.proofs.Common.{◌≡◌, take}
use Rattle.site_disk.specs.Past.{contents, Pending}
use Rattle.site_disk.specs.Recorded.{past_of}
use Rattle.site_disk.proofs.memory.crash.torn_bytes.Given as goal

abbrev pub invariant-loop-i : goal.invariant-loop-i
invariant-loop-i l = record {
  whole_is : l.whole.items ≡ contents l.start (past_of l.pieces (take l.i l.calls));
  torn_is : Pending l.start (past_of l.pieces (take l.i l.calls)) l.torn.items;
}
