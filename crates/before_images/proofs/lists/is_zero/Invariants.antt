use Rattle.std.proofs.Common.{◌≡◌, drop}
use Rattle.before_images.specs.Saved.{all_zero}
use Rattle.before_images.proofs.lists.is_zero.Given as goal

abbrev pub invariant-loop-byte : goal.invariant-loop-byte
invariant-loop-byte l = all_zero l.bytes ≡ all_zero (drop l.byte-index l.bytes)
