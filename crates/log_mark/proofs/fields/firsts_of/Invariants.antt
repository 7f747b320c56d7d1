use Rattle.std.proofs.Common.{◌≡◌, ◌*◌, length, take}
use Rattle.std.specs.List.{flat_map}
use Rattle.std.specs.Int.{w64, to_be_bytes}
use Rattle.log_mark.proofs.fields.firsts_of.Given as goal

abbrev pub invariant-loop-i : goal.invariant-loop-i
invariant-loop-i l = (take (8 * l.i) l.bytes ≡ flat_map (to_be_bytes w64) (take l.i l.firsts)) × (length l.bytes ≡ 64)
