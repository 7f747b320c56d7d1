use Rattle.std.proofs.Common.{◌≡◌, take}
use Rattle.gated_slots.specs.Slots.{used_of}
use Rattle.log_scan.proofs.counting.last_open.Given as goal

abbrev pub invariant-loop-i : goal.invariant-loop-i
invariant-loop-i l = l.used ≡ used_of (take l.i l.gates)
