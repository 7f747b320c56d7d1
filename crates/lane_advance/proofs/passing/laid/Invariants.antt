use Rattle.std.proofs.Common.{◌≡◌, ◌+◌, length, map, take}
use Rattle.txn_table.specs.Table.{change_of}
use Rattle.lane_steps.specs.Choices.{own}
use Rattle.lane_advance.proofs.passing.laid.Given as goal

abbrev pub invariant-loop-i : goal.invariant-loop-i
invariant-loop-i l = length (own l.space l.count (take l.i (map change_of l.changes))) + l.left ≡ l.part
