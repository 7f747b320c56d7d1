use Rattle.std.proofs.Common.{◌≡◌, drop, map}
use Rattle.txn_table.specs.Table.{change_of}
use Rattle.lane_steps.specs.Choices.{own}
use Rattle.lane_steps.proofs.placing.next_commit.Given as goal

abbrev pub invariant-loop-next : goal.invariant-loop-next
invariant-loop-next l = own l.space l.count (map change_of l.changes) ≡ own l.space l.count (drop l.next-index (map change_of l.changes))
