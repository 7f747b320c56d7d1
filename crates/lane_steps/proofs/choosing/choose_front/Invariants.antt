use Rattle.std.proofs.Common.{◌≤◌, map, take}
use Rattle.txn_table.specs.Table.{change_of}
use Rattle.lane_steps.specs.ChoiceLaws.{TakesAll}
use Rattle.lane_steps.proofs.choosing.choose_front.Given as goal

abbrev pub invariant-loop-i : goal.invariant-loop-i
invariant-loop-i l = record {
  few : l.used ≤ 16;
  takes : TakesAll l.space l.count (take l.i (map change_of l.changes)) (take l.used l.pages);
}
