use Rattle.std.proofs.Common.{◌≡◌, map, drop}
use Rattle.txn_table.specs.Table.{change_of}
use Rattle.lane_ways.specs.Ways.{changes_behind}
use Rattle.lane_advance.proofs.passing.passed.Given as goal

abbrev pub invariant-loop-i : goal.invariant-loop-i
invariant-loop-i l = changes_behind l.upto (map change_of l.changes) ≡ changes_behind l.upto (drop l.i (map change_of l.changes))
