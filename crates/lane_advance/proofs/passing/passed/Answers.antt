use Rattle.std.proofs.Common.{◌∙◌, ◌≤◌, length, map, sym, ap, arith}
use Rattle.std.proofs.lemmas.List.{length-map}
use Rattle.std.proofs.Math.ListN.{drop_of_length-le}
use Rattle.txn_table.specs.Table.{change_of}
use Rattle.lane_ways.specs.Ways.{changes_behind}
use Rattle.lane_advance.proofs.PassLemmas.{one_passed, stops_here}
use Rattle.lane_advance.proofs.passing.passed.Goals as goal

pub returns-then-upto-change-clause-behind : goal.returns-then-upto-change-clause-behind
returns-then-upto-change-clause-behind c rises =
    stops_here c.args.changes.now c.loop-i.i c.index-changes-i.result c.loop-i-test.true c.index-changes-i.is c.args.upto c.if-upto-change.true rises ∙ sym c.loop-i.invariant

pub loop-i-preserved : goal.loop-i-preserved
loop-i-preserved c =
    c.loop-i.invariant ∙ one_passed c.args.changes.now c.loop-i.i c.index-changes-i.result c.loop-i-test.true c.index-changes-i.is c.args.upto c.if-upto-change.false

pub returns-clause-behind : goal.returns-clause-behind
returns-clause-behind c rises =
    let list = map change_of c.args.changes.now in
    let all : length list ≤ length c.args.changes.now = omega (arith, length-map c.args.changes.now change_of) in
    let end : length list ≤ c.loop-i.i = omega (arith, all, c.loop-i-test.false) in
    drop_of_length-le list all ∙ sym (c.loop-i.invariant ∙ ap (changes_behind c.args.upto) (drop_of_length-le list end))
