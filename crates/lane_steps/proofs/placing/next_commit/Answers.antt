use Rattle.std.proofs.Common.{◌∙◌, map, sym}
use Rattle.txn_table.specs.Table.{change_of}
use Rattle.lane_steps.specs.Choices.{own}
use Rattle.lane_steps.proofs.RunLemmas.{found_first, not_first}
use Rattle.lane_steps.proofs.placing.next_commit.Goals as goal

pub returns-then-is_own : goal.returns-then-is_own
returns-then-is_own c =
    found_first c.args.changes.now c.loop-next.next-index c.next-item.result c.loop-next-test.true c.next-item.is c.args.space c.args.count
    (own c.args.space c.args.count (map change_of c.args.changes.now)) (sym c.is_own.ensures ∙ c.if-is_own.true) c.loop-next.invariant

pub loop-next-preserved : goal.loop-next-preserved
loop-next-preserved c =
    not_first c.args.changes.now c.loop-next.next-index c.next-item.result c.loop-next-test.true c.next-item.is c.args.space c.args.count
    (own c.args.space c.args.count (map change_of c.args.changes.now)) (sym c.is_own.ensures ∙ c.if-is_own.false) c.loop-next.invariant
