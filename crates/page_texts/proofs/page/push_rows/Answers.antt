use Rattle.std.proofs.Common.{rules, arith}
use Rattle.page_texts.proofs.RowLemmas.{rows_added, rows_ended}
use Rattle.page_texts.proofs.page.push_rows.Goals as goal

-- src/page.rt:40:5
pub loop-i-preserved : goal.loop-i-preserved
loop-i-preserved c = rows_added _ _ _ _ _ c.loop-i-test.true c.in_ok-push_row.ensures c.loop-i.invariant

-- src/page.rt:36:1
pub returns : goal.returns
returns c = rows_ended _ _ _ _ c.loop-i-test.false c.loop-i.auto.i-end c.loop-i.invariant
