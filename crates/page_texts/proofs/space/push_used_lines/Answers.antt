use Rattle.std.proofs.Common.{rules, arith, ◌≤◌, ◌<◌, length}
use Rattle.page_texts.proofs.LineLemmas.{lines_added, lines_ended}
use Rattle.page_texts.proofs.space.push_used_lines.Goals as goal

pub loop-index-preserved : goal.loop-index-preserved
loop-index-preserved c =
    lines_added _ _ _ _ _ _ _ (let lt : c.loop-index.index < length c.args.pages.now.pages = omega (arith, c.loop-index-test.true, c.len-index-end.ensures) in lt)
    c.stamp.ensures c.in_ok-push_used_line.ensures c.loop-index.invariant

pub returns : goal.returns
returns c =
    lines_ended _ _ _ _ _ (let le : length c.args.pages.now.pages ≤ c.loop-index.index = omega (arith, c.loop-index-test.false, c.len-index-end.ensures) in le)
    c.loop-index.invariant
