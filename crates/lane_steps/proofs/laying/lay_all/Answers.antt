use Rattle.std.proofs.Common.{◌∙◌, ap, map, take, fold}
use Rattle.log_history.specs.Effects.{with_change}
use Rattle.txn_table.specs.Table.{change_of}
use Rattle.space_pages.specs.Layout.{page_bytes}
use Rattle.lane_steps.proofs.PageLemmas.{folds_more, patch_at}
use Rattle.lane_steps.proofs.laying.lay_all.Goals as goal

pub loop-change-preserved : goal.loop-change-preserved
loop-change-preserved c was is lie =
    let i = c.loop-change.change-index in
    let so_far = fold (with_change c.args.space c.args.number) was (map change_of (take i c.args.changes.now)) in
    c.lay_own.ensures so_far (c.loop-change.invariant was is lie) (patch_at c.args.changes.now i c.change-item.result c.loop-change-test.true c.change-item.is lie)
    ∙ ap (page_bytes c.args.space c.args.number) (folds_more c.args.space c.args.number c.args.changes.now i c.change-item.result was c.loop-change-test.true c.change-item.is)
