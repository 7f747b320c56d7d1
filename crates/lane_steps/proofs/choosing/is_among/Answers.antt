use Rattle.std.proofs.Common.{sym, ◌∙◌, ap}
use Rattle.std.proofs.Math.ListN.{drop_of_length-le}
use Rattle.before_images.specs.Saved.{is_among}
use Rattle.before_images.specs.ListLaws.{is_among-none}
use Rattle.lane_steps.proofs.ChoiceLemmas.{found_here, not_here}
use Rattle.lane_steps.proofs.choosing.is_among.Goals as goal

pub returns-then-page-other : goal.returns-then-page-other
returns-then-page-other c = sym (c.loop-other.invariant ∙ found_here c.args.page c.args.pages.now c.loop-other.other-index c.loop-other-test.true c.if-page-other.true)

pub loop-other-preserved : goal.loop-other-preserved
loop-other-preserved c = c.loop-other.invariant ∙ not_here c.args.page c.args.pages.now c.loop-other.other-index c.loop-other-test.true c.if-page-other.false

pub returns : goal.returns
returns c = sym (c.loop-other.invariant ∙ ap (is_among c.args.page) (drop_of_length-le c.args.pages.now c.loop-other-test.false) ∙ is_among-none c.args.page)
