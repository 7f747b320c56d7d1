use Rattle.std.proofs.Common.{◌-◌, sym, ◌∙◌, ap, arith}
use Rattle.before_images.specs.Saved.{are_below}
use Rattle.before_images.specs.ListLaws.{numbers-more, numbers-end, are_below-none, are_below-past, are_below-more}
use Rattle.before_images.proofs.lists.names_below.Goals as goal

pub returns-then-page_at-limit : goal.returns-then-page_at-limit
returns-then-page_at-limit c =
    sym (c.loop-i.invariant ∙ ap (are_below c.args.limit) (numbers-more c.loop-i.i c.args.count c.args.head.now (omega arith))
    ∙ are_below-past c.args.limit _ _ (omega (arith, c.page_at.ensures, c.if-page_at-limit.true)))

pub loop-i-preserved : goal.loop-i-preserved
loop-i-preserved c =
    c.loop-i.invariant ∙ ap (are_below c.args.limit) (numbers-more c.loop-i.i c.args.count c.args.head.now (omega arith))
    ∙ are_below-more c.args.limit _ _ (omega (arith, c.page_at.ensures, c.if-page_at-limit.false))

pub returns : goal.returns
returns c = sym (c.loop-i.invariant ∙ ap (are_below c.args.limit) (numbers-end c.loop-i.i c.args.count (c.args.count - c.loop-i.i) c.args.head.now (omega arith) (omega arith)) ∙ are_below-none c.args.limit)
