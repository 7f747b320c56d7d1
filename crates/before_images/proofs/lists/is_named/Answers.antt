use Rattle.std.proofs.Common.{◌-◌, sym, ◌∙◌, ap, arith}
use Rattle.before_images.specs.Saved.{is_among}
use Rattle.before_images.specs.ListLaws.{numbers-more, numbers-end, is_among-none, is_among-found, is_among-other}
use Rattle.before_images.proofs.lists.is_named.Goals as goal

pub returns-then-page_at-page : goal.returns-then-page_at-page
returns-then-page_at-page c =
    sym (c.loop-i.invariant ∙ ap (is_among c.args.page) (numbers-more c.loop-i.i c.args.count c.args.head.now (omega arith))
    ∙ is_among-found c.args.page _ _ (sym c.page_at.ensures ∙ c.if-page_at-page.true))

pub loop-i-preserved : goal.loop-i-preserved
loop-i-preserved c =
    c.loop-i.invariant ∙ ap (is_among c.args.page) (numbers-more c.loop-i.i c.args.count c.args.head.now (omega arith))
    ∙ is_among-other c.args.page _ _ (λ same. c.if-page_at-page.false (c.page_at.ensures ∙ same))

pub returns : goal.returns
returns c = sym (c.loop-i.invariant ∙ ap (is_among c.args.page) (numbers-end c.loop-i.i c.args.count (c.args.count - c.loop-i.i) c.args.head.now (omega arith) (omega arith)) ∙ is_among-none c.args.page)
