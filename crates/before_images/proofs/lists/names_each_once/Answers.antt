use Rattle.std.proofs.Common.{ℕ, ◌+◌, ◌-◌, sym, ◌∙◌, ap, arith}
use Rattle.before_images.specs.Saved.{are_distinct, is_among, numbers}
use Rattle.before_images.specs.ListLaws.{numbers-more, numbers-end, are_distinct-none, are_distinct-twice, are_distinct-once}
use Rattle.before_images.proofs.lists.names_each_once.Goals as goal

pub returns-then-is_named : goal.returns-then-is_named
returns-then-is_named c =
    sym (c.loop-i.invariant ∙ ap are_distinct (numbers-more c.loop-i.i c.args.count c.args.head.now (omega arith))
    ∙ are_distinct-twice _ _ (ap (λ (p : ℕ). is_among p (numbers (c.loop-i.i + 1) (c.args.count - (c.loop-i.i + 1)) c.args.head.now)) (sym c.page_at.ensures) ∙ sym c.is_named.ensures ∙ c.if-is_named.true))

pub loop-i-preserved : goal.loop-i-preserved
loop-i-preserved c =
    c.loop-i.invariant ∙ ap are_distinct (numbers-more c.loop-i.i c.args.count c.args.head.now (omega arith))
    ∙ are_distinct-once _ _ (ap (λ (p : ℕ). is_among p (numbers (c.loop-i.i + 1) (c.args.count - (c.loop-i.i + 1)) c.args.head.now)) (sym c.page_at.ensures) ∙ sym c.is_named.ensures ∙ c.if-is_named.false)

pub returns : goal.returns
returns c = sym (c.loop-i.invariant ∙ ap are_distinct (numbers-end c.loop-i.i c.args.count (c.args.count - c.loop-i.i) c.args.head.now (omega arith) (omega arith)) ∙ are_distinct-none)
