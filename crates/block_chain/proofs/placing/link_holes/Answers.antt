use Rattle.std.proofs.Common.{◌≡◌, ◌<◌, length, get_or, sym, ◌∙◌, arith}
use Rattle.std.proofs.lemmas.List.{get_or_default}
use Rattle.block_chain.proofs.HoleLemmas.{hole_once, hole_fits, HasLinked-skipped, HasLinked-hole, HasLinked-others}
use Rattle.block_chain.proofs.placing.link_holes.Goals as goal
use Rattle.block_chain.proofs.placing.link_holes.Goals.{then-next-block, else-next-block}

within : (c : goal.Joined-next-block) → c.loop-block.block < length c.loop-block.next
within c = omega (arith, c.loop-block-test.true, c.loop-block.auto.next)

within_then : (c : goal.After-single) → c.loop-block.block < length c.loop-block.next
within_then c = omega (arith, c.loop-block-test.true, c.loop-block.auto.next)

pub append-requires-clause-once : goal.append-requires-clause-once
append-requires-clause-once c = rw c.single.ensures (hole_once c.loop-block.invariant)

pub append-requires-clause-fits : goal.append-requires-clause-fits
append-requires-clause-fits c = rw c.single.ensures (omega (arith, hole_fits c.loop-block.invariant (within_then c)))

pub loop-block-preserved : goal.loop-block-preserved
loop-block-preserved c =
    let read : get_or c.loop-block.next c.loop-block.block 4294967295 ≡ get_or c.loop-block.next c.loop-block.block 0 = get_or_default c.loop-block.next c.loop-block.block 4294967295 0 (within c) in
    elim c.if-next-block.branch [
      | then-next-block w ↦ rw (w.next-is, w.holes-is, w.append.ensures.links, w.append.ensures.list, w.single.ensures) (HasLinked-hole c.loop-block.invariant (within c) (read ∙ w.if-next-block.true))
      | else-next-block w ↦ rw (w.next-is, w.holes-is) (HasLinked-skipped c.loop-block.invariant (λ e. w.if-next-block.false (sym read ∙ e)))
    ]

pub returns-clause-others : goal.returns-clause-others
returns-clause-others c = HasLinked-others c.args.next.now c.loop-block.next c.loop-block.holes c.loop-block.block c.loop-block.invariant
