use Rattle.std.proofs.Common.{◌≡◌, ℕ, ◌<◌, length, arith, [], ◌∷◌, ◌++◌, refl, sym, ap, ◌∙◌}
use Rattle.block_chain.specs.Layout.{free_blocks}
use Rattle.block_chain.specs.Table.{linked_blocks}
use Rattle.block_chain.proofs.LayoutLemmas.{block_within, AreSound-free_blocks, IsLaidOut-append, free_blocks-append, KeepsOthers-append}
use Rattle.block_chain.proofs.table.Chains.take_free.Goals as goal

pub returns-in-Some-clause-within : goal.returns-in-Some-clause-within
returns-in-Some-clause-within c =
    block_within c.self.inside.next.items c.self.inside.holes c.in-Some.block (linked_blocks c.self.inside.next.items c.pop_first.new.self) c.self.invariant.hole_chain
    (rw c.deref.ensures.value at c.in-Some.ensures.some)

-- a block is left that has no link
more : (c : goal.After-push_reserved) → length c.self.inside.next.items < c.self.inside.blocks
more c = omega (arith, c.if-fresh-self.true, c.len-fresh.ensures, c.self.inside.next.ok.0)

no_hole : (c : goal.After-push_reserved) → c.self.inside.holes.len ≡ 0
no_hole c = c.in_default.ensures.none.0 refl

fresh_is : (c : goal.After-push_reserved) → c.len-fresh.result ≡ length c.self.inside.next.items
fresh_is c = omega (arith, c.len-fresh.ensures, c.self.inside.next.ok.0)

pub invariant_of-self-then-fresh-self : goal.invariant_of-self-then-fresh-self
invariant_of-self-then-fresh-self c =
    rw (c.push_reserved.ensures.items, c.in_default.ensures.kept)
    (IsLaidOut-append c.self.inside.blocks c.self.inside.next.cap c.self.inside.next.items c.self.inside.holes c.self.inside.returned c.len-fresh.result c.push_reserved.new.self.cap c.self.invariant (more c) c.push_reserved.ensures.capacity)

pub returns-then-fresh-self-clause-some : goal.returns-then-fresh-self-clause-some
returns-then-fresh-self-clause-some c =
    rw (c.push_reserved.ensures.items, c.in_default.ensures.kept, ← c.self.view_is)
    (free_blocks-append c.self.inside.blocks c.self.inside.next.cap c.self.inside.next.items c.self.inside.holes c.self.inside.returned c.len-fresh.result c.self.invariant (more c) (no_hole c)
    ∙ ap (λ (n : ℕ). n ∷ free_blocks c.self.inside.blocks (c.self.inside.next.items ++ c.len-fresh.result ∷ []) c.self.inside.holes c.self.inside.returned) (sym (fresh_is c)))

pub returns-then-fresh-self-clause-others : goal.returns-then-fresh-self-clause-others
returns-then-fresh-self-clause-others c =
    rw (c.push_reserved.ensures.items, c.in_default.ensures.kept, ← c.self.view_is)
    (KeepsOthers-append c.self.inside.blocks c.self.inside.next.cap c.self.inside.next.items c.self.inside.holes c.self.inside.returned c.len-fresh.result c.self.invariant (more c) (no_hole c))

pub returns-clause-within : goal.returns-clause-within
returns-clause-within c =
    block_within c.self.inside.next.items c.self.inside.returned c.in_ok-block.block (linked_blocks c.self.inside.next.items c.pop_first-2.new.self) c.self.invariant.returned_chain
    (rw c.deref-2.ensures.value at c.in_ok-block.ensures.some)

pub returns-in-Some-clause-sound : goal.returns-in-Some-clause-sound
returns-in-Some-clause-sound c = rw (← c.self.view_is) (AreSound-free_blocks c.self.inside.blocks c.self.inside.next.cap c.self.inside.next.items c.self.inside.holes c.self.inside.returned c.self.invariant)

pub returns-then-fresh-self-clause-sound : goal.returns-then-fresh-self-clause-sound
returns-then-fresh-self-clause-sound c = rw (← c.self.view_is) (AreSound-free_blocks c.self.inside.blocks c.self.inside.next.cap c.self.inside.next.items c.self.inside.holes c.self.inside.returned c.self.invariant)
