use Rattle.std.proofs.Common.{◌≡◌, ℕ, ◌<◌, length, List, [], ◌∷◌, arith, ap, sym, subst, ◌∙◌}
use Rattle.std.proofs.lemmas.List.{with_items_is}
use Rattle.std.specs.Vec.{with_items}
use Rattle.block_chain.specs.Table.{Table, KeepsOthers, MovesFirst}
use Rattle.block_chain.specs.Layout.{joined, joined_links, table_of}
use Rattle.block_chain.specs.declared.lists.BlockList.{BlockList}
use Rattle.block_chain.specs.BlocksLaws.{ArePartition-taken}
use Rattle.block_chain.proofs.TakeLemmas.{HasTaken, single, front_chain, single_chain, single_once, single_fits, laid_out_after, free_after, list_after, own_after, others_after}
use Rattle.block_chain.proofs.table.Chains.take_first.Goals as goal

taken : (c : goal.After-deref_mut) → HasTaken c.args.self.now c.args.list.now c.in_ok-block.block c.self.inside.blocks c.self.inside.next.cap c.self.inside.next.items c.self.inside.holes c.self.inside.returned
taken c = record {
  laid_out = c.self.invariant;
  own = c.requires.own;
  others = subst (λ (t : Table). KeepsOthers c.args.self.now t []) (sym c.self.view_is) c.in_ok-block.ensures.others;
  free = c.in_ok-block.ensures.some ∙ ap (λ (t : Table). c.in_ok-block.block ∷ t.free) (sym c.self.view_is);
  same_blocks = ap (λ (t : Table). t.blocks) c.self.view_is ∙ c.in_ok-block.ensures.blocks;
  within = subst (λ (t : Table). c.in_ok-block.block < length t.links) (sym c.self.view_is) c.in_ok-block.ensures.within;
  free_sound = c.in_ok-block.ensures.sound;
}

pub append-requires-clause-chain : goal.append-requires-clause-chain
append-requires-clause-chain c = rw c.deref_mut.ensures.value (front_chain (taken c))

pub append-requires-clause-behind : goal.append-requires-clause-behind
append-requires-clause-behind c = rw (c.deref_mut.ensures.value, c.single-taken.ensures) (single_chain (taken c))

pub append-requires-clause-once : goal.append-requires-clause-once
append-requires-clause-once c = rw (c.deref_mut.ensures.value, c.single-taken.ensures) (single_once (taken c))

pub append-requires-clause-fits : goal.append-requires-clause-fits
append-requires-clause-fits c = rw c.single-taken.ensures (omega (arith, single_fits (taken c)))

taken_then : (c : goal.After-self-1) → HasTaken c.args.self.now c.args.list.now c.in_ok-block.block c.self.inside.blocks c.self.inside.next.cap c.self.inside.next.items c.self.inside.holes c.self.inside.returned
taken_then c = record {
  laid_out = c.self.invariant;
  own = c.requires.own;
  others = subst (λ (t : Table). KeepsOthers c.args.self.now t []) (sym c.self.view_is) c.in_ok-block.ensures.others;
  free = c.in_ok-block.ensures.some ∙ ap (λ (t : Table). c.in_ok-block.block ∷ t.free) (sym c.self.view_is);
  same_blocks = ap (λ (t : Table). t.blocks) c.self.view_is ∙ c.in_ok-block.ensures.blocks;
  within = subst (λ (t : Table). c.in_ok-block.block < length t.links) (sym c.self.view_is) c.in_ok-block.ensures.within;
  free_sound = c.in_ok-block.ensures.sound;
}

-- the links afterwards
written : (c : goal.After-self-1) → (with_items c.self.inside.next c.append.new.next).items ≡ joined_links c.self.inside.next.items c.args.list.now (single c.in_ok-block.block)
written c =
    let same_length : length c.append.new.next ≡ c.self.inside.next.len = omega (arith, c.append.auto.next, c.deref_mut.ensures.len) in
    with_items_is c.self.inside.next c.append.new.next same_length ∙ c.append.ensures.links ∙ ap (λ (behind : BlockList). joined_links c.deref_mut.result.now c.args.list.now behind) c.single-taken.ensures
    ∙ ap (λ (ls : List ℕ). joined_links ls c.args.list.now (single c.in_ok-block.block)) c.deref_mut.ensures.value

pub invariant_of-self : goal.invariant_of-self
invariant_of-self c = rw (written c) (laid_out_after (taken_then c))

moved : (c : goal.After-self-1) → MovesFirst c.args.self.now (table_of c.self.inside.blocks (joined_links c.self.inside.next.items c.args.list.now (single c.in_ok-block.block)) c.self.inside.holes c.self.inside.returned)
    c.args.list.now (joined c.args.list.now (single c.in_ok-block.block)) c.in_ok-block.block
moved c = record {
  free = (taken_then c).free ∙ ap (λ (xs : List ℕ). c.in_ok-block.block ∷ xs) (sym (free_after (taken_then c)));
  list = list_after (taken_then c);
  blocks = (taken_then c).same_blocks;
}

pub returns-clause-moved : goal.returns-clause-moved
returns-clause-moved c = rw (written c, c.append.ensures.list, c.single-taken.ensures) (moved c)

pub returns-clause-parted : goal.returns-clause-parted
returns-clause-parted c = rw (written c, c.append.ensures.list, c.single-taken.ensures)
    (λ others are. ArePartition-taken _ _ _ _ _ _ others c.in_ok-block.block (moved c).blocks (moved c).free (moved c).list are)

pub returns-clause-own : goal.returns-clause-own
returns-clause-own c = rw (written c, c.append.ensures.list, c.single-taken.ensures) (own_after (taken_then c))

pub returns-clause-others : goal.returns-clause-others
returns-clause-others c = rw (written c) (others_after (taken_then c))
