use Rattle.std.proofs.Common.{◌≡◌, ℕ, length, List, arith, ap, ◌∙◌}
use Rattle.std.proofs.lemmas.List.{with_items_is}
use Rattle.std.specs.Vec.{with_items}
use Rattle.block_chain.specs.Table.{Table, IsListOf, blocks_of}
use Rattle.block_chain.specs.Layout.{table_of, joined_links}
use Rattle.block_chain.specs.BlocksLaws.{ArePartition-given}
use Rattle.block_chain.proofs.LayoutLemmas.{lens_fit, IsChain-list, returned_once, IsLaidOut-joined, free_blocks-joined, KeepsOthers-joined}
use Rattle.block_chain.proofs.table.Chains.give_back.Goals as goal

-- the list, by the fields
own : (c : goal.After-deref_mut) → IsListOf (table_of c.self.inside.blocks c.self.inside.next.items c.self.inside.holes c.self.inside.returned) c.args.list
own c = rw c.self.view_is c.requires.own

pub append-requires-clause-behind : goal.append-requires-clause-behind
append-requires-clause-behind c = rw c.deref_mut.ensures.value (IsChain-list c.self.inside.blocks c.self.inside.next.cap c.self.inside.next.items c.self.inside.holes c.self.inside.returned c.args.list (own c))

pub append-requires-clause-once : goal.append-requires-clause-once
append-requires-clause-once c = rw c.deref_mut.ensures.value (returned_once c.self.inside.blocks c.self.inside.next.cap c.self.inside.next.items c.self.inside.holes c.self.inside.returned c.args.list c.self.invariant (own c))

pub append-requires-clause-fits : goal.append-requires-clause-fits
append-requires-clause-fits c =
    omega (
      arith,
      c.self.invariant.filled,
      lens_fit c.self.inside.next.items c.self.inside.returned c.args.list c.self.invariant.returned_chain
          (IsChain-list c.self.inside.blocks c.self.inside.next.cap c.self.inside.next.items c.self.inside.holes c.self.inside.returned c.args.list (own c))
          (returned_once c.self.inside.blocks c.self.inside.next.cap c.self.inside.next.items c.self.inside.holes c.self.inside.returned c.args.list c.self.invariant (own c)),
    )

-- the links afterwards
written : (c : goal.After-self-1) → (with_items c.self.inside.next c.append.new.next).items ≡ joined_links c.self.inside.next.items c.self.inside.returned c.args.list
written c =
    let same_length : length c.append.new.next ≡ c.self.inside.next.len = omega (arith, c.append.auto.next, c.deref_mut.ensures.len) in
    with_items_is c.self.inside.next c.append.new.next same_length ∙ c.append.ensures.links ∙ ap (λ (ls : List ℕ). joined_links ls c.self.inside.returned c.args.list) c.deref_mut.ensures.value

owned : (c : goal.After-self-1) → IsListOf (table_of c.self.inside.blocks c.self.inside.next.items c.self.inside.holes c.self.inside.returned) c.args.list
owned c = rw c.self.view_is c.requires.own

pub invariant_of-self : goal.invariant_of-self
invariant_of-self c = rw (written c, c.append.ensures.list) (IsLaidOut-joined c.self.inside.blocks c.self.inside.next.cap c.self.inside.next.items c.self.inside.holes c.self.inside.returned c.args.list c.self.invariant (owned c))

pub returns-clause-free : goal.returns-clause-free
returns-clause-free c = rw (written c, c.append.ensures.list, ← c.self.view_is) (free_blocks-joined c.self.inside.blocks c.self.inside.next.cap c.self.inside.next.items c.self.inside.holes c.self.inside.returned c.args.list c.self.invariant (owned c))

pub returns-clause-others : goal.returns-clause-others
returns-clause-others c = rw (written c, c.append.ensures.list, ← c.self.view_is) (KeepsOthers-joined c.self.inside.blocks c.self.inside.next.cap c.self.inside.next.items c.self.inside.holes c.self.inside.returned c.args.list c.self.invariant (owned c))

pub returns-clause-parted : goal.returns-clause-parted
returns-clause-parted c others are =
    ArePartition-given c.args.self.now.blocks _ c.args.self.now.free _ (blocks_of c.args.self.now c.args.list) others (ap (λ (t : Table). t.blocks) c.self.view_is) (returns-clause-free c) are
