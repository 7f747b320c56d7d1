use Rattle.std.proofs.Common.{◌≡◌, ◌≢◌, ◌+◌, ◌<◌, ◌++◌, ◌∷◌, [], length, get_or, arith, ap, sym, refl}
use Rattle.std.proofs.lemmas.Bool.{false≢true}
use Rattle.std.proofs.lemmas.List.{get_or_read}
use Rattle.block_chain.specs.Table.{Table, blocks_of}
use Rattle.block_chain.proofs.RunLemmas.{walked_within, walked_next, HasWalked-longer, HasWalked-begun, HasWalked-fit}
use Rattle.block_chain.proofs.table.Chains.runs.Goals as goal

pub index-block-requires : goal.index-block-requires
index-block-requires c = omega (arith, walked_within c.self.inside.blocks c.self.inside.next.cap c.self.inside.next.items c.self.inside.holes c.self.inside.returned c.args.self.now c.args.list.now c.self.view_is c.requires.own c.loop-left.invariant, c.self.inside.next.ok.0)

-- the block that follows
next_is : (c : goal.Then-ends_before) → c.index-block.result.now ≡ get_or c.self.inside.next.items c.loop-left.block 0
next_is c =
    let within : c.loop-left.block < length c.self.inside.next.items
    = walked_within c.self.inside.blocks c.self.inside.next.cap c.self.inside.next.items c.self.inside.holes c.self.inside.returned c.args.self.now c.args.list.now c.self.view_is c.requires.own c.loop-left.invariant in
    get_or_read c.self.inside.next.items c.loop-left.block c.index-block.result.now within c.index-block.ensures 0

pub overflow_add-run : goal.overflow_add-run
overflow_add-run c =
    let below : c.index-block.result.now < c.args.self.now.blocks
    = c.requires.own.sound.below c.index-block.result.now (walked_next c.self.inside.next.items (blocks_of c.args.self.now c.args.list.now) c.loop-left.runs.items c.loop-left.run c.loop-left.block c.loop-left.left c.index-block.result.now c.loop-left-test.true (next_is c) c.loop-left.invariant) in
    omega (arith, below, ap (λ (t : Table). t.blocks) c.self.view_is, c.self.invariant.limit, c.if-ends_before.ensures.0 refl)

pub loop-left-preserved-then-ends_before : goal.loop-left-preserved-then-ends_before
loop-left-preserved-then-ends_before c =
    HasWalked-longer c.self.inside.next.items (blocks_of c.args.self.now c.args.list.now) c.loop-left.runs.items c.loop-left.run _ c.loop-left.block c.loop-left.left c.index-block.result.now
    c.loop-left-test.true (next_is c) (c.if-ends_before.ensures.0 refl) refl refl c.loop-left.invariant

pub loop-left-preserved : goal.loop-left-preserved
loop-left-preserved c =
    let within : c.loop-left.block < length c.self.inside.next.items
    = walked_within c.self.inside.blocks c.self.inside.next.cap c.self.inside.next.items c.self.inside.holes c.self.inside.returned c.args.self.now c.args.list.now c.self.view_is c.requires.own c.loop-left.invariant in
    let follows : c.index-block.result.now ≡ get_or c.self.inside.next.items c.loop-left.block 0
    = get_or_read c.self.inside.next.items c.loop-left.block c.index-block.result.now within c.index-block.ensures 0 in
    let elsewhere : c.index-block.result.now ≢ c.loop-left.run.first + c.loop-left.run.count = λ e. absurd (false≢true (c.if-ends_before.ensures.1 e)) in
    let pushed : c.push.new.self.items ≡ c.loop-left.runs.items ++ c.loop-left.run ∷ [] = rw (sym c.in_ok-map_err.ensures.variant) at c.push.ensures.items in
    rw (pushed, c.of_block-run-else-ends_before.ensures)
    (HasWalked-begun c.self.inside.next.items (blocks_of c.args.self.now c.args.list.now) c.loop-left.runs.items c.loop-left.run c.loop-left.block c.loop-left.left c.index-block.result.now
    c.loop-left-test.true follows elsewhere c.loop-left.invariant)

pub returns-clause-fit : goal.returns-clause-fit
returns-clause-fit c =
    let pushed : c.push-2.new.self.items ≡ c.loop-left.runs.items ++ c.loop-left.run ∷ [] = rw (sym c.in_ok-map_err-2.ensures.variant) at c.push-2.ensures.items in
    let blocks : c.self.inside.blocks ≡ c.args.self.now.blocks = ap (λ (t : Table). t.blocks) c.self.view_is in
    rw pushed
    (HasWalked-fit c.args.self.now.blocks c.self.inside.next.items (blocks_of c.args.self.now c.args.list.now) c.loop-left.runs.items c.loop-left.run c.loop-left.block c.loop-left.left
    (omega (arith, c.loop-left-test.false)) (omega (arith, blocks, c.self.invariant.limit)) c.requires.own.sound c.loop-left.invariant)
