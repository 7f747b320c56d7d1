use Rattle.std.proofs.Common.{◌≡◌, ◌≢◌, ◌<◌, length, sym, ◌∙◌, arith}
use Rattle.std.proofs.lemmas.List.{get_or_read}
use Rattle.block_chain.specs.Placing.{link_of}
use Rattle.block_chain.proofs.PlaceLemmas.{linked_within, PlacesBlock-behind}
use Rattle.block_chain.proofs.placing.place_block.Goals as goal

pub index_mut-requires-in-Some : goal.index_mut-requires-in-Some
index_mut-requires-in-Some c =
    let linked : link_of c.args.next.now.items c.in-Some.before ≢ 4294967295 = c.requires.before c.in-Some.before c.in-Some.is in
    omega (arith, linked_within c.reach.new.next.items c.in-Some.before (λ e. linked (sym (c.reach.ensures.links c.in-Some.before) ∙ e)), c.reach.new.next.ok.0)

pub returns-in-Some-clause-placed : goal.returns-in-Some-clause-placed
returns-in-Some-clause-placed c =
    let linked : link_of c.args.next.now.items c.in-Some.before ≢ 4294967295 = c.requires.before c.in-Some.before c.in-Some.is in
    let within : c.args.block < length c.reach.new.next.items = omega (arith, c.reach.ensures.reached, c.reach.new.next.ok.0) in
    let hole : link_of c.args.next.now.items c.args.block ≡ 4294967295
    = sym (c.reach.ensures.links c.args.block) ∙ sym (get_or_read c.reach.new.next.items c.args.block c.index.result.now within c.index.ensures 4294967295) ∙ c.if-index.false in
    rw c.in-Some.is (PlacesBlock-behind c.args.blocks c.args.next.now.items c.reach.new.next.items c.in-Some.before c.args.block c.if-block-blocks.false c.reach.ensures.links hole within linked)
