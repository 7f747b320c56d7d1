use Rattle.std.proofs.Common.{◌≡◌, ◌+◌, ◌-◌, ◌++◌, ◌∷◌, [], Some, suc, subst, arith}
use Rattle.std.proofs.lemmas.Result.{err_from_is_err_and}
use Rattle.block_chain.specs.Blocks.{ascending}
use Rattle.block_chain.specs.Placing.{link_of, PlacesMore}
use Rattle.block_chain.proofs.PlaceLemmas.{ArePlaced-more, PlacesMore-then, RefusesFirst-behind, ascending-more, run_cut}
use Rattle.block_chain.proofs.placing.place_run.Goals as goal

pub returns-in_err-place_block-clause-placed : goal.returns-in_err-place_block-clause-placed
returns-in_err-place_block-clause-placed c done own are =
    let p = err_from_is_err_and c.from_residual.result c.from_residual.ensures.1 in
    rw (p.1, p.2, c.in_err-place_block.ensures.refused.0, run_cut own c.args.run.now.first c.args.run.now.count c.loop-placed.placed c.loop-placed-test.true)
    (RefusesFirst-behind c.args.blocks c.loop-placed.next.items done (own ++ ascending c.args.run.now.first c.loop-placed.placed) (ascending (suc (c.args.run.now.first + c.loop-placed.placed)) (c.args.run.now.count - suc c.loop-placed.placed)) c.loop-placed.last
    (c.args.run.now.first + c.loop-placed.placed) (c.loop-placed.invariant.placed done own are).placed c.in_err-place_block.ensures.refused.1)

pub loop-placed-preserved : goal.loop-placed-preserved
loop-placed-preserved c = record {
  room = c.place_block.ensures.room;
  filled = c.place_block.ensures.filled;
  marked = λ x e hole.
      let is : c.args.run.now.first + c.loop-placed.placed ≡ x = cc in
      let link : link_of c.place_block.new.next.items x ≡ c.args.run.now.first + c.loop-placed.placed
      = subst (λ n. link_of c.place_block.new.next.items n ≡ c.args.run.now.first + c.loop-placed.placed) is c.in_ok-place_block.ensures.placed.itself in
      omega (arith, link, hole, c.in_ok-place_block.ensures.placed.below);
  fits = λ some. omega (arith, c.in_ok-place_block.ensures.placed.below);
  placed = λ done own are.
      let before : PlacesMore c.args.blocks c.args.next.now.items c.loop-placed.next.items done (own ++ ascending c.args.run.now.first c.loop-placed.placed) c.loop-placed.last = c.loop-placed.invariant.placed done own are in
      rw (ascending-more own c.args.run.now.first c.loop-placed.placed)
      (PlacesMore-then c.args.blocks c.args.next.now.items c.loop-placed.next.items c.place_block.new.next.items done (own ++ ascending c.args.run.now.first c.loop-placed.placed) ((own ++ ascending c.args.run.now.first c.loop-placed.placed) ++ (c.args.run.now.first + c.loop-placed.placed) ∷ []) c.loop-placed.last (Some (c.args.run.now.first + c.loop-placed.placed)) before
      (ArePlaced-more c.args.blocks c.loop-placed.next.items c.place_block.new.next.items done (own ++ ascending c.args.run.now.first c.loop-placed.placed) c.loop-placed.last (c.args.run.now.first + c.loop-placed.placed) (omega arith) before.placed c.in_ok-place_block.ensures.placed));
}
