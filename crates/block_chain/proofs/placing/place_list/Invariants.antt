use Rattle.std.proofs.Common.{◌≢◌, ℕ, ◌≤◌, List, [], None, take, vec_len}
use Rattle.std.specs.Vec.{vec_capacity}
use Rattle.std.specs.Option.{ForSome}
use Rattle.block_chain.specs.Blocks.{blocks_of_runs}
use Rattle.block_chain.specs.Placing.{link_of, ArePlaced, PlacesMore}
use Rattle.block_chain.proofs.placing.place_list.Given as goal

abbrev pub invariant-loop-run : goal.invariant-loop-run
invariant-loop-run l = record {
  room : l.blocks ≤ vec_capacity l.next;
  filled : vec_len l.next ≤ l.blocks;
  marked : ForSome l.last (λ b. link_of l.next.items b ≢ 4294967295);
  placed : (done : List ℕ) → ArePlaced l.blocks l.fn.next.items done [] None → PlacesMore l.blocks l.fn.next.items l.next.items done (blocks_of_runs (take l.run-index l.runs)) l.last;
}
