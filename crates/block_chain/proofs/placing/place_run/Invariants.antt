use Rattle.std.proofs.Common.{◌≢◌, ℕ, ◌+◌, ◌<◌, ◌≤◌, List, ◌++◌, vec_len}
use Rattle.std.specs.Vec.{vec_capacity}
use Rattle.std.specs.Option.{ForSome}
use Rattle.block_chain.specs.Blocks.{ascending}
use Rattle.block_chain.specs.Placing.{link_of, ArePlaced, PlacesMore}
use Rattle.block_chain.proofs.placing.place_run.Given as goal

abbrev pub invariant-loop-placed : goal.invariant-loop-placed
invariant-loop-placed l = record {
  room : l.blocks ≤ vec_capacity l.next;
  filled : vec_len l.next ≤ l.blocks;
  marked : ForSome l.last (λ b. link_of l.next.items b ≢ 4294967295);
  fits : 0 < l.placed → l.run.first + l.placed ≤ l.blocks;
  placed : (done own : List ℕ) → ArePlaced l.blocks l.fn.next.items done own l.fn.before → PlacesMore l.blocks l.fn.next.items l.next.items done (own ++ ascending l.run.first l.placed) l.last;
}
