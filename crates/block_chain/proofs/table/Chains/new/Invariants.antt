use Rattle.std.proofs.Common.{◌≤◌, [], None, take, vec_len, Vec, Global}
use Rattle.std.specs.Vec.{vec_capacity}
use Rattle.std.specs.List.{AllByRecursion}
use Rattle.block_chain.specs.Blocks.{blocks_of_runs, blocks_of_lists}
use Rattle.block_chain.specs.Placing.{AreLinked, ArePlaced}
use Rattle.block_chain.specs.declared.runs.Run.{Run}
use Rattle.block_chain.proofs.table.Chains.new.Given as goal

abbrev pub invariant-loop-runs : goal.invariant-loop-runs
invariant-loop-runs l = record {
  room : l.blocks ≤ vec_capacity l.next;
  filled : vec_len l.next ≤ l.blocks;
  placed : ArePlaced l.blocks l.next.items (blocks_of_lists (take l.runs-index l.live)) [] None;
  linked : AllByRecursion (λ (runs : Vec Run Global). AreLinked l.next.items (blocks_of_runs runs.items)) (take l.runs-index l.live);
}
