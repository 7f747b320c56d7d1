use Rattle.std.proofs.Common.{◌≡◌, ◌-◌, ◌^◌, min, take}
use Rattle.block_chain.specs.Blocks.{blocks_in as blocks_in_runs}
use Rattle.catalogue_replay.proofs.sums.blocks_in.Given as goal

abbrev pub invariant-loop-run : goal.invariant-loop-run
invariant-loop-run l = l.blocks ≡ min (blocks_in_runs (take l.run-index l.runs)) (2 ^ 64 - 1)
