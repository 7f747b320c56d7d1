-- The live objects of a volume.
use Rattle.std.specs.Prelude.{ℕ, List, ◌++◌, flat_map}
use Rattle.std.specs.List.{AllByRecursion}
use Rattle.block_chain.specs.Blocks.{ArePartition, blocks_of_runs}
use Rattle.block_chain.specs.declared.runs.Run.{Run}
use Rattle.object_volume.specs.Volumes.{blocks_in, free_of, blocks_sent, IsLive}
use Rattle.object_volume.specs.declared.volume.Volume.{Volume}

-- the blocks of objects, each by its runs, in order
abbrev pub blocks_of_all : List (List Run) → List ℕ
blocks_of_all objects = flat_map blocks_of_runs objects

module _ {D : Type 0} where
  -- these are the live objects of the volume: each block is free, is of the object that is being sent, or is one of theirs
  pub record Holds (volume : Volume D) (objects : List (List Run)) : Type 0 where
    pub each : AllByRecursion (IsLive volume) objects
    pub parted : ArePartition (blocks_in volume) (free_of volume ++ (blocks_sent volume ++ blocks_of_all objects))
