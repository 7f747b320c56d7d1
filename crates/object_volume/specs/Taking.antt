-- Blocks that a list of a table of chains takes from the free chain.
use Rattle.std.specs.Prelude.{◌≡◌, ℕ, ◌*◌, List, ◌++◌, length, Bool, IsTrue}
use Rattle.block_chain.specs.Blocks.{ArePartition}
use Rattle.block_chain.specs.Table.{Table, blocks_of, IsListOf, KeepsOthers}
use Rattle.block_chain.specs.declared.lists.BlockList.{BlockList}
use Rattle.object_volume.specs.Objects.{places, bytes_at, Spares}

-- the first free blocks go to the end of a list, and other lists stay
pub record Takes (old new : Table) (before after : BlockList) (taken : List ℕ) : Type 0 where
  pub blocks : new.blocks ≡ old.blocks
  pub free : old.free ≡ taken ++ new.free
  pub list : blocks_of new after ≡ blocks_of old before ++ taken
  pub own : IsListOf new after
  pub others : KeepsOthers old new (blocks_of old before)
  pub parted : (others : List ℕ) → ArePartition old.blocks (old.free ++ (blocks_of old before ++ others))
      → ArePartition new.blocks (new.free ++ (blocks_of new after ++ others))

-- a piece of whole blocks stands in blocks that a list took, and other bytes of the volume stay
pub record PutsBlocks (tells : Bool) (was is : List ℕ) (old new : Table) (before after : BlockList) (piece : List ℕ) : Type 0 where
  pub taken : List ℕ
  pub takes : Takes old new before after taken
  pub even : length piece ≡ 4096 * length taken
  pub stands : IsTrue tells → bytes_at is (places taken) ≡ piece
  pub spared : IsTrue tells → Spares taken (length was) was is

-- so many of the first free blocks go to the end of a list
pub record TakesFor (old new : Table) (before after : BlockList) (count : ℕ) : Type 0 where
  pub taken : List ℕ
  pub takes : Takes old new before after taken
  pub counted : length taken ≡ count
