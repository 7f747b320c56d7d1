-- What a contract sees of a table of chains, and of a list of blocks in it.
use Rattle.std.specs.Prelude.{◌≡◌, ℕ, zero, suc, List, [], ◌∷◌, ◌++◌, slice_index_or}
use Rattle.block_chain.specs.Blocks.{AreSound, AreApart, last_or}
use Rattle.block_chain.specs.declared.lists.BlockList.{BlockList}

-- the number of blocks, the link of each block that was ever taken, and the free blocks in the order
-- in which they are taken
pub record Table : Type 0 where
  pub blocks : ℕ
  pub links : List ℕ
  pub free : List ℕ

-- so many blocks, from the first on, each linked to the next
abbrev pub chain : List ℕ → ℕ → ℕ → List ℕ
chain links block zero = []
chain links block (suc count) = block ∷ chain links (slice_index_or links block 0) count

-- the blocks of a list, by the links
abbrev pub linked_blocks : List ℕ → BlockList → List ℕ
linked_blocks links list = chain links list.head list.len

-- the blocks of a list
abbrev pub blocks_of : Table → BlockList → List ℕ
blocks_of table list = linked_blocks table.links list

-- the list is one of this table's: its blocks are distinct, none is free, and the links lead from its
-- head to its tail
pub record IsListOf (table : Table) (list : BlockList) : Type 0 where
  pub sound : AreSound table.blocks (blocks_of table list)
  pub taken : AreApart (blocks_of table list) table.free
  pub ends : last_or list.tail (blocks_of table list) ≡ list.tail

-- these blocks, in this order, are a list of the table
abbrev pub AreListed : Table → List ℕ → Type 0
AreListed table xs = (list : BlockList) × IsListOf table list × (blocks_of table list ≡ xs)

-- a list of the old table that has no block in common with these is one of the new table's, with the
-- same blocks
abbrev pub KeepsOthers : Table → Table → List ℕ → Type 0
KeepsOthers old new own = (other : BlockList) → IsListOf old other → AreApart own (blocks_of old other)
    → IsListOf new other × (blocks_of new other ≡ blocks_of old other)

-- the first free block goes to the end of a list
pub record MovesFirst (old new : Table) (before after : BlockList) (block : ℕ) : Type 0 where
  pub free : old.free ≡ block ∷ new.free
  pub list : blocks_of new after ≡ blocks_of old before ++ block ∷ []
  pub blocks : new.blocks ≡ old.blocks
