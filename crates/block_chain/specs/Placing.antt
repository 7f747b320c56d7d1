-- How the lists that a table begins with are linked. No public clause cites this module.
use Rattle.std.specs.Prelude.{◌≡◌, ◌≢◌, ℕ, ◌<◌, ◌==◌, List, [], ◌∷◌, ◌++◌, Option, Some, None, Bool, slice_index_or}
use Rattle.block_chain.specs.Blocks.{times, AreSound, last_or, RefusesFirst}
use Rattle.block_chain.specs.declared.table.ChainFault.{ChainFault}
use Rattle.block_chain.specs.declared.table.ChainFault.TheVariants.{Overlap, OutOfMemory}

-- the block that a block is linked to, or the number that no block has where no list has the block
abbrev pub link_of : List ℕ → ℕ → ℕ
link_of links block = slice_index_or links block 4294967295

-- no list has the block
abbrev pub is_hole : List ℕ → ℕ → Bool
is_hole links block = link_of links block == 4294967295

-- a block that no list had comes behind the one before it
pub record PlacesBlock (blocks : ℕ) (old new : List ℕ) (before : Option ℕ) (block : ℕ) : Type 0 where
  pub below : block < blocks
  pub hole : link_of old block ≡ 4294967295
  pub itself : link_of new block ≡ block
  pub link : (b : ℕ) → before ≡ Some b → link_of new b ≡ block
  pub others : (b : ℕ) → b ≢ block → before ≢ Some b → link_of new b ≡ link_of old b

-- the first block, if there is one, is what a block is linked to
abbrev pub LeadsTo : List ℕ → ℕ → List ℕ → Type 0
LeadsTo links block [] = Unit {0}
LeadsTo links block (b ∷ bs) = link_of links block ≡ b

-- each block but the last is linked to the next
abbrev pub AreLinked : List ℕ → List ℕ → Type 0
AreLinked links [] = Unit {0}
AreLinked links (b ∷ bs) = LeadsTo links b bs × AreLinked links bs

-- the last block, if there is one
abbrev pub last_of : List ℕ → Option ℕ
last_of [] = None
last_of (b ∷ bs) = Some (last_or b bs)

-- the blocks of the lists that are done and of one under way have links, and no others have
pub record ArePlaced (blocks : ℕ) (links done own : List ℕ) (last : Option ℕ) : Type 0 where
  pub sound : AreSound blocks (done ++ own)
  pub marked : (b : ℕ) → 0 < times b (done ++ own) → link_of links b ≢ 4294967295
  pub holes : (b : ℕ) → times b (done ++ own) ≡ 0 → link_of links b ≡ 4294967295
  pub linked : AreLinked links own
  pub ends : last ≡ last_of own

-- these blocks keep their links
abbrev pub KeepsLinks : List ℕ → List ℕ → List ℕ → Type 0
KeepsLinks old new xs = (b : ℕ) → 0 < times b xs → link_of new b ≡ link_of old b

-- more blocks of the list under way were placed
pub record PlacesMore (blocks : ℕ) (old new done own : List ℕ) (last : Option ℕ) : Type 0 where
  pub placed : ArePlaced blocks new done own last
  pub kept : KeepsLinks old new done

-- the refused block is the first that stands a second time or isn't below the number of blocks
abbrev pub Explains : ℕ → List ℕ → ChainFault → Type 0
Explains blocks xs (Overlap block) = RefusesFirst blocks xs block
Explains blocks xs OutOfMemory = Unit {0}
