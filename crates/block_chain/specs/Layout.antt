-- How a table of chains is laid out. No public clause cites this module.
use Rattle.std.specs.Prelude.{◌≡◌, ℕ, ◌+◌, ◌-◌, ◌^◌, ◌<◌, ◌≤◌, List, ◌++◌, length, ◌==◌, ◌||◌, if◌then◌else◌, slice_set}
use Rattle.block_chain.specs.Blocks.{times, ascending, last_or}
use Rattle.block_chain.specs.Table.{Table, linked_blocks}
use Rattle.block_chain.specs.declared.lists.BlockList.{BlockList}
use Rattle.block_chain.specs.declared.runs.Run.{Run}

-- each block of the list has a link, and the last of them is its tail
pub record IsChain (links : List ℕ) (list : BlockList) : Type 0 where
  pub within : (block : ℕ) → 0 < times block (linked_blocks links list) → block < length links
  pub ends : last_or list.tail (linked_blocks links list) ≡ list.tail

-- the holes below the first block that was never taken, the blocks from there on, the blocks that were given back
abbrev pub free_blocks : ℕ → List ℕ → BlockList → BlockList → List ℕ
free_blocks blocks links holes returned =
    linked_blocks links holes ++ (ascending (length links) (blocks - length links) ++ linked_blocks links returned)

abbrev pub table_of : ℕ → List ℕ → BlockList → BlockList → Table
table_of blocks links holes returned =
    record { blocks = blocks; links = links; free = free_blocks blocks links holes returned }

-- what holds of the fields: a link can be added for each block, and no free block stands twice
pub record IsLaidOut (blocks capacity : ℕ) (links : List ℕ) (holes returned : BlockList) : Type 0 where
  pub limit : blocks < 2 ^ 32
  pub room : blocks ≤ capacity
  pub filled : length links ≤ blocks
  pub hole_chain : IsChain links holes
  pub returned_chain : IsChain links returned
  pub once : (block : ℕ) → times block (linked_blocks links holes) + times block (linked_blocks links returned) ≤ 1

-- the list with another behind it
abbrev pub joined : BlockList → BlockList → BlockList
joined front behind =
    if behind.len == 0 then front else
    if front.len == 0 then behind else
    record { head = front.head; tail = behind.tail; len = front.len + behind.len }

-- the links after that
abbrev pub joined_links : List ℕ → BlockList → BlockList → List ℕ
joined_links links front behind = if front.len == 0 || behind.len == 0 then links else slice_set links front.tail behind.head

-- where a list of the blocks of a run begins and ends
abbrev pub run_list : Run → BlockList
run_list run = record { head = run.first; tail = run.first + (run.count - 1); len = run.count }
