-- Lists of blocks: how often a block stands in one, blocks in ascending order, and the blocks of runs.
use Rattle.std.specs.Prelude.{◌≡◌, ℕ, zero, suc, ◌+◌, ◌/◌, ◌^◌, ◌<◌, ◌≤◌, ◌≢◌, ◌==◌, ◌⊎◌, List, [], ◌∷◌, ◌++◌, if◌then◌else◌, sum_by}
use Rattle.std.specs.List.{AllByRecursion, flat_map}
use Rattle.std.specs.declared.vec.Vec.{Vec}
use Rattle.std.specs.declared.alloc.Global.{Global}
use Rattle.block_chain.specs.declared.runs.Run.{Run}

-- how often a block stands in a list
abbrev pub times : ℕ → List ℕ → ℕ
times block [] = 0
times block (b ∷ bs) = (if b == block then 1 else 0) + times block bs

-- no block stands in both lists
abbrev pub AreApart : List ℕ → List ℕ → Type 0
AreApart xs ys = (block : ℕ) → 0 < times block xs → times block ys ≡ 0

-- no block stands twice, and each is below the number of blocks
pub record AreSound (blocks : ℕ) (xs : List ℕ) : Type 0 where
  pub once : (block : ℕ) → times block xs ≤ 1
  pub below : (block : ℕ) → 0 < times block xs → block < blocks

-- this block is the first that stands a second time or isn't below the number of blocks
pub record RefusesFirst (blocks : ℕ) (xs : List ℕ) (block : ℕ) : Type 0 where
  pub before : List ℕ
  pub behind : List ℕ
  pub order : xs ≡ before ++ block ∷ behind
  pub sound : AreSound blocks before
  pub fault : (blocks ≤ block) ⊎ (0 < times block before)

-- each block below the number of blocks stands once, and no other stands there
pub record ArePartition (blocks : ℕ) (xs : List ℕ) : Type 0 where
  pub each : (block : ℕ) → block < blocks → times block xs ≡ 1
  pub below : (block : ℕ) → 0 < times block xs → block < blocks

-- so many blocks in ascending order, from the first on
unfoldable pub ascending : ℕ → ℕ → List ℕ
ascending first zero = []
ascending first (suc count) = first ∷ ascending (suc first) count

-- the last block, or the default where there is none
abbrev pub last_or : ℕ → List ℕ → ℕ
last_or default [] = default
last_or default (b ∷ bs) = last_or b bs

-- the blocks of runs, in order
abbrev pub blocks_of_runs : List Run → List ℕ
blocks_of_runs runs = flat_map (λ run. ascending run.first run.count) runs

-- the blocks of lists of runs, in order
abbrev pub blocks_of_lists : List (Vec Run Global) → List ℕ
blocks_of_lists lists = flat_map (λ runs. blocks_of_runs runs.items) lists

-- the first run, if there is one, doesn't begin at this block
abbrev pub BeginsElsewhere : ℕ → List Run → Type 0
BeginsElsewhere block [] = Unit {0}
BeginsElsewhere block (run ∷ runs) = run.first ≢ block

-- no run is empty, and none begins where the one before it ends
abbrev pub AreMaximal : List Run → Type 0
AreMaximal [] = Unit {0}
AreMaximal (run ∷ runs) = (0 < run.count) × BeginsElsewhere (run.first + run.count) runs × AreMaximal runs

-- a block's number and a count of blocks have 32 bits
pub record FitsRun (run : Run) : Type 0 where
  pub first : run.first < 2 ^ 32
  pub count : run.count < 2 ^ 32

-- the number of blocks of runs
abbrev pub blocks_in : List Run → ℕ
blocks_in runs = sum_by (λ run. run.count) runs

-- the blocks of 4,096 bytes that so many bytes take
abbrev pub blocks_for : ℕ → ℕ
blocks_for size = (size + 4095) / 4096

-- the runs of an object of this size: none is empty or begins where the one before it ends, and their blocks are as many as it takes
pub record AreRunsOf (runs : List Run) (size : ℕ) : Type 0 where
  pub fit : AllByRecursion FitsRun runs
  pub maximal : AreMaximal runs
  pub count : blocks_in runs ≡ blocks_for size
