-- Where the bytes of blocks stand on a volume, and what an object's runs read as. All counts are bytes but where blocks are named.
use Rattle.std.specs.Prelude.{◌≡◌, ℕ, ◌+◌, ◌*◌, ◌<◌, ◌≤◌, List, [], ◌∷◌, length, take, drop}
use Rattle.std.specs.List.{flat_map}
use Rattle.site_disk.specs.Bytes.{extent, Apart}
use Rattle.block_chain.specs.Blocks.{times, ascending, blocks_of_runs}
use Rattle.block_chain.specs.declared.runs.Run.{Run}

-- a block has 4,096 bytes, and block 0 comes right behind the header page
abbrev pub place_of : ℕ → ℕ
place_of block = 4096 + 4096 * block

-- the places of the bytes of blocks, in order
unfoldable pub places : List ℕ → List ℕ
places blocks = flat_map (λ block. ascending (place_of block) 4096) blocks

-- one byte and what follows; where the byte isn't there, nothing
abbrev pub followed_by : List ℕ → List ℕ → List ℕ
followed_by [] rest = []
followed_by (byte ∷ _) rest = byte ∷ rest

-- the bytes at these places, up to the first place that the volume doesn't have
unfoldable pub bytes_at : List ℕ → List ℕ → List ℕ
bytes_at file [] = []
bytes_at file (place ∷ places) = followed_by (extent place 1 file) (bytes_at file places)

-- the places of the bytes of an object of this size in these runs
abbrev pub object_places : List Run → ℕ → List ℕ
object_places runs size = take size (places (blocks_of_runs runs))

-- what the object reads as, up to where the volume ends
abbrev pub object : List Run → ℕ → List ℕ → List ℕ
object runs size file = bytes_at file (object_places runs size)

-- n bytes of it from a place within it on, fewer where the object or the volume ends
abbrev pub object_part : List Run → ℕ → ℕ → ℕ → List ℕ → List ℕ
object_part runs size at n file = bytes_at file (take n (drop at (object_places runs size)))

-- the bytes before the limit stay, but for those in these blocks
pub record Spares (blocks : List ℕ) (limit : ℕ) (old new : List ℕ) : Type 0 where
  pub kept : (at : ℕ) → at < limit → ((block : ℕ) → 0 < times block blocks → Apart (place_of block) 4096 at 1) → extent at 1 new ≡ extent at 1 old
  pub no_shorter : length old ≤ length new

-- the bytes before the limit stay, but for n of them from a place on
pub record Outside (at n limit : ℕ) (old new : List ℕ) : Type 0 where
  pub kept : (place : ℕ) → place < limit → Apart at n place 1 → extent place 1 new ≡ extent place 1 old
  pub no_shorter : length old ≤ length new
