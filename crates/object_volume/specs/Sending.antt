-- An object that is being sent: its whole blocks are on the volume, and the bytes behind them in a buffer. No public clause names these parts.
use Rattle.std.specs.Prelude.{◌≡◌, ℕ, ◌+◌, ◌*◌, ◌<◌, ◌≤◌, Bool, IsTrue, List, [], ◌∷◌, ◌++◌, length, take}
use Rattle.block_chain.specs.Table.{Table, blocks_of, IsListOf}
use Rattle.block_chain.specs.declared.lists.BlockList.{BlockList}
use Rattle.sha2.specs.Hashers.{Holds256}
use Rattle.object_volume.specs.Objects.{place_of, places, bytes_at, Spares}
use Rattle.site_disk.specs.Bytes.{extent}
use Rattle.object_volume.specs.declared.sending.Sending.{Sending}

-- the block of a part that isn't full; none where there is no such part
abbrev pub part_block : List ℕ → ℕ → List ℕ
part_block [] last = []
part_block (_ ∷ _) last = last ∷ []

-- a message stands in the blocks of a list and in the buffer
pub record Stored (tells : Bool) (file : List ℕ) (table : Table) (list : BlockList) (last : ℕ) (part message : List ℕ) : Type 0 where
  pub full : List ℕ
  pub front : List ℕ
  pub rest : List ℕ
  pub parts : message ≡ front ++ rest
  pub even : length front ≡ 4096 * length full
  pub few : length rest < 4096
  pub own : IsListOf table list
  pub blocks : blocks_of table list ≡ full ++ part_block rest last
  pub kept : take (length rest) part ≡ rest
  pub stands : IsTrue tells → bytes_at file (places full) ≡ front

-- so much of an object was sent
pub record IsSent (tells : Bool) (file : List ℕ) (table : Table) (object : Sending) (part message : List ℕ) : Type 0 where
  pub stored : Stored tells file table object.list object.last part message
  pub hashed : Holds256 object.hasher message
  pub size : object.size ≡ length message
  pub reached : IsTrue tells → object.reached ≤ length file

-- the bytes behind whole blocks stand in the block of their part, and other bytes stay
pub record Finished (last : ℕ) (piece was is : List ℕ) : Type 0 where
  pub stands : 0 < length piece → extent (place_of last) (length piece) is ≡ piece
  pub spared : Spares (part_block piece last) (length was) was is

-- how far a part's bytes reach on the volume; nowhere where there are none
abbrev pub part_end : List ℕ → ℕ → ℕ
part_end [] last = 0
part_end (byte ∷ bytes) last = place_of last + length (byte ∷ bytes)
