-- What contracts see of a volume.
use Rattle.std.specs.Prelude.{◌≡◌, ℕ, ◌≤◌, Bool, List, [], ◌++◌, length, Option, Some, None}
use Rattle.block_chain.specs.Blocks.{AreApart, ArePartition, blocks_of_runs}
use Rattle.block_chain.specs.Table.{Table, blocks_of, IsListOf, AreListed}
use Rattle.block_chain.specs.declared.runs.Run.{Run}
use Rattle.object_volume.specs.Sending.{IsSent}
use Rattle.object_volume.specs.declared.sending.Sending.{Sending}
use Rattle.object_volume.specs.declared.volume.Volume.{Volume}

abbrev pub table_or_none : Option Table → Table
table_or_none None = record { blocks = 0; links = []; free = [] }
table_or_none (Some table) = table

abbrev pub blocks_or_none : Table → Option Sending → List ℕ
blocks_or_none table None = []
blocks_or_none table (Some object) = blocks_of table object.list

module _ {D : Type 0} where
  -- its disk and its number
  abbrev pub disk_of : Volume D → D
  disk_of volume = volume.disk

  -- nothing of it but the disk is another
  abbrev pub with_disk : Volume D → D → Volume D
  with_disk volume disk = record volume { disk = disk }

  abbrev pub number_of : Volume D → ℕ
  number_of volume = volume.number

  -- its table of blocks; without blocks where it isn't open
  abbrev pub table_of : Volume D → Table
  table_of volume = table_or_none volume.chains

  -- how many blocks it has, and the free ones in the order in which they are taken
  abbrev pub blocks_in : Volume D → ℕ
  blocks_in volume = (table_of volume).blocks

  abbrev pub free_of : Volume D → List ℕ
  free_of volume = (table_of volume).free

  -- the blocks of the object that is being sent
  abbrev pub blocks_sent : Volume D → List ℕ
  blocks_sent volume = blocks_or_none (table_of volume) volume.object

  -- the blocks that sending may write: those of the object that is being sent, and the free ones
  abbrev pub open_blocks : Volume D → List ℕ
  open_blocks volume = blocks_sent volume ++ free_of volume

  -- it was opened
  pub record IsOpen (volume : Volume D) : Type 0 where
    pub table : Table
    pub opened : volume.chains ≡ Some table
    pub small : table.blocks ≤ 1048576
    pub own : (object : Sending) → volume.object ≡ Some object → IsListOf table object.list

  -- no object is being sent
  abbrev pub IsIdle : Volume D → Type 0
  IsIdle volume = volume.object ≡ None

  -- an object is being sent, and these are its bytes so far
  pub record Sends (tells : Bool) (bytes : D → List ℕ) (volume : Volume D) (message : List ℕ) : Type 0 where
    pub object : Sending
    pub begun : volume.object ≡ Some object
    pub sent : IsSent tells (bytes volume.disk) (table_of volume) object volume.part message

  -- an object is being sent
  pub record IsSending (tells : Bool) (bytes : D → List ℕ) (volume : Volume D) : Type 0 where
    pub message : List ℕ
    pub sends : Sends tells bytes volume message

  -- these runs are an object's, none of whose blocks is free or belongs to the object that is being sent
  pub record IsLive (volume : Volume D) (runs : List Run) : Type 0 where
    pub listed : AreListed (table_of volume) (blocks_of_runs runs)
    pub apart : AreApart (blocks_sent volume) (blocks_of_runs runs)

  -- the object that is being sent takes so many of the first free blocks
  pub record Grows (old new : Volume D) (count : ℕ) : Type 0 where
    pub taken : List ℕ
    pub counted : length taken ≡ count
    pub free : free_of old ≡ taken ++ free_of new
    pub sent : blocks_sent new ≡ blocks_sent old ++ taken
    pub blocks : blocks_in new ≡ blocks_in old
    pub parted : (others : List ℕ) → ArePartition (blocks_in old) (free_of old ++ (blocks_sent old ++ others))
        → ArePartition (blocks_in new) (free_of new ++ (blocks_sent new ++ others))
