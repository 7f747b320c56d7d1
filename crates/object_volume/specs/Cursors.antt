-- Where a read of an object goes on.
use Rattle.std.specs.Prelude.{◌≡◌, ℕ, List, drop}
use Rattle.block_chain.specs.Blocks.{blocks_of_runs}
use Rattle.block_chain.specs.declared.runs.Run.{Run}
use Rattle.object_volume.specs.Objects.{places}
use Rattle.object_volume.specs.declared.reading.Cursor.{Cursor}

-- the byte of the object that is read next
abbrev pub offset_of : Cursor → ℕ
offset_of cursor = cursor.offset

-- in these runs the cursor is right before that byte: so many bytes of its run, and of those behind it, are passed
pub record StandsIn (runs : List Run) (cursor : Cursor) : Type 0 where
  pub left : drop cursor.skip (places (blocks_of_runs (drop cursor.run runs))) ≡ drop cursor.offset (places (blocks_of_runs runs))
