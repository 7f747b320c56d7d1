-- Where a form starts, and when it leaves a site as it was.
use Rattle.std.specs.Prelude.{◌≡◌, ℕ, ◌≤◌, Bool, true, false}
use Rattle.command_grammar.specs.Words.{CommandForm, init_form, transactions_form, show_form}
use Rattle.site_disk.specs.declared.disk.Disk.{Ghosts}
use Rattle.site_model.specs.declared.disk_name.DiskName.{DiskName}
use Rattle.site_model.specs.declared.disk_name.DiskName.TheVariants.{Log, Chunk}
use Rattle.site_model.specs.declared.status.Status.{Status}
use Rattle.site_model.specs.declared.status.Status.TheVariants.{BadRecord, ChunkLost}
use Rattle.site_core.specs.declared.site.Site.{Site}
use Rattle.site_core.specs.Disks.{contents_of, images_of}
use Rattle.site_core.specs.Quiet.{IsQuiet, ReadsSame, written_on}
use Rattle.site_commands.specs.Commands.{Start}

-- the disks that a form may write
abbrev pub writes_on : CommandForm → DiskName → Bool
writes_on (init_form blocks spaces) name = true
writes_on transactions_form Log = true
writes_on transactions_form (Chunk n) = true
writes_on transactions_form name = false
writes_on (show_form name page) (Chunk n) = true
writes_on (show_form name page) other = false

-- A refusal for a chunk: another chunk may have been put back in order before it.
abbrev pub IsOfChunk : Status → Type 0
IsOfChunk (ChunkLost name) = Unit {0}
IsOfChunk (BadRecord (Chunk space) slot) = Unit {0}
IsOfChunk status = ⊥

module _ {D : Type 0} (disk : Ghosts D) where
  -- the era at the start, what a read of each disk gives, and the crash images of all
  abbrev pub start_of : ℕ → Site D → Start
  start_of era site = record { era = era; contents = contents_of disk site; images = images_of disk site }

  -- nothing was written, no crash leaves more, and a read of each disk gives what it gave
  abbrev pub IsKept : Site D → Site D → Type 0
  IsKept old new = IsQuiet disk old new × ReadsSame disk old new

  -- no byte was written but on disks that a form may write
  abbrev pub WritesWithin : CommandForm → Site D → Site D → Type 0
  WritesWithin form old new = (name : DiskName) → writes_on form name ≡ false → written_on disk new name ≤ written_on disk old name
