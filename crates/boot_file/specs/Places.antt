-- The boot file's disk: a header page, the mark at 4,096, 65,536 gates from 8,192 on, and as many slots of 128 bytes from 73,728 on.
use Rattle.std.specs.Prelude.{◌≡◌, ◌⊎◌, ℕ, ◌+◌, ◌*◌, ◌<◌, ◌≤◌, List, length, Option, Some}
use Rattle.std.specs.List.{AllByRecursion, flat_map}
use Rattle.backup_lines.specs.Lines.{Line}
use Rattle.boot_lines.specs.LineLayout.{IsLine, spelling}
use Rattle.backup_lines.specs.Spans.{Active}
use Rattle.boot_lines.specs.MarkLayout.{IsMark, spelling as mark_spelling}
use Rattle.site_disk.specs.Bytes.{extent}
use Rattle.gated_slots.specs.Slots.{Area, used, held, place_of}
use Rattle.twin_mark.specs.Marks.{record_at}
use Rattle.site_headers.specs.Headers.{HasHeader, plain_tail}

-- the boot file is kind 3
abbrev pub boot_tail : ℕ → List ℕ
boot_tail site = plain_tail 3 site

abbrev pub lines_area : Area
lines_area = record { gates = 8192; slots = 73728; size = 128; capacity = 65536 }

-- the mark says this
pub record HoldsMark (number : ℕ) (active : Option Active) (bytes : List ℕ) : Type 0 where
  pub is_mark : IsMark number active
  pub stands : record_at 4096 bytes ≡ Some (mark_spelling number active)

-- the used slots spell these lines
pub record HoldsLines (lines : List Line) (bytes : List ℕ) : Type 0 where
  pub each : AllByRecursion IsLine lines
  pub used : used lines_area bytes ≡ length lines
  pub slots : held lines_area bytes ≡ flat_map spelling lines
  pub reaches : place_of lines_area (length lines) ≤ length bytes

-- the disk is the boot file of this site, and holds these lines, this number of the last restore, and this restore that is under way
pub record HoldsBoot (site : ℕ) (lines : List Line) (number : ℕ) (active : Option Active) (bytes : List ℕ) : Type 0 where
  pub header : HasHeader (boot_tail site) bytes
  pub mark : HoldsMark number active bytes
  pub slots : HoldsLines lines bytes

-- where this holds of a disk, a stop leaves it so, or as it is to become
abbrev pub MayBecome : (List ℕ → Type 0) → (List ℕ → Type 0) → List ℕ → List ℕ → Type 0
MayBecome before after old new = before old → before new ⊎ after new

-- the first slots spell these lines
pub record Begins (lines : List Line) (bytes : List ℕ) : Type 0 where
  pub each : AllByRecursion IsLine lines
  pub spelled : extent 73728 (128 * length lines) bytes ≡ flat_map spelling lines

-- behind them stands no line
pub record StopsAt (lines : List Line) (bytes : List ℕ) : Type 0 where
  pub before : Begins lines bytes
  pub stuck : (line : Line) → IsLine line → extent (73728 + 128 * length lines) 128 bytes ≡ spelling line → ⊥
