-- What contracts see of the boot file.
use Rattle.std.specs.Prelude.{◌≡◌, ℕ, List, length, Option}
use Rattle.std.specs.List.{AllByRecursion}
use Rattle.backup_lines.specs.Lines.{Line}
use Rattle.boot_lines.specs.LineLayout.{IsLine, lines_of}
use Rattle.backup_lines.specs.Spans.{Active}
use Rattle.boot_lines.specs.MarkLayout.{IsMark, active_in}
use Rattle.site_disk.specs.Images.{Seen, IsSynced}
use Rattle.twin_mark.specs.Marks.{Knows}
use Rattle.boot_file.specs.Places.{lines_area, HoldsBoot}
use Rattle.boot_file.specs.declared.boot.Boot.{Boot}

module _ {D : Type 0} where
  -- its disk
  abbrev pub disk_of : Boot D → D
  disk_of boot = boot.disk

  -- nothing of it but the disk is another
  abbrev pub with_disk : Boot D → D → Boot D
  with_disk boot disk = record boot { disk = disk }

  -- what it tells
  abbrev pub lines_in : Boot D → List Line
  lines_in boot = lines_of boot.lines.items

  abbrev pub number_in : Boot D → ℕ
  number_in boot = boot.state.last_number

  abbrev pub restore_in : Boot D → Option Active
  restore_in boot = active_in boot.state.restore

  -- its mark and its slots are at the places that the layout gives
  pub record IsMade (boot : Boot D) : Type 0 where
    pub mark : boot.mark.base ≡ 4096
    pub area : boot.slots.area ≡ lines_area

  -- it tells of these lines, this number of the last restore, and this restore that is under way
  pub record TellsOf (lines : List Line) (number : ℕ) (active : Option Active) (boot : Boot D) : Type 0 where
    pub each : AllByRecursion IsLine lines
    pub is_mark : IsMark number active
    pub lines_are : lines_in boot ≡ lines
    pub number_is : number_in boot ≡ number
    pub active_is : restore_in boot ≡ active
    pub used : boot.slots.used ≡ length lines

  -- it was opened: what it tells is in the grammar
  pub record IsOpen (boot : Boot D) : Type 0 where
    pub made : IsMade boot
    pub tells : TellsOf (lines_in boot) (number_in boot) (restore_in boot) boot

  -- It agrees with its disk: that holds what it tells, a crash in a later era leaves what a read gives, and it knows which of the mark's
  -- slots is current.
  pub record Stands (site : ℕ) (lines : List Line) (number : ℕ) (active : Option Active) (disk : Seen) (boot : Boot D) : Type 0 where
    pub made : IsMade boot
    pub tells : TellsOf lines number active boot
    pub knows : Knows boot.mark disk.bytes
    pub synced : IsSynced disk
    pub now : HoldsBoot site lines number active disk.bytes

  -- nothing of it has changed that a caller sees
  pub record IsAsItWas (old new : Boot D) : Type 0 where
    pub disk : new.disk ≡ old.disk
    pub mark : new.mark ≡ old.mark
    pub slots : new.slots ≡ old.slots
    pub lines : lines_in new ≡ lines_in old
    pub state : new.state ≡ old.state
