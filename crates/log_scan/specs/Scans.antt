-- What reading the log's disk gives.
use Rattle.std.specs.Prelude.{◌≡◌, ℕ, ◌≤◌, ◌-◌, List, length, slice_index, Some}
use Rattle.std.specs.List.{AllByRecursion}
use Rattle.gated_slots.specs.Slots.{SlotsView}
use Rattle.twin_mark.specs.Marks.{Knows, record_at}
use Rattle.log_mark.specs.declared.mark.LogMark.{LogMark}
use Rattle.log_mark.specs.Layout.{spelling as mark_spelling}
use Rattle.log_files.specs.Files.{LogFiles, AreFiles, current_id, mark_of}
use Rattle.log_files.specs.Held.{Tells}
use Rattle.log_files.specs.Ring.{area_of, HoldsFile, HoldFiles, HoldsRing}
use Rattle.log_scan.specs.Fronts.{Names}
use Rattle.log_scan.specs.declared.reading.Found.{Found}

-- a mark names files with these counts, and the slots are those of the current file
pub record IsCounted (mark : LogMark) (counts : List ℕ) (slots : SlotsView) : Type 0 where
  pub names : Names mark counts
  pub each : AllByRecursion (λ count. count ≤ 256) counts
  pub area : slots.area ≡ area_of mark.current
  pub used : slots.used ≡ slice_index counts (mark.current - mark.oldest)

-- it tells of these files, and its slots are those of the current one
pub record FoundOf (files : LogFiles) (found : Found) : Type 0 where
  pub base : found.mark.base ≡ 4096
  pub fits : AreFiles files
  pub tells : Tells files found.held
  pub area : found.slots.area ≡ area_of (current_id files)
  pub used : found.slots.used ≡ length files.current

pub record IsFound (found : Found) : Type 0 where
  pub files : LogFiles
  pub told : FoundOf files found

-- behind the header the disk holds these files, and it is known which of the mark's slots is current
pub record IsBehind (bytes : List ℕ) (found : Found) : Type 0 where
  pub files : LogFiles
  pub told : FoundOf files found
  pub knows : Knows found.mark bytes
  pub mark : record_at 4096 bytes ≡ Some (mark_spelling (mark_of files))
  pub past : HoldFiles files.oldest files.past bytes
  pub current : HoldsFile (current_id files) files.current bytes

-- the disk is the log of this site and holds these files
pub record IsFoundOn (site : ℕ) (bytes : List ℕ) (found : Found) : Type 0 where
  pub files : LogFiles
  pub told : FoundOf files found
  pub knows : Knows found.mark bytes
  pub holds : HoldsRing site files bytes
