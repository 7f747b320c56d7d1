-- The log's disk as a ring of eight places: the mark at 4,096; at 8,192 + 33,024 × p place p, with 256 gates and behind them 256 slots of
-- 128 bytes. A file stands at the place that is its id modulo 8.
use Rattle.std.specs.Prelude.{◌≡◌, ◌⊎◌, ℕ, ◌+◌, ◌*◌, ◌%◌, ◌≤◌, List, [], ◌∷◌, length, Some}
use Rattle.std.specs.List.{flat_map}
use Rattle.log_history.specs.History.{History}
use Rattle.log_record.specs.Layout.{spelling}
use Rattle.log_mark.specs.Layout.{spelling as mark_spelling}
use Rattle.gated_slots.specs.Slots.{Area, used, held, place_of}
use Rattle.twin_mark.specs.Marks.{record_at}
use Rattle.site_headers.specs.Headers.{HasHeader, log_tail}
use Rattle.log_files.specs.Files.{LogFiles, AreFiles, current_id, mark_of}

-- the slots of a place, and of a file
abbrev pub area_at : ℕ → Area
area_at place = record { gates = 8192 + 33024 * place; slots = 8448 + 33024 * place; size = 128; capacity = 256 }

abbrev pub area_of : ℕ → Area
area_of file = area_at (file % 8)

-- the used slots of a file's place spell these records
pub record HoldsFile (file : ℕ) (entries : History) (bytes : List ℕ) : Type 0 where
  pub used : used (area_of file) bytes ≡ length entries
  pub slots : held (area_of file) bytes ≡ flat_map spelling entries
  pub reaches : place_of (area_of file) (length entries) ≤ length bytes

-- and so do those of the files behind it
abbrev pub HoldFiles : ℕ → List History → List ℕ → Type 0
HoldFiles file [] bytes = Unit {0}
HoldFiles file (entries ∷ files) bytes = HoldsFile file entries bytes × HoldFiles (file + 1) files bytes

-- the disk is the log of this site and holds these files
pub record HoldsRing (site : ℕ) (files : LogFiles) (bytes : List ℕ) : Type 0 where
  pub fits : AreFiles files
  pub header : HasHeader (log_tail site) bytes
  pub mark : record_at 4096 bytes ≡ Some (mark_spelling (mark_of files))
  pub past : HoldFiles files.oldest files.past bytes
  pub current : HoldsFile (current_id files) files.current bytes

-- the disk holds one of these
abbrev pub HoldsOneOf : ℕ → List LogFiles → List ℕ → Type 0
HoldsOneOf site [] bytes = ⊥
HoldsOneOf site (files ∷ more) bytes = HoldsRing site files bytes ⊎ HoldsOneOf site more bytes

-- where a disk holds some files, a stop leaves these or others that the call passes
abbrev pub MayPass : ℕ → LogFiles → List LogFiles → List ℕ → List ℕ → Type 0
MayPass site files passed old new = HoldsRing site files old → HoldsOneOf site (files ∷ passed) new
