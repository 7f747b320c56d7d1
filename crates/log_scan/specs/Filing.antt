-- What reading the files held comes to, file by file.
use Rattle.std.specs.Prelude.{◌≡◌, ℕ, ◌*◌, ◌%◌, ◌+◌, List, [], ◌∷◌, ◌++◌, length, Bool, IsTrue}
use Rattle.std.specs.List.{flat_map}
use Rattle.log_history.specs.History.{History}
use Rattle.log_record.specs.Layout.{spelling}
use Rattle.log_mark.specs.declared.mark.LogMark.{LogMark}
use Rattle.site_disk.specs.Bytes.{extent}
use Rattle.log_files.specs.Files.{LogFiles, AreFiles, FitFile, current_first, current_id, counts_of, mark_of, appended}
use Rattle.log_files.specs.Held.{Tells}
use Rattle.log_files.specs.Ring.{area_of}
use Rattle.log_files.specs.declared.held.HeldFiles.{HeldFiles}
use Rattle.log_scan.specs.Refusals.{IsFirstBad}

-- the first slots of a file spell these records
abbrev pub SpellsFile : ℕ → History → List ℕ → Type 0
SpellsFile file entries bytes = extent (area_of file).slots (128 * length entries) bytes ≡ flat_map spelling entries

-- and so do those of the files behind it
abbrev pub SpellFiles : ℕ → List History → List ℕ → Type 0
SpellFiles file [] bytes = Unit {0}
SpellFiles file (entries ∷ files) bytes = SpellsFile file entries bytes × SpellFiles (file + 1) files bytes

-- so many slots of the current file, which was empty, spell records, and a value tells of the files with them
pub record HasTaken (tells : Bool) (files : LogFiles) (count : ℕ) (bytes : List ℕ) (held : HeldFiles) : Type 0 where
  pub entries : History
  pub counted : length entries ≡ count
  pub fits : FitFile (current_first files) entries
  pub told : Tells (appended files entries) held
  pub spelled : IsTrue tells → extent (area_of (current_id files)).slots (128 * count) bytes ≡ flat_map spelling entries

-- a value tells of files that a mark names with these counts, and the slots used spell their records
pub record HasFiles (tells : Bool) (mark : LogMark) (counts bytes : List ℕ) (held : HeldFiles) : Type 0 where
  pub files : LogFiles
  pub fits : AreFiles files
  pub told : Tells files held
  pub named : mark_of files ≡ mark
  pub counted : counts_of files ≡ counts
  pub spelled : IsTrue tells → SpellFiles files.oldest (files.past ++ files.current ∷ []) bytes

-- a held slot stops the reading
pub record IsStopped (mark : LogMark) (bytes : List ℕ) (number : ℕ) : Type 0 where
  pub file : ℕ
  pub slot : ℕ
  pub number_is : number ≡ 256 * (file % 8) + slot
  pub first : IsFirstBad mark bytes file slot
