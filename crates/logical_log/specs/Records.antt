-- The records of a file held, by the position of its first one.
use Rattle.std.specs.Prelude.{◌≡◌, ℕ, ◌+◌, ◌-◌, ◌≤◌, List, ◌∷◌, [], ◌++◌, length, take}
use Rattle.log_files.specs.Files.{LogFiles, FitFile, current_id, count_in, records_of}

-- a held file's first record has this position
pub record IsFirstOf (files : LogFiles) (file first : ℕ) : Type 0 where
  pub oldest : files.oldest ≤ file
  pub current : file ≤ current_id files
  pub first_is : first ≡ files.first + count_in (take (file - files.oldest) (files.past ++ files.current ∷ []))

-- and it has so many records
pub record IsPlaced (files : LogFiles) (file first count : ℕ) : Type 0 where
  pub begins : IsFirstOf files file first
  pub counted : count ≡ length (records_of files file)
