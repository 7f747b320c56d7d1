-- What the held files of a log give.
use Rattle.std.specs.Prelude.{◌≡◌, ℕ, ◌+◌, ◌-◌, ◌≤◌, List}
use Rattle.std.specs.List.{AllByRecursion}
use Rattle.log_history.specs.Effects.{Change}
use Rattle.log_history.specs.Transactions.{Table}
use Rattle.log_files.specs.Files.{LogFiles, end_of, part_of}
use Rattle.space_pages.specs.Pages.{LieWithin}
use Rattle.lane_ways.specs.ListLaws.{Rises}
use Rattle.held_laws.specs.Reading.{changes_read, resets_read, table_read}

-- the transactions that are open at the end, as far as they began among the records held
abbrev pub table_held : LogFiles → Table
table_held files = table_read (files.first - 1) (part_of files)

-- the changes in effect at the end that these records give, by the Resets among them
abbrev pub changes_held : LogFiles → List Change
changes_held files = changes_read (resets_read (files.first - 1) (part_of files)) (end_of files) (files.first - 1) (part_of files)

-- Changes that a lane can be brought forward by: their commits rise, up to a position, and each lies within a page.
pub record AreChanges (end : ℕ) (changes : List Change) : Type 0 where
  pub rises : Rises 0 changes
  pub upto : AllByRecursion (λ change. change.commit ≤ end) changes
  pub within : LieWithin changes
