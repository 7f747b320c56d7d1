-- What a value tells of the files.
use Rattle.std.specs.Prelude.{◌≡◌}
use Rattle.log_files.specs.Files.{LogFiles, AreFiles, mark_of, spans_of, current_first, next_of, last_time_in}
use Rattle.log_files.specs.Views.{spans_in}
use Rattle.log_files.specs.declared.held.HeldFiles.{HeldFiles}

-- the value tells of these files
pub record Tells (files : LogFiles) (held : HeldFiles) : Type 0 where
  pub mark : held.mark ≡ mark_of files
  pub spans : spans_in held.spans.items ≡ spans_of files
  pub first : held.first ≡ current_first files
  pub next : held.next ≡ next_of files
  pub time : held.time ≡ last_time_in files

-- it tells of some files
pub record IsHeld (held : HeldFiles) : Type 0 where
  pub files : LogFiles
  pub fits : AreFiles files
  pub tells : Tells files held
