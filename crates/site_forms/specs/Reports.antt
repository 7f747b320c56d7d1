-- The status and the text that tell what a form came to.
use Rattle.std.specs.Prelude.{ℕ, List, ◌++◌, string_bytes, Result, Ok, Err}
use Rattle.std.specs.List.{flat_map}
use Rattle.site_headers.specs.Views.{spaces_of}
use Rattle.site_model.specs.declared.status.Status.{Status}
use Rattle.site_model.specs.declared.status.Status.TheVariants.{Ok as Done, ScriptFault, LogFull}
use Rattle.site_model.specs.Texts.{space_text, counts_text, status_text}
use Rattle.site_scripts.specs.declared.outcomes.ScriptEnd.{ScriptEnd}
use Rattle.site_scripts.specs.declared.outcomes.ScriptEnd.TheVariants.{Done as AllTaken, Fault as LineFault, Full}
use Rattle.site_forms.specs.declared.report.Report.{Report}
use Rattle.site_forms.specs.declared.report.Report.TheVariants.{Formatted, Extended as LogExtended, Shown}

abbrev pub status_of_end : ScriptEnd → Status
status_of_end AllTaken = Done
status_of_end (LineFault line why) = ScriptFault line why
status_of_end (Full why) = LogFull why

abbrev pub status_told : Result Report Status → Status
status_told (Ok (LogExtended told)) = status_of_end told.ending
status_told (Ok (Formatted spaces)) = Done
status_told (Ok (Shown text)) = Done
status_told (Err status) = status

abbrev pub text_told : Result Report Status → List ℕ
text_told (Ok (LogExtended told)) = counts_text told.lines told.commits told.end ++ status_text (status_of_end told.ending)
text_told (Ok (Formatted spaces)) = flat_map space_text (spaces_of spaces.items) ++ status_text Done
text_told (Ok (Shown text)) = string_bytes text ++ status_text Done
text_told (Err status) = status_text status
