-- The statuses that a command answers, and what it prints at a refusal.
use Rattle.std.specs.Prelude.{◌≡◌, ℕ, List, Ok, Err}
use Rattle.command_grammar.specs.Words.{Command, CommandForm, command_of, init_form, transactions_form, show_form}
use Rattle.site_model.specs.declared.disk_name.DiskName.TheVariants.{Log, Chunk}
use Rattle.site_model.specs.declared.status.Status.{Status}
use Rattle.site_model.specs.declared.status.Status.TheVariants.{Ok as Done, Usage, ScriptFault, BadRecord, LogFull}
use Rattle.site_model.specs.Texts.{status_text}
use Rattle.site_commands.specs.Commands.{PrintsFront}
use Rattle.site_openings.specs.Openings.{Contents_of, IsOpenFor, IsRefused}

-- the command is refused at a word
abbrev pub IsUsage : List (List ℕ) → Status → Type 0
IsUsage words status = (n : ℕ) × (command_of words ≡ Err n) × (status ≡ Usage n)

-- A form has done its work. That of a script ends at its end, at a line that is refused, or where the log takes no further record.
abbrev pub IsOfWork : Status → Type 0
IsOfWork Done = Unit {0}
IsOfWork (ScriptFault line why) = Unit {0}
IsOfWork (LogFull why) = Unit {0}
IsOfWork status = ⊥

-- What a form may meet in the midst of its work that isn't in the grammar: `-T` a record of the log, `-D` one, or a page of a chunk.
abbrev pub MayMeet : CommandForm → Status → Type 0
MayMeet (init_form blocks spaces) status = ⊥
MayMeet transactions_form (BadRecord Log slot) = Unit {0}
MayMeet transactions_form status = ⊥
MayMeet (show_form name page) (BadRecord Log slot) = Unit {0}
MayMeet (show_form name page) (BadRecord (Chunk space) slot) = Unit {0}
MayMeet (show_form name page) status = ⊥

-- the words are a form that may meet that
abbrev pub WordsMayMeet : List (List ℕ) → Status → Type 0
WordsMayMeet words status = (command : Command) × (command_of words ≡ Ok command) × MayMeet command.form status

-- the disks hold what the form asks for before its work, and it meets that
abbrev pub Meets : CommandForm → Contents_of → Status → Type 0
Meets form contents status = MayMeet form status × IsOpenFor form contents

abbrev pub IsMet : List (List ℕ) → Contents_of → Status → Type 0
IsMet words contents status = (command : Command) × (command_of words ≡ Ok command) × Meets command.form contents status

-- nothing was printed, or a front of the text of a refusal by what the disks hold, or all of it
abbrev pub PrintsRefusal : List (List ℕ) → Contents_of → (taken_before taken_after : List ℕ) → Type 0
PrintsRefusal words contents before after = (status : Status) × IsRefused words contents status × PrintsFront (status_text status) before after
