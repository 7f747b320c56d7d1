-- What a command makes of a world: its course, its text, and what it leaves of its script.
use Rattle.std.specs.Prelude.{ℕ, List, [], ◌∷◌, ◌++◌, length, map, Bool, true, false, if◌then◌else◌, Option, None, Some, Result, Ok, Err}
use Rattle.std.specs.List.{flat_map}
use Rattle.onbar_grammar.specs.Script.{Raw, Space, place_of}
use Rattle.command_grammar.specs.Words.{Command, CommandForm, init_form, transactions_form, show_form, command_of, is_transactions}
use Rattle.log_history.specs.History.{History}
use Rattle.walks.specs.Courses.{Course, after_all, only}
use Rattle.log_files.specs.declared.room.LogFull.{LogFull as RoomFull}
use Rattle.log_files.specs.declared.room.LogFull.TheVariants.{NotBackedUp, Needed, Positions}
use Rattle.site_model.specs.declared.status.Status.{Status}
use Rattle.site_model.specs.declared.status.Status.TheVariants.{Ok as Done, OutOfMemory, Usage, ScriptFault, NotFormatted, AlreadyFormatted, NoSuchSpace, NoSuchCopy, NoSuchPage, NoSuchLog, NeedsRestart, NothingToRestart, ChunkLost, LogLost, Refused, LogFull as FullLog, StoreFull, CatalogueFull, BootFull, TooManyObjects}
use Rattle.site_model.specs.Runs.{head_at, name_at, shown_text}
use Rattle.site_model.specs.Texts.{space_text, extension_text, status_text}
use Rattle.site_worlds.specs.Worlds.{Site, World, unformatted, formatted}
use Rattle.site_worlds.specs.Moves.{Move, WorldMove, moves_on, site_rules, world_rules}
use Rattle.site_courses.specs.Faults.{Fault, LogFull, not_backed_up, needed_by, no_position, not_formatted, already_formatted, needs_restart, nothing_to_restart, no_such_space, no_such_page, no_such_copy, log_lost, chunk_lost, no_such_log, refused, log_full, store_full, too_many_objects, catalogue_full, boot_full, script_fault, bad_record, cut_short}
use Rattle.site_courses.specs.Courses.{SiteCourse, init_course, show_course}
use Rattle.site_runs.specs.Scripts.{run_script, transactions_of}

abbrev pub room_full : LogFull → RoomFull
room_full (not_backed_up file) = NotBackedUp file
room_full (needed_by file txn) = Needed file txn
room_full (no_position end) = Positions end

-- the status of a refusal by a site with these spaces; no course of a command has a bad record, or is cut short
abbrev pub status_in : List Space → Fault → Status
status_in spaces not_formatted = NotFormatted
status_in spaces already_formatted = AlreadyFormatted
status_in spaces (needs_restart number) = NeedsRestart number
status_in spaces nothing_to_restart = NothingToRestart
status_in spaces (no_such_space name) = NoSuchSpace name
status_in spaces (no_such_page number) = NoSuchPage number
status_in spaces (no_such_copy copy) = NoSuchCopy copy
status_in spaces log_lost = LogLost
status_in spaces (chunk_lost space) = ChunkLost (name_at spaces space)
status_in spaces (no_such_log file) = NoSuchLog file
status_in spaces (refused list) = Refused list
status_in spaces (log_full why) = FullLog (room_full why)
status_in spaces (store_full volume) = StoreFull volume
status_in spaces too_many_objects = TooManyObjects
status_in spaces catalogue_full = CatalogueFull
status_in spaces boot_full = BootFull
status_in spaces (script_fault line why) = ScriptFault line why
status_in spaces bad_record = OutOfMemory
status_in spaces cut_short = OutOfMemory

abbrev pub status_of : List Space → Option Fault → Status
status_of spaces None = Done
status_of spaces (Some fault) = status_in spaces fault

-- a command's course, its status, the text that it prints, and the lines that it leaves of the script that it reads
pub record CommandResult : Type 0 where
  pub course : Course WorldMove Fault
  pub status : Status
  pub text : List ℕ
  pub left : List Raw

-- the course of a formatted site as that of its world
abbrev pub of_world : Course Move Fault → Course WorldMove Fault
of_world course = record { moves = map moves_on course.moves; fault = course.fault }

-- the world behind a command
abbrev pub world_behind : CommandResult → World → World
world_behind run world = after_all world_rules run.course.moves world

-- a refusal before any work, by no site or for no chunk
abbrev pub refused_by : Fault → CommandResult
refused_by fault = record { course = only (Some fault); status = status_in [] fault; text = status_text (status_in [] fault); left = [] }

-- the site behind a course
abbrev pub site_behind : Course Move Fault → Site → Site
site_behind course site = after_all site_rules course.moves site

-- `-T`

-- a run of a script tells how many records it appended; one that is refused before its script doesn't
abbrev pub tells_counts : Option Fault → Bool
tells_counts None = true
tells_counts (Some (script_fault line why)) = true
tells_counts (Some (log_full why)) = true
tells_counts (Some fault) = false

abbrev pub run_text : List Space → History → History → Option Fault → List ℕ
run_text spaces before after fault = (if tells_counts fault then extension_text before after else []) ++ status_text (status_of spaces fault)

abbrev pub transactions_on : ℕ → List ℕ → Site → CommandResult
transactions_on moment script site =
    let course = transactions_of moment script site in record {
      course = of_world course;
      status = status_of site.head.spaces course.fault;
      text = run_text site.head.spaces site.history (site_behind course site).history course.fault;
      left = (run_script moment script site).left;
    }

-- `-D`

-- the space with a name at the end of the log, or one page of it; where that is refused, the refusal alone
abbrev pub show_text : List Space → History → List ℕ → Option ℕ → Option (ℕ × ℕ) → Option Fault → List ℕ
show_text spaces history name page place None = shown_text history name page place ++ status_text Done
show_text spaces history name page place (Some fault) = status_text (status_in spaces fault)

abbrev pub show_on : List ℕ → Option ℕ → Site → CommandResult
show_on name page site =
    let course = show_course name page site in record {
      course = of_world course;
      status = status_of site.head.spaces course.fault;
      text = show_text site.head.spaces (site_behind course site).history name page (place_of name site.head.spaces) course.fault;
      left = [];
    }

-- `-init`

abbrev pub init_on : ℕ → ℕ → List Space → World → CommandResult
init_on moment blocks spaces unformatted = record {
  course = init_course (head_at moment blocks spaces) unformatted;
  status = Done;
  text = flat_map space_text spaces ++ status_text Done;
  left = [];
}
init_on moment blocks spaces (formatted site) = refused_by already_formatted

-- what a form makes of a world, at a moment and with a script
abbrev pub run_form : ℕ → List ℕ → CommandForm → World → CommandResult
run_form moment script (init_form blocks spaces) world = init_on moment blocks spaces world
run_form moment script transactions_form unformatted = refused_by not_formatted
run_form moment script transactions_form (formatted site) = transactions_on moment script site
run_form moment script (show_form name page) unformatted = refused_by not_formatted
run_form moment script (show_form name page) (formatted site) = show_on name page site

-- a command that is refused at a word
abbrev pub refused_at : ℕ → CommandResult
refused_at word = record { course = only None; status = Usage word; text = status_text (Usage word); left = [] }

-- what the words make of a world
abbrev pub run_command : ℕ → List ℕ → Result Command ℕ → World → CommandResult
run_command moment script (Err word) world = refused_at word
run_command moment script (Ok command) world = run_form moment script command.form world

abbrev pub run : List (List ℕ) → ℕ → List ℕ → World → CommandResult
run words moment script world = run_command moment script (command_of words) world

-- whether a form reads its script
abbrev pub reads_script : Result Command ℕ → Bool
reads_script (Err word) = false
reads_script (Ok command) = is_transactions command.form
