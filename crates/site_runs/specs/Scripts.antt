-- A script of transactions over a whole site: the moves that it makes, how it ends, and what it leaves of its text.
use Rattle.std.specs.Prelude.{ℕ, ◌+◌, List, [], ◌∷◌, ◌++◌, length, ◌==◌, if◌then◌else◌, Option, None, Some}
use Rattle.std.specs.Option.{option_or}
use Rattle.onbar_grammar.specs.declared.Why.{Why}
use Rattle.onbar_grammar.specs.Script.{Raw, spelled, raw_lines, line_fault}
use Rattle.walks.specs.Courses.{Course, after_all, only}
use Rattle.site_worlds.specs.Worlds.{Site}
use Rattle.site_worlds.specs.Moves.{Move, site_rules}
use Rattle.site_courses.specs.Faults.{Fault, script_fault}
use Rattle.site_courses.specs.Courses.{SiteCourse, check, in_turn, if_active, if_log_lost, if_any_lost}
use Rattle.site_courses.specs.Appending.{append_course}
use Rattle.site_model.specs.Runs.{Collected, first_collected, Taken, nothing, joined, bad, take_text}

-- where a run stands between two lines: the bytes and lines of the script behind it, the site, and what is collected since the last batch
pub record ScriptState : Type 0 where
  pub begun : ℕ
  pub lines : ℕ
  pub site : Site
  pub collected : Collected

abbrev pub first_state : Site → ScriptState
first_state site = record { begun = 0; lines = 0; site = site; collected = first_collected site.history }

-- how a run ends: its moves, the fault that it answers, if any, and the lines of the script that it doesn't take: those behind the line at
-- which it ended, and that line itself where it passes a limit
pub record Ending : Type 0 where
  pub moves : List Move
  pub fault : Option Fault
  pub left : List Raw

-- the append of what is collected
abbrev pub append_collected : ScriptState → Course Move Fault
append_collected place = append_course place.collected.batch place.site

-- where it is refused, its refusal is the fault
abbrev pub ends_by : Option Fault → List Raw → Course Move Fault → Ending
ends_by fault left last = record { moves = last.moves; fault = option_or last.fault fault; left = left }

-- the run ends here, once its batch is appended, if there is any
abbrev pub ended : Option Fault → List Raw → ScriptState → Ending
ended fault left place = ends_by fault left (if length place.collected.batch == 0 then only None else append_collected place)

-- behind the append
abbrev pub appended : ScriptState → ScriptState
appended place = record place {
  site = after_all site_rules (append_collected place).moves place.site;
  collected = record place.collected { batch = [] };
}

-- how a run goes on behind a line, once it made moves or with none, or ends at it
pub data Outcome : Type 0 where
  goes_on : (place : ScriptState) → Outcome
  appends : (moves : List Move) (place : ScriptState) → Outcome
  ends : (ending : Ending) → Outcome

-- a batch that is whole is appended at once; where that is refused the run ends
abbrev pub if_refused : Option Fault → List Raw → ScriptState → Outcome
if_refused (Some fault) left place = ends (ended None left place)
if_refused None left place = appends (append_collected place).moves (appended place)

abbrev pub after_batch : List Raw → ScriptState → Outcome
after_batch left place = if_refused (append_collected place).fault left place

abbrev pub after_taken : List Raw → ScriptState → Taken → Outcome
after_taken left place nothing = goes_on place
after_taken left place (joined collected is_whole) =
    let next = record place { collected = collected } in if is_whole then after_batch left next else goes_on next
after_taken left place (bad why) = ends (ended (Some (script_fault place.lines why)) left place)

abbrev pub after_fault : ℕ → ScriptState → Raw → List Raw → Option Why → Outcome
after_fault moment place line left (Some why) = ends (ended (Some (script_fault place.lines why)) (line ∷ left) place)
after_fault moment place line left None =
    after_taken left (record place { begun = place.begun + length (spelled line) })
    (take_text place.site.head.spaces moment (length place.site.history) place.collected line.text)

-- one line of the script, counted from 1, and the lines behind it
abbrev pub step_line : ℕ → ScriptState → Raw → List Raw → Outcome
step_line moment place line left = let here = record place { lines = place.lines + 1 } in after_fault moment here line left (line_fault place.begun line)

-- a run that makes moves first
abbrev pub behind_moves : List Move → Ending → Ending
behind_moves moves ending = record ending { moves = moves ++ ending.moves }

abbrev pub go_on : (ScriptState → Ending) → Outcome → Ending
go_on others (goes_on place) = others place
go_on others (appends moves place) = behind_moves moves (others place)
go_on others (ends ending) = ending

-- the lines of a script in order; at its end the last batch is appended
abbrev pub run_lines : ℕ → List Raw → ScriptState → Ending
run_lines moment [] place = ended None [] place
run_lines moment (line ∷ lines) place = go_on (λ next. run_lines moment lines next) (step_line moment place line lines)

-- a whole script
abbrev pub run_script : ℕ → List ℕ → Site → Ending
run_script moment text site = run_lines moment (raw_lines text) (first_state site)

abbrev pub script_course : ℕ → List ℕ → SiteCourse
script_course moment text site = record { moves = (run_script moment text site).moves; fault = (run_script moment text site).fault }

-- `-T`: no restore may be under way, and the log and all lanes are needed
abbrev pub transactions_of : ℕ → List ℕ → SiteCourse
transactions_of moment text = in_turn (check if_active ∷ check if_log_lost ∷ check if_any_lost ∷ script_course moment text ∷ [])
