-- A run of a script as a stage: that of its site, with what the run knows beside it, and with faults that name the lines left too.
use Rattle.std.specs.Prelude.{◌≡◌, ℕ, ◌≤◌, List, ◌++◌, length, count_by, Bool, false, Option, None, Some}
use Rattle.log_history.specs.History.{LogEntry, History}
use Rattle.log_history.specs.Transactions.{table_of}
use Rattle.onbar_grammar.specs.Script.{Raw, raw_lines}
use Rattle.ring_laws.specs.RoomLaws.{oldest_begin}
use Rattle.script_steps.specs.declared.script.Progress.{Progress}
use Rattle.script_steps.specs.Collecting.{collected_of}
use Rattle.site_disk.specs.declared.disk.Disk.{Ghosts}
use Rattle.site_headers.specs.Heads.{Head}
use Rattle.site_model.specs.declared.disk_name.DiskName.{DiskName}
use Rattle.site_model.specs.Texts.{is_commit_entry}
use Rattle.site_worlds.specs.Worlds.{Site}
use Rattle.site_worlds.specs.Allowed.{HasRing}
use Rattle.site_worlds.specs.Moves.{Move, site_rules}
use Rattle.site_courses.specs.Appending.{append_course}
use Rattle.site_courses.specs.Faults.{Fault, cuts}
use Rattle.site_courses.specs.Courses.{if_any_lost}
use Rattle.site_layouts.specs.Stages.{HeldSite, ShowsHeld, StandsFor}
use Rattle.site_core.specs.declared.site.Site.{Site as SiteValue}
use Rattle.site_core.specs.Disks.{images_of}
use Rattle.site_core.specs.Layers.{layers}
use Rattle.site_runs.specs.Places.{GoesOnFrom}
use Rattle.site_runs.specs.Scripts.{ScriptState, Ending, ended, run_lines}
use Rattle.walks.specs.Courses.{Course, Stage, Call, LeftToDo, then_do}
use Rattle.site_scripts.specs.declared.outcomes.Stop.{Stop}
use Rattle.site_scripts.specs.declared.work.Work.{Work}
use Rattle.site_scripts.specs.Outcomes.{stop_fault}

-- how a run ends: its fault, if any, and the lines of the script that it doesn't take
pub record Halt : Type 0 where
  pub fault : Option Fault
  pub left : List Raw

abbrev pub cuts_run : Option Fault → Bool
cuts_run None = false
cuts_run (Some fault) = cuts fault

abbrev pub halt_at : Stop → List Raw → Halt
halt_at stop left = record { fault = stop_fault stop; left = left }

-- a site in use by a run
pub record SiteUse (D : Type 0) : Type 0 where
  pub site : SiteValue D
  pub work : Work

abbrev pub in_use : {D : Type 0} → SiteValue D → Work → SiteUse D
in_use site work = record { site = site; work = work }

-- what the run knows is so of a site, whose history began so: with no restore under way, its log there and none of its lanes lost, what is
-- collected goes on from its history, and the records that were added are counted
pub record Knows (head : Head) (first : History) (work : Work) (site : Site) : Type 0 where
  pub head_is : site.head ≡ head
  pub none : site.active ≡ None
  pub has : HasRing site
  pub none_lost : if_any_lost site ≡ None
  pub follows : GoesOnFrom site.head.spaces site.history 32 (collected_of work.progress.collected)
  pub low_is : work.low ≡ oldest_begin (table_of site.history)
  pub added : History
  pub history_is : site.history ≡ first ++ added
  pub lines : work.counts.lines ≡ length added
  pub commits : work.counts.commits ≡ count_by is_commit_entry added

-- a course of a run
abbrev pub RunCourse : Type 0
RunCourse = Site → Course Move Halt

abbrev pub course_of : Ending → Course Move Halt
course_of ending = record { moves = ending.moves; fault = Some (record { fault = ending.fault; left = ending.left }) }

-- where a run stands at a site
abbrev pub place_at : Progress → Site → ScriptState
place_at progress site = record { begun = progress.lines.begun; lines = progress.line; site = site; collected = collected_of progress.collected }

-- what is left of a run: to take a text, or to append the last batch
unfoldable pub run_course : ℕ → List ℕ → Progress → RunCourse
run_course moment text progress site = course_of (run_lines moment (raw_lines text) (place_at progress site))

unfoldable pub end_course : Halt → Progress → RunCourse
end_course halt progress site = course_of (ended halt.fault halt.left (place_at progress site))

-- the append of a batch, with these lines left where it is refused
abbrev pub halted : List Raw → Option Fault → Option Halt
halted left None = None
halted left (Some fault) = Some (record { fault = Some fault; left = left })

unfoldable pub batch_course : List LogEntry → List Raw → RunCourse
batch_course batch left site = record { moves = (append_course batch site).moves; fault = halted left (append_course batch site).fault }

module _ {D : Type 0} (disk : Ghosts D) (head : Head) (first : History) where
  unfoldable pub run_stage : Stage DiskName Move Site HeldSite Halt (SiteUse D)
  run_stage = record {
    rules = site_rules;
    seen = λ at. at.site;
    shows = ShowsHeld;
    cuts = λ halt. cuts_run halt.fault;
    images = λ run. images_of disk run.site;
    stands = λ opened from run at. StandsFor (layers disk) opened from run.site at × Knows head first run.work at.site;
  }

  module _ (from to : ℕ) (old new : SiteUse D) where
    -- a call by a course that ends so
    abbrev pub CallBy : RunCourse → Option Halt → Type 0
    CallBy course fault = Call run_stage 3 from to old new course fault

    -- what was done of one course leaves another to do
    pub record LeadsTo (whole rest : RunCourse) : Type 0 where
      pub part : RunCourse
      pub call : CallBy part None
      pub goes : (opened : ℕ) (at : HeldSite) → 3 ≤ opened → run_stage.stands opened from old at → whole at.site ≡ then_do site_rules part rest at.site

    -- so does what was done in several calls
    abbrev pub HasLeft : RunCourse → RunCourse → Type 0
    HasLeft whole rest = (opened : ℕ) (at : HeldSite) → 3 ≤ opened → run_stage.stands opened from old at
        → LeftToDo run_stage opened from to old new at (whole at.site) rest
