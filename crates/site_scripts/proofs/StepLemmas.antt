-- A step of a run, from what its line says.
use Rattle.std.proofs.Common.{◌≡◌, ◌∙◌, ℕ, ◌<◌, ◌≤◌, List, [], length, true, Option, None, Some, refl, sym, ap, subst, arith}
use Rattle.std.proofs.lemmas.List.{length-map}
use Rattle.log_history.specs.History.{LogEntry, History}
use Rattle.log_files.specs.Files.{LogFiles, end_of}
use Rattle.log_record.specs.Entry.{entry_of, history_of}
use Rattle.logical_log.specs.Rings.{TellsOf}
use Rattle.onbar_grammar.specs.Script.{Space, raw_lines}
use Rattle.script_steps.specs.declared.script.Progress.{Progress}
use Rattle.script_steps.specs.declared.script.Step.{Step}
use Rattle.script_steps.specs.declared.script.Step.TheVariants.{More, End, Whole as IsWhole, Fault as IsFault}
use Rattle.onbar_grammar.specs.declared.Why.{Why}
use Rattle.script_steps.specs.Collecting.{collected_of}
use Rattle.script_steps.specs.Steps.{StepsTo}
use Rattle.site_disk.specs.declared.disk.Disk.{Ghosts}
use Rattle.site_headers.specs.Heads.{Head}
use Rattle.site_worlds.specs.Worlds.{Site}
use Rattle.site_worlds.specs.Moves.{site_rules}
use Rattle.walks.specs.Courses.{then_do}
use Rattle.site_layouts.specs.Stages.{HeldSite}
use Rattle.site_core.specs.declared.site.Site.{Site as SiteValue}
use Rattle.site_runs.specs.Scripts.{ScriptState, run_lines}
use Rattle.site_scripts.specs.declared.outcomes.Cut.{Cut as CutCause}
use Rattle.site_scripts.specs.declared.outcomes.Stop.{Stop}
use Rattle.site_scripts.specs.declared.outcomes.Stop.TheVariants.{Done, Fault, Full, Cut}
use Rattle.site_scripts.specs.declared.work.Work.{Work}
use Rattle.site_scripts.specs.Outcomes.{IsOfAppend, cut_fault}
use Rattle.site_scripts.specs.Stages.{Knows, LeadsTo, RunCourse, batch_course, course_of, cuts_run, end_course, halt_at, in_use, place_at, run_course}
use Rattle.site_scripts.specs.Steps.{Appends, TakesStep}
use Rattle.site_scripts.proofs.OpenLemmas.{end_is}
use Rattle.site_scripts.proofs.RunLemmas.{goes_behind}
use Rattle.site_scripts.proofs.StageLemmas.{Stands, breaks, cut_here, from_before, known, rests, site_stands}
use Rattle.site_scripts.proofs.TakenLemmas.{IsTaken, RunsTo, follows_on, runs_to}

abbrev pub with_progress : Work → Progress → Work
with_progress work progress = record work { progress = progress }

module _ {D : Type 0} (disk : Ghosts D) (head : Head) (first : History) (from : ℕ) (site : SiteValue D) (old : Work) (new : Progress) (end moment : ℕ)
    (before after : List ℕ) (told : (files : LogFiles) → TellsOf files site.log → end ≡ end_of files) where
  module _ (step : Step) (steps : StepsTo head.spaces moment end before after old.progress new step) (opened : ℕ) (at : HeldSite) (enough : 3 ≤ opened)
      (stands : Stands disk head first opened from (in_use site old) at) where
    knows : Knows head first old at.site
    knows = known disk head first opened from (in_use site old) at stands

    -- the same, as the site has it
    steps_at : StepsTo at.site.head.spaces moment (length at.site.history) before after old.progress new step
    steps_at =
        subst (λ (n : ℕ). StepsTo at.site.head.spaces moment n before after old.progress new step)
        (end_is site disk opened from at enough (site_stands disk head first opened from (in_use site old) at stands) knows.has end told)
        (subst (λ (spaces : List Space). StepsTo spaces moment end before after old.progress new step) (sym (ap (λ (h : Head). h.spaces) knows.head_is)) steps)

    pub runs : RunsTo moment at.site before after old.progress new step
    runs = runs_to moment at.site before after old.progress new step steps_at

    pub again : IsTaken step → length old.progress.collected.batch.items ≤ 31 → Knows head first (with_progress old new) at.site
    again taken few = record {
      head_is = knows.head_is;
      none = knows.none;
      has = knows.has;
      none_lost = knows.none_lost;
      follows = follows_on moment at.site before after old.progress new knows.follows (omega (arith, few, length-map old.progress.collected.batch.items entry_of)) step taken steps_at;
      low_is = knows.low_is;
      added = knows.added;
      history_is = knows.history_is;
      lines = knows.lines;
      commits = knows.commits;
    }

  -- a step that doesn't use the site's disks
  module _ (few : length old.progress.collected.batch.items ≤ 31) where
    abbrev mid : Work
    mid = with_progress old new

    pub more_step : StepsTo head.spaces moment end before after old.progress new More
        → TakesStep disk head first from from moment before after site site old mid None
    unfolding run_course
    more_step steps =
        rests disk head first from site old mid (λ at opened enough stands. again More steps opened at enough stands tt few)
        (run_course moment before old.progress) (run_course moment after new) (λ at opened enough stands. ap course_of (runs More steps opened at enough stands))

    pub end_step : StepsTo head.spaces moment end before after old.progress new End
        → TakesStep disk head first from from moment before after site site old mid (Some Done)
    unfolding run_course end_course
    end_step steps =
        rests disk head first from site old mid (λ at opened enough stands. again End steps opened at enough stands tt few)
        (run_course moment before old.progress) (end_course (halt_at Done (raw_lines after)) new)
        (λ at opened enough stands. ap course_of (runs End steps opened at enough stands))

    pub fault_step : (why : Why) → StepsTo head.spaces moment end before after old.progress new (IsFault why)
        → TakesStep disk head first from from moment before after site site old mid (Some (Fault new.line why))
    unfolding run_course end_course
    fault_step why steps =
        rests disk head first from site old mid (λ at opened enough stands. again (IsFault why) steps opened at enough stands tt few)
        (run_course moment before old.progress) (end_course (halt_at (Fault new.line why) (raw_lines after)) new)
        (λ at opened enough stands. ap course_of (runs (IsFault why) steps opened at enough stands))

  pub cut_step : (cut : CutCause) → cuts_run (Some (cut_fault cut)) ≡ true
      → TakesStep disk head first from from moment before after site site old (with_progress old new) (Some (Cut cut))
  cut_step cut is =
      cut_here disk head first from site old (with_progress old new) (run_course moment before old.progress) (halt_at (Cut cut) (raw_lines after)) is

-- behind an append the run goes on from where the program stands then
abbrev emptied : Progress → Site → ScriptState
emptied progress site = record (place_at progress site) { collected = record (collected_of progress.collected) { batch = [] } }

pub goes_from : (moment : ℕ) (text : List ℕ) (mid new : Progress) → new.lines ≡ mid.lines → new.line ≡ mid.line → new.collected.batch.items ≡ []
    → new.collected.open ≡ mid.collected.open → new.collected.time ≡ mid.collected.time
    → (λ (site : Site). course_of (run_lines moment (raw_lines text) (emptied mid site))) ≡ run_course moment text new
unfolding run_course
goes_from moment text mid new lines line batch table time =
    sym (λ i. λ site. course_of (run_lines moment (raw_lines text) (record {
      begun = (lines i).begun;
      lines = line i;
      site = site;
      collected = record { batch = history_of (batch i); table = table i; time = time i };
    })))

-- a step whose line ends a batch
module _ {D : Type 0} (disk : Ghosts D) (head : Head) (first : History) (from to : ℕ) (site new_site : SiteValue D) (old new : Work) (progress : Progress) (moment : ℕ)
    (before after : List ℕ)
    (again_so : (at : HeldSite) (opened : ℕ) → 3 ≤ opened → Stands disk head first opened from (in_use site old) at → Knows head first (with_progress old progress) at.site)
    (runs_so : (at : HeldSite) (opened : ℕ) → 3 ≤ opened → Stands disk head first opened from (in_use site old) at → RunsTo moment at.site before after old.progress progress IsWhole)
    (some : 0 < length (history_of progress.collected.batch.items)) where
  abbrev batch : List LogEntry
  batch = history_of progress.collected.batch.items

  abbrev rest : RunCourse
  rest at = course_of (run_lines moment (raw_lines after) (emptied progress at))

  goes : (at : HeldSite) (opened : ℕ) → 3 ≤ opened → Stands disk head first opened from (in_use site old) at
      → run_course moment before old.progress at.site ≡ then_do site_rules (batch_course batch (raw_lines after)) rest at.site
  unfolding run_course
  goes at opened enough stands =
      ap course_of (runs_so at opened enough stands)
      ∙ goes_behind (place_at progress at.site) (raw_lines after) (λ place. run_lines moment (raw_lines after) place) some

  pub whole_step : (result : Option Stop) → Appends disk head first from to (in_use site (with_progress old progress)) (in_use new_site new) batch (raw_lines after) result
      → (result ≡ None → rest ≡ run_course moment after new.progress) → (stop_is : (stop : Stop) → result ≡ Some stop → IsOfAppend stop)
      → TakesStep disk head first from to moment before after site new_site old new result
  whole_step None call next stop_is =
      subst (LeadsTo disk head first from to (in_use site old) (in_use new_site new) (run_course moment before old.progress)) (next refl) (record {
        part = batch_course batch (raw_lines after);
        call = from_before disk head first from site old (with_progress old progress) again_so to (in_use new_site new) (batch_course batch (raw_lines after)) None call;
        goes = λ opened at enough stands. goes at opened enough stands;
      })
  whole_step (Some (Full why)) call next stop_is =
      breaks disk head first from to (in_use site old) (in_use new_site new) (run_course moment before old.progress) (batch_course batch (raw_lines after)) rest
      (halt_at (Full why) (raw_lines after)) goes
      (from_before disk head first from site old (with_progress old progress) again_so to (in_use new_site new) (batch_course batch (raw_lines after)) (Some (halt_at (Full why) (raw_lines after))) call)
  whole_step (Some (Cut cut)) call next stop_is =
      breaks disk head first from to (in_use site old) (in_use new_site new) (run_course moment before old.progress) (batch_course batch (raw_lines after)) rest
      (halt_at (Cut cut) (raw_lines after)) goes
      (from_before disk head first from site old (with_progress old progress) again_so to (in_use new_site new) (batch_course batch (raw_lines after)) (Some (halt_at (Cut cut) (raw_lines after))) call)
  whole_step (Some Done) call next stop_is = absurd (stop_is Done refl)
  whole_step (Some (Fault line why)) call next stop_is = absurd (stop_is (Fault line why) refl)
