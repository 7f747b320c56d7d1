-- What a line of a script says of the run, and of what is collected.
use Rattle.std.proofs.Common.{◌≡◌, ◌∙◌, ℕ, ◌+◌, ◌≤◌, List, length, Bool, true, false, Option, None, Some, inl, inr, refl, sym, ap, subst}
use Rattle.onbar_grammar.specs.declared.Why.{Why}
use Rattle.onbar_grammar.specs.Script.{Raw, raw_lines, line_of, spelled}
use Rattle.script_steps.specs.declared.script.Progress.{Progress}
use Rattle.script_steps.specs.declared.script.Step.{Step}
use Rattle.script_steps.specs.declared.script.Step.TheVariants.{More, Whole, End, Fault, ReadFault, OutOfMemory}
use Rattle.script_steps.specs.Collecting.{collected_of}
use Rattle.script_steps.specs.Steps.{TakesLine, LeavesLine, HasNoLine, StepsTo}
use Rattle.site_model.specs.Runs.{Collected, Taken, nothing, joined, bad}
use Rattle.site_worlds.specs.Worlds.{Site}
use Rattle.site_courses.specs.Faults.{script_fault}
use Rattle.site_runs.specs.Places.{GoesOnFrom, TakesOn}
use Rattle.site_runs.specs.ScriptLaws.{take_goes}
use Rattle.site_runs.specs.Scripts.{ScriptState, Ending, run_lines, go_on, after_taken, after_fault, after_batch, ended}
use Rattle.site_scripts.specs.Stages.{place_at}

-- the step was not cut short
abbrev pub IsTaken : Step → Type 0
IsTaken More = Unit {0}
IsTaken Whole = Unit {0}
IsTaken End = Unit {0}
IsTaken (Fault why) = Unit {0}
IsTaken ReadFault = ⊥
IsTaken OutOfMemory = ⊥

module _ (moment : ℕ) (site : Site) (before after : List ℕ) (old new : Progress) where
  abbrev run : ScriptState → Ending
  run place = run_lines moment (raw_lines after) place

  abbrev whole : Ending
  whole = run_lines moment (raw_lines before) (place_at old site)

  -- the rest of the script goes on from the new place, or the run ends
  abbrev pub RunsTo : Step → Type 0
  RunsTo More = whole ≡ run (place_at new site)
  RunsTo Whole = whole ≡ go_on run (after_batch (raw_lines after) (place_at new site))
  RunsTo End = whole ≡ ended None (raw_lines after) (place_at new site)
  RunsTo (Fault why) = whole ≡ ended (Some (script_fault new.line why)) (raw_lines after) (place_at new site)
  RunsTo ReadFault = Unit {0}
  RunsTo OutOfMemory = Unit {0}

  abbrev here : Collected → ScriptState
  here c = record { begun = new.lines.begun; lines = new.line; site = site; collected = c }

  abbrev Steps : Step → Type 0
  Steps step = StepsTo site.head.spaces moment (length site.history) before after old new step

  taken : (does : Taken) → TakesLine site.head.spaces moment (length site.history) before after old new does
      → whole ≡ go_on run (after_taken (raw_lines after) (here (collected_of old.collected)) does)
  taken does is =
      ap (λ (lines : List Raw). run_lines moment lines (place_at old site)) is.lines
      ∙ ap (λ (fault : Option Why). go_on run (after_fault moment (record (place_at old site) { lines = old.line + 1 }) is.raw (raw_lines after) fault)) is.within
      ∙ ap (λ (t : Taken). go_on run
      (after_taken (raw_lines after) (record (place_at old site) { begun = old.lines.begun + length (spelled is.raw); lines = old.line + 1 }) t)) is.does
      ∙ sym (λ i. go_on run (after_taken (raw_lines after) (record (place_at old site) { begun = is.begun i; lines = is.line i }) does))

  left : (why : Why) → LeavesLine site.head.spaces moment (length site.history) before after old new why → RunsTo (Fault why)
  left why is =
      ap (λ (lines : List Raw). run_lines moment lines (place_at old site)) is.lines
      ∙ ap (λ (fault : Option Why). go_on (λ place. run_lines moment is.others place)
      (after_fault moment (record (place_at old site) { lines = old.line + 1 }) is.raw is.others fault)) is.fault
      ∙ sym (λ i. ended (Some (script_fault (is.line i) why)) (is.left i) (record (place_at old site) { collected = is.collected i }))

  at_end : HasNoLine site.head.spaces moment (length site.history) before after old new → RunsTo End
  at_end is =
      ap (λ (text : List ℕ). run_lines moment (raw_lines text) (place_at old site)) is.none
      ∙ sym (λ i. ended None (raw_lines (is.left i)) (record (place_at old site) { collected = is.collected i }))

  pub runs_to : (step : Step) → Steps step → RunsTo step
  runs_to More (inl is) = taken nothing is.0 ∙ sym (ap (λ (c : Collected). run (here c)) is.1)
  runs_to More (inr is) = taken (joined (collected_of new.collected) false) is
  runs_to Whole is = taken (joined (collected_of new.collected) true) is
  runs_to End is = at_end is
  runs_to (Fault why) (inl is) =
      taken (bad why) is.0 ∙ sym (ap (λ (c : Collected). ended (Some (script_fault new.line why)) (raw_lines after) (here c)) is.1)
  runs_to (Fault why) (inr is) = left why is
  runs_to ReadFault is = tt
  runs_to OutOfMemory is = tt

  -- what is collected then goes on from the same log
  abbrev Follows : ℕ → Collected → Type 0
  Follows limit c = GoesOnFrom site.head.spaces site.history limit c

  module _ (is : Follows 32 (collected_of old.collected)) (few : length (collected_of old.collected).batch ≤ 31) where
    narrow : Follows 31 (collected_of old.collected)
    narrow = record { table = is.table; time = is.time; order = is.order; within = is.within; plain = is.plain; few = few }

    joined_goes : (ends : Bool) → TakesLine site.head.spaces moment (length site.history) before after old new (joined (collected_of new.collected) ends)
        → Follows 32 (collected_of new.collected)
    joined_goes ends line =
        (subst (TakesOn site.head.spaces site.history) line.does
        (take_goes moment site.head.spaces site.history (collected_of old.collected) narrow line.raw.text (line_of site.head.spaces line.raw.text) refl)).0

    as_before : collected_of new.collected ≡ collected_of old.collected → Follows 32 (collected_of new.collected)
    as_before same = subst (Follows 32) (sym same) is

    pub follows_on : (step : Step) → IsTaken step → Steps step → Follows 32 (collected_of new.collected)
    follows_on More taken (inl line) = as_before line.1
    follows_on More taken (inr line) = joined_goes false line
    follows_on Whole taken line = joined_goes true line
    follows_on End taken none = as_before none.collected
    follows_on (Fault why) taken (inl line) = as_before line.1
    follows_on (Fault why) taken (inr line) = as_before line.collected
    follows_on ReadFault none line = absurd none
    follows_on OutOfMemory none line = absurd none
