-- What a step of a script comes to, and the lines up to the script's end or a fault.
use Rattle.std.specs.Prelude.{ℕ, List, Option, None, Some}
use Rattle.log_history.specs.History.{LogEntry, History}
use Rattle.onbar_grammar.specs.Script.{Raw, raw_lines}
use Rattle.site_disk.specs.declared.disk.Disk.{Ghosts}
use Rattle.site_headers.specs.Heads.{Head}
use Rattle.site_core.specs.declared.site.Site.{Site as SiteValue}
use Rattle.site_scripts.specs.declared.outcomes.Stop.{Stop}
use Rattle.site_scripts.specs.declared.outcomes.Stop.TheVariants.{Done, Fault, Full, Cut}
use Rattle.site_scripts.specs.declared.work.Work.{Work}
use Rattle.site_scripts.specs.Stages.{CallBy, HasLeft, LeadsTo, SiteUse, batch_course, end_course, halt_at, in_use, run_course}

module _ {D : Type 0} (disk : Ghosts D) (head : Head) (first : History) (from to : ℕ) where
  -- the append of a batch: done, or refused, or broken off
  abbrev pub Appends : (old new : SiteUse D) → List LogEntry → List Raw → Option Stop → Type 0
  Appends old new batch left None = CallBy disk head first from to old new (batch_course batch left) None
  Appends old new batch left (Some stop) = CallBy disk head first from to old new (batch_course batch left) (Some (halt_at stop left))

  module _ (moment : ℕ) (before after : List ℕ) (old_site new_site : SiteValue D) (old new : Work) where
    abbrev pub LeavesEnd : Stop → Type 0
    LeavesEnd stop = LeadsTo disk head first from to (in_use old_site old) (in_use new_site new) (run_course moment before old.progress)
        (end_course (halt_at stop (raw_lines after)) new.progress)

    abbrev pub EndsBy : Stop → Type 0
    EndsBy stop = CallBy disk head first from to (in_use old_site old) (in_use new_site new) (run_course moment before old.progress)
        (Some (halt_at stop (raw_lines after)))

    -- a step goes on with the rest of the text, or leaves the last batch to be appended, or ends the run
    abbrev pub TakesStep : Option Stop → Type 0
    TakesStep None = LeadsTo disk head first from to (in_use old_site old) (in_use new_site new) (run_course moment before old.progress)
        (run_course moment after new.progress)
    TakesStep (Some Done) = LeavesEnd Done
    TakesStep (Some (Fault line why)) = LeavesEnd (Fault line why)
    TakesStep (Some (Full why)) = EndsBy (Full why)
    TakesStep (Some (Cut cut)) = EndsBy (Cut cut)

    abbrev pub HasEndLeft : Stop → Type 0
    HasEndLeft stop = HasLeft disk head first from to (in_use old_site old) (in_use new_site new) (run_course moment before old.progress)
        (end_course (halt_at stop (raw_lines after)) new.progress)

    -- so do the steps up to the script's end or a fault
    abbrev pub LinesEnd : Stop → Type 0
    LinesEnd Done = HasEndLeft Done
    LinesEnd (Fault line why) = HasEndLeft (Fault line why)
    LinesEnd (Full why) = EndsBy (Full why)
    LinesEnd (Cut cut) = EndsBy (Cut cut)
