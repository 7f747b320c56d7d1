-- The lines of a script are taken step by step.
use Rattle.std.proofs.Common.{◌≡◌, ◌∙◌, ℕ, ◌+◌, ◌*◌, ◌≤◌, List, ◌++◌, Bool, IsTrue, Some, sym, ap, arith, append_assoc}
use Rattle.log_history.specs.History.{History}
use Rattle.script_lines.specs.Cutting.{TakesFront}
use Rattle.script_steps.specs.Collecting.{IsBounded}
use Rattle.site_disk.specs.declared.disk.Disk.{Ghosts}
use Rattle.site_disk.specs.Causes.{Rose}
use Rattle.site_disk.specs.Ledger.{EraView}
use Rattle.site_headers.specs.Heads.{Head}
use Rattle.site_lanes.specs.Lanes.{SameFrom}
use Rattle.site_model.specs.declared.disk_name.DiskName.{DiskName}
use Rattle.site_core.specs.declared.site.Site.{Site as SiteValue}
use Rattle.site_core.specs.Disks.{MayUseAll, faults_on}
use Rattle.site_core.specs.Made.{IsMadeSite}
use Rattle.site_core.specs.Opened.{IsOpenSite}
use Rattle.site_scripts.specs.declared.outcomes.Stop.{Stop}
use Rattle.site_scripts.specs.declared.outcomes.Stop.TheVariants.{Done, Fault, Full, Cut}
use Rattle.site_scripts.specs.declared.work.Work.{Work}
use Rattle.site_scripts.specs.Stages.{HasLeft, in_use, run_course}
use Rattle.site_scripts.specs.Steps.{TakesStep, LinesEnd}
use Rattle.site_scripts.proofs.StageLemmas.{further, finished}

pub front_again : (a b c : List ℕ) → TakesFront a b → TakesFront b c → TakesFront a c
front_again a b c first second = (first.0 ++ second.0, first.1 ∙ ap (λ (l : List ℕ). first.0 ++ l) second.1 ∙ sym (append_assoc first.0 second.0 c))

-- a count that rose behind one that didn't fall, or before one
pub rose_behind : (a b c : ℕ) → a ≤ b → Rose b c → Rose a c
rose_behind a b c le rose = omega (arith, le, rose)

pub rose_before : (a b c : ℕ) → Rose a b → b ≤ c → Rose a c
rose_before a b c rose le = omega (arith, le, rose)

pub later_again : (a b c : ℕ) → a ≤ b → b ≤ c → a ≤ c
later_again a b c first second = omega (arith, first, second)

-- what lasts from step to step
pub record KeepsOn {D : Type 0} (disk : Ghosts D) (count : ℕ) (tells_source : Bool) (first_era now_era : EraView) (first work : Work) (first_site site : SiteValue D)
    (first_left left : List ℕ) (first_faults faults : ℕ) : Type 0 where
  pub may : MayUseAll disk now_era site
  pub opened : IsOpenSite count site
  pub era_later : first_era.number ≤ now_era.number
  pub era_limit : now_era.number + 3 * first.progress.lines.begun ≤ first_era.number + 3 * work.progress.lines.begun
  pub key : now_era.key ≡ first_era.key
  pub bounded : IsBounded 31 work.progress.collected
  pub line : work.progress.line ≤ work.progress.lines.begun
  pub script_limit : work.progress.lines.begun ≤ 16777216
  pub counted : work.counts.lines ≤ 32 * work.progress.lines.begun
  pub commits : work.counts.commits ≤ work.counts.lines
  pub store : site.store ≡ first_site.store
  pub boot : site.boot ≡ first_site.boot
  pub beyond : SameFrom count first_site.lanes.items site.lanes.items
  pub made : IsMadeSite first_site → IsMadeSite site
  pub later : (name : DiskName) → faults_on disk first_site name ≤ faults_on disk site name
  pub taken : IsTrue tells_source → TakesFront first_left left
  pub source_later : first_faults ≤ faults

module _ {D : Type 0} (disk : Ghosts D) (head : Head) (first : History) (from now to moment : ℕ) (site mid_site new_site : SiteValue D) (old mid new : Work) where
  -- the step that is the last one
  pub lines_end : (text before after : List ℕ) → HasLeft disk head first from now (in_use site old) (in_use mid_site mid) (run_course moment text old.progress) (run_course moment before mid.progress)
      → (stop : Stop) → TakesStep disk head first now to moment before after mid_site new_site mid new (Some stop)
      → LinesEnd disk head first from to moment text after site new_site old new stop
  lines_end text before after left Done step = further disk head first from now to _ _ _ _ _ _ left step
  lines_end text before after left (Fault line why) step = further disk head first from now to _ _ _ _ _ _ left step
  lines_end text before after left (Full why) step = finished disk head first from now to _ _ _ _ _ _ left step
  lines_end text before after left (Cut cut) step = finished disk head first from now to _ _ _ _ _ _ left step
