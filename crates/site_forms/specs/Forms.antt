-- What the function of a form promises.
use Rattle.std.specs.Prelude.{◌≡◌, ◌⊎◌, ℕ, ◌+◌, List, Bool, false, Result, Ok, Err}
use Rattle.command_grammar.specs.Words.{CommandForm, is_transactions}
use Rattle.site_disk.specs.declared.disk.Disk.{Ghosts}
use Rattle.walks.specs.Follows.{Images}
use Rattle.site_model.specs.declared.disk_name.DiskName.{DiskName}
use Rattle.site_model.specs.declared.status.Status.{Status}
use Rattle.site_worlds.specs.Fitness.{IsFit}
use Rattle.site_layouts.specs.Layouts.{HeldWorld}
use Rattle.site_core.specs.declared.site.Site.{Site}
use Rattle.site_core.specs.Disks.{contents_of, images_of}
use Rattle.site_commands.specs.Runs.{CommandResult, run_form}
use Rattle.site_commands.specs.Commands.{CutsShort, HasDone, IsPassed, Passes, Start, StandOn, uses}
use Rattle.site_forms.specs.declared.report.Report.{Report}
use Rattle.site_forms.specs.Starts.{start_of}
use Rattle.site_forms.specs.Reports.{status_told, text_told}

-- the work is done, and only its text is to be printed
pub record IsDone (reads : Bool) (start : Start) (used : DiskName → Bool) (at : HeldWorld) (run : CommandResult) (after : List ℕ) (contents : DiskName → List ℕ) (era : ℕ)
    (new : Images DiskName) (result : Result Report Status) : Type 0 where
  pub status : run.status ≡ status_told result
  pub text : run.text ≡ text_told result
  pub work : HasDone reads start used at run (status_told result) after contents era new

-- or it was cut short
abbrev pub Finishes : Bool → Start → (DiskName → Bool) → HeldWorld → CommandResult → List ℕ → (DiskName → List ℕ) → ℕ → Images DiskName → Result Report Status → Type 0
Finishes reads start used at run after contents era new (Ok told) = IsDone reads start used at run after contents era new (Ok told)
Finishes reads start used at run after contents era new (Err status) = CutsShort status ⊎ IsDone reads start used at run after contents era new (Err status)

-- from a fit world that the disks show which the form uses, whatever the others hold
module _ {D : Type 0} (disk : Ghosts D) (form : CommandForm) (from : ℕ) (old new : Site D) where
  abbrev pub ShownTo : HeldWorld → Type 0
  ShownTo at = IsFit at.world × StandOn (uses form at.world) (contents_of disk old) at

  -- wherever it is stopped, it passes worlds of its run alone
  abbrev pub PassesBy : ℕ → List ℕ → Type 0
  PassesBy moment script = (at : HeldWorld) → ShownTo at
      → Passes (start_of disk from old) (uses form at.world) (images_of disk new) at (IsPassed at (run_form moment script form at.world))

  -- at its end it did what its run says, unless it was cut short
  abbrev pub FinishesBy : ℕ → ℕ → List ℕ → List ℕ → Result Report Status → Type 0
  FinishesBy to moment script after result = (at : HeldWorld) → ShownTo at
      → Finishes (is_transactions form) (start_of disk from old) (uses form at.world) at (run_form moment script form at.world) after (contents_of disk new) (to + 1)
      (images_of disk new) result

  -- it leaves the other disks alone
  abbrev pub RestsOthers : Type 0
  RestsOthers = (at : HeldWorld) → ShownTo at → (f : ℕ) (name : DiskName) (bytes : List ℕ) → uses form at.world name ≡ false
      → images_of disk new f name bytes → images_of disk old f name bytes

-- what was done isn't told as a stop: no status of a report is one
abbrev pub IsNoStop : Report → Type 0
IsNoStop report = CutsShort (status_told (Ok report)) → ⊥
