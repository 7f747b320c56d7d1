-- What a command promises over a whole site.
use Rattle.std.specs.Prelude.{◌≡◌, ◌⊎◌, ℕ, List, ◌++◌, Bool, false, IsTrue, Result, Ok, Err}
use Rattle.command_grammar.specs.Words.{Command}
use Rattle.site_disk.specs.declared.disk.Disk.{Ghosts}
use Rattle.site_model.specs.declared.disk_name.DiskName.{DiskName}
use Rattle.site_model.specs.declared.status.Status.{Status}
use Rattle.site_worlds.specs.Fitness.{IsFit}
use Rattle.site_layouts.specs.Layouts.{HeldWorld}
use Rattle.site_core.specs.declared.site.Site.{Site}
use Rattle.site_core.specs.Disks.{contents_of, images_of}
use Rattle.site_commands.specs.Runs.{reads_script, run_command}
use Rattle.site_commands.specs.Commands.{used_by, CutsShort, HasDone, IsPassed, Passes, Printed, StandOn}
use Rattle.site_commands.specs.Stops.{KeepsPromise}
use Rattle.site_forms.specs.declared.report.Report.{Report}
use Rattle.site_forms.specs.Reports.{status_told, text_told}
use Rattle.site_forms.specs.Starts.{start_of}

-- a fit world that the disks show which the command uses, whatever the others hold
abbrev pub ShownFor : {D : Type 0} → Ghosts D → Result Command ℕ → Site D → HeldWorld → Type 0
ShownFor disk command site at = IsFit at.world × StandOn (used_by command at.world) (contents_of disk site) at

-- from an era on, over the site at the start and at the end
module _ {D : Type 0} (disk : Ghosts D) (command : Result Command ℕ) (from : ℕ) (old new : Site D) where
  -- it leaves the other disks alone
  abbrev pub RestsFor : Type 0
  RestsFor = (at : HeldWorld) → ShownFor disk command old at → (f : ℕ) (name : DiskName) (bytes : List ℕ) → used_by command at.world name ≡ false
      → images_of disk new f name bytes → images_of disk old f name bytes

  -- and at a moment, with a script
  module _ (moment : ℕ) (script : List ℕ) where
    -- wherever it is stopped, it passes worlds of its run alone
    abbrev pub PassesFor : Type 0
    PassesFor = (at : HeldWorld) → ShownFor disk command old at
        → Passes (start_of disk from old) (used_by command at.world) (images_of disk new) at (IsPassed at (run_command moment script command at.world))

    -- each choice of crash images stands for what was there, or for a world that it passes from one that its disks showed
    abbrev pub PromisesFor : Type 0
    PromisesFor = KeepsPromise (start_of disk from old) (used_by command) (images_of disk new) (run_command moment script command)

    module _ (at : HeldWorld) (to : ℕ) where
      -- its work is done, and leaves the rest of the script
      abbrev pub DidWork : Status → List ℕ → Type 0
      DidWork result after =
          HasDone (reads_script command) (start_of disk from old) (used_by command at.world) at (run_command moment script command at.world) result after
          (contents_of disk new) to (images_of disk new)

      -- it ended with the status and the text of its run, and did its work; whether the sink is modelled
      pub record Did (result : Status) (after : List ℕ) (tells : Bool) (taken_before taken_after : List ℕ) : Type 0 where
        pub status : result ≡ (run_command moment script command at.world).status
        pub text : IsTrue tells → taken_after ≡ taken_before ++ (run_command moment script command at.world).text
        pub work : DidWork result after

      -- it was cut short, and printed nothing, or a front of its text once all work stood
      abbrev pub PrintedFor : (taken_before taken_after : List ℕ) → Type 0
      PrintedFor before after =
          Printed (start_of disk from old) (used_by command at.world) at (run_command moment script command at.world) before after to (images_of disk new)

      -- only its text is to be printed
      pub record IsOver (result : Result Report Status) (after : List ℕ) : Type 0 where
        pub status : (run_command moment script command at.world).status ≡ status_told result
        pub text : (run_command moment script command at.world).text ≡ text_told result
        pub work : DidWork (status_told result) after

      -- so it is, unless it was cut short
      abbrev pub ComesTo : Result Report Status → List ℕ → Type 0
      ComesTo (Ok report) after = IsOver (Ok report) after
      ComesTo (Err status) after = CutsShort status ⊎ IsOver (Err status) after
