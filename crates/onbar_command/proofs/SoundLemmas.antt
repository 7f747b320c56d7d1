-- The promise on stops, over disks that keep the laws of images.
use Rattle.std.proofs.Common.{inl, ℕ, ◌<◌, ◌≤◌, List, [], Option, None, Some, Result, Err, refl, sym, subst, arith}
use Rattle.command_grammar.specs.Words.{Command}
use Rattle.site_disk.specs.declared.disk.Disk.{Ghosts}
use Rattle.site_disk.specs.Ledger.{EraView}
use Rattle.site_worlds.specs.Fitness.{IsFit}
use Rattle.site_layouts.specs.Layouts.{HeldWorld}
use Rattle.site_core.specs.declared.site.Site.{Site}
use Rattle.site_core.specs.Disks.{bytes_or, disk_named, image_or, images_of, may_or, MayUseAll}
use Rattle.site_commands.specs.Commands.{IsPassed, IsSound}
use Rattle.site_commands.specs.Runs.{run_command}
use Rattle.site_commands.specs.Stops.{promise, stays_sound}
use Rattle.site_forms.specs.Starts.{start_of}
use Rattle.onbar_command.specs.Commands.{PassesFor, PromisesFor, RestsFor}

module _ {D : Type 0} (disk : Ghosts D) (era : EraView)
    (reads : (it : D) (f : ℕ) → (disk.ledger it).last ≤ f → disk.image it f (disk.bytes it))
    (counts : (it : D) (f g : ℕ) (c : List ℕ) → (disk.ledger it).last ≤ f → (disk.ledger it).last < g → disk.image it g c → disk.image it f c) where
  reads_or : (it : Option D) → may_or disk era it → image_or disk it era.number (bytes_or disk it)
  reads_or None may = refl
  reads_or (Some it) may = reads it era.number may.not_past

  counts_or : (it : Option D) → may_or disk era it → (f : ℕ) (c : List ℕ) → era.number < f → image_or disk it f c → image_or disk it era.number c
  counts_or None may f c lt is = is
  counts_or (Some it) may f c lt is = let past = may.not_past in counts it era.number f c past (omega arith) is

  module _ (command : Result Command ℕ) (old new : Site D) (moment : ℕ) (script : List ℕ) (may : MayUseAll disk era old)
      (rests : RestsFor disk command era.number old new) (passes : PassesFor disk command era.number old new moment script)
      (sound : IsSound era.number (images_of disk old)) where
    pub promised_so : PromisesFor disk command era.number old new moment script
    promised_so = promise command (start_of disk era.number old) (images_of disk new) (run_command moment script command)
        (λ name. reads_or (disk_named old name) (may name)) (λ f name c lt is. counts_or (disk_named old name) (may name) f c lt is)
        (λ at fit stand. rests at (fit, stand)) (λ at fit stand. passes at (fit, stand)) sound

    pub sound_so : ((begun other : HeldWorld) → IsFit begun.world → IsPassed begun (run_command moment script command begun.world) other → IsFit other.world)
        → (f : ℕ) → era.number ≤ f → IsSound f (images_of disk new)
    sound_so = stays_sound command (start_of disk era.number old) (images_of disk new) (run_command moment script command)
        (λ name. reads_or (disk_named old name) (may name)) (λ f name c lt is. counts_or (disk_named old name) (may name) f c lt is)
        (λ at fit stand. rests at (fit, stand)) (λ at fit stand. passes at (fit, stand)) sound

  -- a command that used no disk
  pub sound_still : (site : Site D) → MayUseAll disk era site → IsSound era.number (images_of disk site) → (f : ℕ) → era.number ≤ f → IsSound f (images_of disk site)
  sound_still site may sound =
      sound_so (Err 0) site site 0 [] may (λ at shown f name c isnt is. is) (λ at shown. inl (λ f name c is. is)) sound
      (λ begun other fit is. subst IsFit (sym is) fit)
