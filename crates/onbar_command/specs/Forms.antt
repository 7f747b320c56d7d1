-- What every form promises, over a site of which nothing is opened yet.
use Rattle.std.specs.Prelude.{◌≡◌, ◌⊎◌, ℕ, ◌+◌, ◌≤◌, ◌^◌, List, [], true, false, IsTrue, IfErr, IfOk, IsErrOf, OnOk, Result, Ok}
use Rattle.command_grammar.specs.Words.{CommandForm, is_transactions}
use Rattle.script_lines.specs.Cutting.{TakesFront}
use Rattle.site_disk.specs.Causes.{Rose}
use Rattle.site_disk.specs.Ledger.{EraView}
use Rattle.site_disk.specs.declared.disk.Disk.{Ghosts}
use Rattle.site_disk.specs.declared.streams.Source.{Ghosts as SourceGhosts}
use Rattle.site_model.specs.declared.disk_name.DiskName.{DiskName}
use Rattle.site_model.specs.declared.status.Status.{Status}
use Rattle.site_model.specs.declared.status.Status.TheVariants.{Ok as Done, ReadFault, WriteFault, DiskFault}
use Rattle.site_core.specs.declared.site.Site.{Site}
use Rattle.site_core.specs.Disks.{contents_of, faults_on, MayUseAll}
use Rattle.site_core.specs.Quiet.{IsQuiet}
use Rattle.site_commands.specs.Commands.{CutsShort}
use Rattle.site_openings.specs.Openings.{DisksRefuse, IsOfDisks, IsOpenFor}
use Rattle.site_forms.specs.declared.report.Report.{Report}
use Rattle.site_forms.specs.Forms.{FinishesBy, IsNoStop, PassesBy, RestsOthers}
use Rattle.site_forms.specs.Reports.{status_told}
use Rattle.site_forms.specs.Starts.{IsKept, IsOfChunk, WritesWithin}
use Rattle.onbar_command.specs.Answers.{MayMeet, Meets}

-- From one era on to another one, over the site and the source of its script before it and behind it, at a moment.
pub record FormDoes {D S : Type 0} (disk : Ghosts D) (source : SourceGhosts S) (form : CommandForm) (from to : EraView) (old new : Site D) (before after : S) (moment : ℕ)
    (result : Result Report Status) : Type 0 where
  -- it is refused for what the disks hold, or they hold what it needs
  pub refused : IsTrue disk.is_modelled
      → IfErr result (λ status. CutsShort status ⊎ (DisksRefuse form (contents_of disk old) status ⊎ Meets form (contents_of disk old) status))
  pub opens : IsTrue disk.is_modelled → OnOk result (IsOpenFor form (contents_of disk old))
  pub kept : IfErr result (λ status. CutsShort status ⊎ ((IsOfChunk status ⊎ IsKept disk old new) ⊎ MayMeet form status))
  pub harmless : IsTrue disk.is_modelled → (status : Status) → DisksRefuse form (contents_of disk old) status
      → (IsOfChunk status ⊎ IsQuiet disk old new) × (after ≡ before)
  -- from a fit world that the disks show which it uses
  pub passes : IsTrue disk.is_modelled → (is_transactions form ≡ true → IsTrue source.is_modelled) → PassesBy disk form from.number old new moment (source.left before)
  pub finishes : IsTrue disk.is_modelled → (is_transactions form ≡ true → IsTrue source.is_modelled)
      → FinishesBy disk form from.number old new to.number moment (source.left before) (source.left after) result
  pub rests : IsTrue disk.is_modelled → RestsOthers disk form from.number old new
  pub written : OnOk result (WritesWithin disk form old new)
  -- which statuses come, and why
  pub answered : IfErr result (λ status. CutsShort status ⊎ IsOfDisks status)
  pub no_stop : IfOk result IsNoStop
  pub read_fault : IsErrOf result ReadFault → Rose (source.faults before) (source.faults after)
  pub no_write_fault : IsErrOf result WriteFault → ⊥
  pub disk_fault : (name : DiskName) → IsErrOf result (DiskFault name) → Rose (faults_on disk old name) (faults_on disk new name)
  -- what it reads of a script
  pub unread : is_transactions form ≡ false → after ≡ before
  pub taken : IsTrue source.is_modelled → TakesFront (source.left before) (source.left after)
  pub to_end : IsTrue source.is_modelled → is_transactions form ≡ true → IfOk result (λ report. status_told (Ok report) ≡ Done → source.left after ≡ [])
  pub source_later : source.faults before ≤ source.faults after
  -- in which eras the disks may be used behind it
  pub eras : to.number ≤ from.number + 2 ^ 32
  pub era_later : from.number ≤ to.number
  pub key : to.key ≡ from.key
  pub may : MayUseAll disk to new
