-- How a site is entered for a script: what its disks are asked, why it is refused, and what it comes to.
use Rattle.std.specs.Prelude.{◌≡◌, ◌⊎◌, ℕ, ◌+◌, ◌<◌, ◌≤◌, List, ◌∷◌, ◌++◌, Bool, true, false, Option, None, Some, Result, Ok, Err}
use Rattle.std.specs.Option.{option_or}
use Rattle.log_history.specs.Transactions.{Table}
use Rattle.command_grammar.specs.Words.{transactions_form}
use Rattle.site_disk.specs.declared.disk.Disk.{Ghosts}
use Rattle.site_headers.specs.Heads.{Head}
use Rattle.site_headers.specs.Views.{head_of}
use Rattle.site_model.specs.declared.disk_name.DiskName.{DiskName}
use Rattle.site_model.specs.declared.disk_name.DiskName.TheVariants.{Log}
use Rattle.site_model.specs.declared.status.Status.{Status}
use Rattle.site_model.specs.declared.status.Status.TheVariants.{BadRecord}
use Rattle.site_worlds.specs.Worlds.{Site, formatted}
use Rattle.site_courses.specs.Faults.{Fault}
use Rattle.site_courses.specs.Courses.{if_active, if_any_lost, if_log_lost}
use Rattle.site_layouts.specs.Stages.{HeldSite, ShowsHeld, StandsFor}
use Rattle.site_openings.specs.Openings.{Check, no_restore}
use Rattle.site_core.specs.declared.faults.SiteFault.{SiteFault}
use Rattle.site_core.specs.declared.site.Site.{Site as Values}
use Rattle.site_core.specs.Disks.{contents_of, images_of}
use Rattle.site_core.specs.Faults.{IsFailure, IsNamed, fault_in}
use Rattle.site_core.specs.Layers.{layers}
use Rattle.site_commands.specs.Commands.{AddsNone, uses}
use Rattle.site_opening.specs.Opens.{FindsLog, log_checks, store_checks}
use Rattle.site_scripts.specs.Extending.{MayRun}
use Rattle.site_forms.specs.Starts.{IsKept}
use Rattle.transactions_command.specs.declared.opening.Begun.{Begun}

-- what is asked of store, boot file and log; the lanes are asked behind them
abbrev pub site_checks : List Check
site_checks = store_checks ++ no_restore ∷ log_checks

-- why a site is refused before its lanes are looked at: a restore is under way, or its log is lost
abbrev pub if_unready : Site → Option Fault
if_unready site = option_or (if_active site) (if_log_lost site)

-- or one of them is lost
abbrev pub if_refused : Site → Option Fault
if_refused site = option_or (if_unready site) (if_any_lost site)

-- a record of the log isn't in the grammar any more
abbrev pub IsOfLog : Status → Type 0
IsOfLog (BadRecord Log slot) = Unit {0}
IsOfLog status = ⊥

-- the form uses this disk of a site
abbrev pub is_used : HeldSite → DiskName → Bool
is_used at name = uses transactions_form (formatted at.site) name

module _ {D : Type 0} (disk : Ghosts D) where
  -- With no restore under way the log was opened in an era, behind store and boot file.
  pub record FindsBegun (era : ℕ) (head : Head) (table : Table) (at : HeldSite) (site : Values D) : Type 0 where
    pub head_is : head ≡ at.site.head
    pub none : at.site.active ≡ None
    pub found : FindsLog disk era table at site

  -- what a read gives of each disk that the form uses shows the site
  abbrev pub ShowsUsed : HeldSite → Values D → Type 0
  ShowsUsed at site = (name : DiskName) → is_used at name ≡ true → ShowsHeld name at (contents_of disk site name)

  -- The values stand for a site over which a script may run, in the third era behind the start or a later one.
  pub record IsReady (era from : ℕ) (head : Head) (table : Table) (at : HeldSite) (site : Values D) : Type 0 where
    pub third : era + 3 ≤ from
    pub may : MayRun head table at.site
    pub stands : StandsFor (layers disk) 3 from site at

  -- Lanes were opened behind the second era: up to it no image is new, and each later one shows the site still, or it was there, of a disk that
  -- isn't used.
  pub record StaysIn (era to : ℕ) (at : HeldSite) (old new : Values D) : Type 0 where
    pub second : era + 2 ≤ to
    pub first : (f : ℕ) (name : DiskName) (bytes : List ℕ) → f ≤ era + 2 → images_of disk new f name bytes → images_of disk old f name bytes
    pub later : (f : ℕ) (name : DiskName) (bytes : List ℕ) → era + 2 < f → images_of disk new f name bytes
        → ShowsHeld name at bytes ⊎ (images_of disk old f name bytes × (is_used at name ≡ false))
    pub aside : (f : ℕ) (name : DiskName) (bytes : List ℕ) → is_used at name ≡ false → images_of disk new f name bytes → images_of disk old f name bytes

  -- no image is new, or only those of lanes that were opened
  abbrev pub MayStay : (era to : ℕ) → HeldSite → (old new : Values D) → Type 0
  MayStay era to at old new = AddsNone (images_of disk old) (images_of disk new) ⊎ StaysIn era to at old new

  -- it is refused as its course says, and the disks show it still
  pub record IsRefusedAt (era to : ℕ) (at : HeldSite) (old new : Values D) (fault : SiteFault) : Type 0 where
    pub refusal : if_refused at.site ≡ Some (fault_in fault)
    pub named : IsNamed at.site.head.spaces fault
    pub still : IsKept disk old new ⊎ (StaysIn era to at old new × ShowsUsed at new)

  -- what comes of a site that is entered
  abbrev pub Enters : (era to : ℕ) → HeldSite → (old new : Values D) → Result Begun SiteFault → Type 0
  Enters era to at old new (Ok begun) = IsReady era to (head_of begun.head) begun.table at new × StaysIn era to at old new
  Enters era to at old new (Err fault) = MayStay era to at old new × (IsFailure fault ⊎ IsRefusedAt era to at old new fault)
