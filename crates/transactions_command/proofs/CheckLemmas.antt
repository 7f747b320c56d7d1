-- Checks one after another.
use Rattle.std.proofs.Common.{◌≡◌, ◌⊎◌, ◌∙◌, List, [], ◌∷◌, ◌++◌, Option, None, Some, inl, inr, ⊎_elim, sym, ap, subst, arith}
use Rattle.std.specs.Prelude.{Result, Ok, Err}
use Rattle.std.specs.Option.{option_map, option_or}
use Rattle.backup_lines.specs.Spans.{Active}
use Rattle.site_model.specs.declared.disk_name.DiskName.{DiskName}
use Rattle.site_model.specs.declared.status.Status.{Status}
use Rattle.site_worlds.specs.Worlds.{Site as World}
use Rattle.site_worlds.specs.Allowed.{HasRing}
use Rattle.site_courses.specs.Faults.{Fault, needs_restart}
use Rattle.site_courses.specs.Courses.{if_active, if_log_lost, if_no_ring}
use Rattle.site_openings.specs.Openings.{AllowedBy, Check, Contents_of, IsOfDisks, RefusedBy, Refuses, all_lanes}
use Rattle.site_disk.specs.declared.disk.Disk.{Ghosts}
use Rattle.site_core.specs.declared.faults.SiteFault.{SiteFault}
use Rattle.site_core.specs.declared.faults.SiteFault.TheVariants.{OutOfMemory, DiskFault, NotFormatted, AlreadyFormatted, BadRecord, NeedsRestart, NoSuchSpace, NoSuchPage, ChunkLost, LogLost, LogFull, StoreFull, CatalogueFull, TooManyObjects, BootFull}
use Rattle.site_core.specs.declared.site.Site.{Site}
use Rattle.site_core.specs.Faults.{IsFailure, IsNoDiskFault, fault_in, status_in}
use Rattle.site_core.specs.Quiet.{IsQuiet}
use Rattle.site_opening.specs.Opens.{restoring}
use Rattle.site_forms.specs.Starts.{IsOfChunk}
use Rattle.transactions_command.specs.Entering.{if_unready}

-- what one list of checks or another refuses
pub refused_split : (contents : Contents_of) (checks more : List Check) (status : Status) → RefusedBy (checks ++ more) contents status
    → RefusedBy checks contents status ⊎ (AllowedBy checks contents × RefusedBy more contents status)
refused_split contents [] more status is = inr (tt, is)
refused_split contents (check ∷ checks) more status is = ⊎_elim
    (λ now. inl (inl now))
    (λ later. ⊎_elim (λ here. inl (inr (later.0, here))) (λ behind. inr ((later.0, behind.0), behind.1)) (refused_split contents checks more status later.1))
    is

-- what is read alike is the same contents
pub same_contents : (a b : Contents_of) → ((name : DiskName) → a name ≡ b name) → a ≡ b
same_contents a b same = λ i name. same name i

-- a refusal for lanes names a chunk
pub lanes_of_chunk : (contents : Contents_of) (status : Status) → Refuses all_lanes contents status → IsOfChunk status
lanes_of_chunk contents status refused = ⊎_elim
    (λ first. subst IsOfChunk (sym first.2) tt)
    (λ bad. subst IsOfChunk (sym bad.2) tt)
    refused.2

-- a restore under way is a refusal for what the disks hold, and no disk's failure

abbrev IsNoFailure : Result Unit SiteFault → Type 0
IsNoFailure (Ok none) = Unit {0}
IsNoFailure (Err fault) = IsOfDisks (status_in fault) × IsNoDiskFault fault

restoring_no_failure : (active : Option Active) → IsNoFailure (restoring active)
restoring_no_failure None = tt
restoring_no_failure (Some active) = (tt, tt)

pub restoring_refuses : (active : Option Active) (fault : SiteFault) → Err fault ≡ restoring active → IsOfDisks (status_in fault) × IsNoDiskFault fault
restoring_refuses active fault is = subst IsNoFailure (sym is) (restoring_no_failure active)

abbrev IsNoDisk : {A : Type 0} → Result A SiteFault → Type 0
IsNoDisk (Ok value) = Unit {0}
IsNoDisk (Err fault) = IsNoDiskFault fault

pub not_disk : {A : Type 0} (result : Result A SiteFault) (given fault : SiteFault) (name : DiskName) → result ≡ Err given → given ≡ fault → IsNoDiskFault fault
    → result ≡ Err (DiskFault name) → ⊥
not_disk result given fault name result_is given_is other is = subst IsNoDisk (sym result_is ∙ is) (subst IsNoDiskFault (sym given_is) other)

pub failure_or : (fault : SiteFault) → IsFailure fault ⊎ (IsFailure fault → ⊥)
failure_or OutOfMemory = inl tt
failure_or (DiskFault disk) = inl tt
failure_or NotFormatted = inr (λ is. is)
failure_or AlreadyFormatted = inr (λ is. is)
failure_or (BadRecord disk slot) = inr (λ is. is)
failure_or (NeedsRestart number) = inr (λ is. is)
failure_or (NoSuchSpace name) = inr (λ is. is)
failure_or (NoSuchPage page) = inr (λ is. is)
failure_or (ChunkLost space name) = inr (λ is. is)
failure_or LogLost = inr (λ is. is)
failure_or (LogFull why) = inr (λ is. is)
failure_or (StoreFull volume) = inr (λ is. is)
failure_or CatalogueFull = inr (λ is. is)
failure_or TooManyObjects = inr (λ is. is)
failure_or BootFull = inr (λ is. is)

-- two calls that write nothing
pub quiet_again : {D : Type 0} (disk : Ghosts D) (a b c : Site D) → IsQuiet disk a b → IsQuiet disk b c → IsQuiet disk a c
quiet_again disk a b c first second = record {
  images = λ f name bytes image. first.images f name bytes (second.images f name bytes image);
  written = λ name. omega (arith, first.written name, second.written name);
}

-- what refuses a site before its lanes
pub unready_lost : (site : World) (fault : SiteFault) → None ≡ if_active site → fault ≡ LogLost → site.ring ≡ None → if_unready site ≡ Some (fault_in fault)
unready_lost site fault none lost ring =
    ap (λ (o : Option Fault). option_or o (if_log_lost site)) (sym none) ∙ ap if_no_ring ring ∙ ap (λ (f : SiteFault). Some (fault_in f)) (sym lost)

pub ready_none : (site : World) → site.active ≡ None → (has : HasRing site) → if_unready site ≡ None
ready_none site none has = λ i. option_or (option_map (λ (restore : Active). needs_restart restore.number) (none i)) (if_no_ring (has.is i))
