-- Checks one after another.
use Rattle.std.proofs.Common.{◌≡◌, ◌⊎◌, ◌∙◌, ℕ, List, [], ◌∷◌, ◌++◌, Option, None, Some, inl, inr, ⊎_elim, sym, ap, subst, arith}
use Rattle.std.specs.Prelude.{Result, Ok, Err}
use Rattle.std.specs.Option.{option_map, option_or}
use Rattle.backup_lines.specs.Spans.{Active}
use Rattle.boot_file.specs.Places.{HoldsBoot}
use Rattle.boot_file.specs.PlacesLaws.{one_boot}
use Rattle.site_headers.specs.Heads.{Head}
use Rattle.site_headers.specs.HeaderLaws.{one_catalogue_header}
use Rattle.site_model.specs.declared.disk_name.DiskName.{DiskName}
use Rattle.site_model.specs.declared.disk_name.DiskName.TheVariants.{Boot}
use Rattle.site_model.specs.declared.status.Status.{Status}
use Rattle.world_laws.specs.ListLaws.{none_some}
use Rattle.site_worlds.specs.Worlds.{Site as World}
use Rattle.site_worlds.specs.Allowed.{HasRing}
use Rattle.site_courses.specs.Faults.{Fault, needs_restart}
use Rattle.site_courses.specs.Courses.{if_active, if_log_lost, if_no_ring}
use Rattle.site_openings.specs.Openings.{LaneOfAllows, LaneOfRefuses, LanesAllow, LanesRefuse, shown_lane, shown_place, AllowedBy, Allows, Check, Contents_of, IsOfDisks, Named, RefusedBy, Refuses, no_restore}
use Rattle.site_disk.specs.declared.disk.Disk.{Ghosts}
use Rattle.site_core.specs.declared.faults.SiteFault.{SiteFault}
use Rattle.site_core.specs.declared.faults.SiteFault.TheVariants.{OutOfMemory, DiskFault, NotFormatted, AlreadyFormatted, BadRecord, NeedsRestart, NoSuchSpace, NoSuchPage, ChunkLost, LogLost, LogFull, StoreFull, CatalogueFull, TooManyObjects, BootFull}
use Rattle.site_core.specs.declared.site.Site.{Site}
use Rattle.site_core.specs.Faults.{IsFailure, IsNoDiskFault, fault_in, status_in}
use Rattle.site_core.specs.Quiet.{IsQuiet}
use Rattle.site_opening.specs.Opens.{restoring}
use Rattle.site_forms.specs.Starts.{IsOfChunk}
use Rattle.show_command.specs.Showing.{IsPlacedAt, IsUnplaced, if_not_there, if_unready}
use Rattle.show_command.specs.declared.opening.Place.{Place}
use Rattle.onbar_grammar.specs.Script.{place_of}
use Rattle.site_model.specs.Runs.{place_refusal}

module _ (contents : Contents_of) where
  module _ (status : Status) where
    pub refused_front : (checks more : List Check) → RefusedBy checks contents status → RefusedBy (checks ++ more) contents status
    refused_front [] more is = absurd is
    refused_front (check ∷ checks) more is = ⊎_elim (λ now. inl now) (λ later. inr (later.0, refused_front checks more later.1)) is

    pub refused_behind : (checks more : List Check) → AllowedBy checks contents → RefusedBy more contents status → RefusedBy (checks ++ more) contents status
    refused_behind [] more allowed is = is
    refused_behind (check ∷ checks) more allowed is = inr (allowed.0, refused_behind checks more allowed.1 is)

    pub refused_split : (checks more : List Check) → RefusedBy (checks ++ more) contents status
        → RefusedBy checks contents status ⊎ (AllowedBy checks contents × RefusedBy more contents status)
    refused_split [] more is = inr (tt, is)
    refused_split (check ∷ checks) more is = ⊎_elim
        (λ now. inl (inl now))
        (λ later. ⊎_elim (λ here. inl (inr (later.0, here))) (λ behind. inr ((later.0, behind.0), behind.1)) (refused_split checks more later.1))
        is

  pub allowed_both : (checks more : List Check) → AllowedBy checks contents → AllowedBy more contents → AllowedBy (checks ++ more) contents
  allowed_both [] more first second = second
  allowed_both (check ∷ checks) more first second = (first.0, allowed_both checks more first.1 second)

  -- the catalogue names one head, so a boot file without a restore under way isn't one with it
  pub one_named : (a b : Head) → Named a contents → Named b contents → a ≡ b
  one_named a b named also = one_catalogue_header a b named.is_head also.is_head (sym named.header.tail_stands ∙ also.header.tail_stands)

  pub restore_apart : (status : Status) → Allows no_restore contents → Refuses no_restore contents status → ⊥
  restore_apart status (head, named, (lines, number, holds)) (other, also, (others, another, active, held, is)) =
      none_some ((one_boot other.site lines others number another None (Some active) (contents Boot)
      (subst (λ (h : Head). HoldsBoot h.site lines number None (contents Boot)) (one_named head other named also) holds) held).active_is)

-- what is read alike is the same contents
pub same_contents : (a b : Contents_of) → ((name : DiskName) → a name ≡ b name) → a ≡ b
same_contents a b same = λ i name. same name i

-- a refusal for a lane names its chunk
pub lane_of_chunk : (wanted : Option ℕ) (head : Head) (contents : Contents_of) (status : Status) → LanesRefuse wanted head contents status → IsOfChunk status
lane_of_chunk wanted head contents status refused = ⊎_elim
    (λ first. subst IsOfChunk (sym first.2) tt)
    (λ bad. subst IsOfChunk (sym bad.2) tt)
    refused

-- two heads that the catalogue names are one, so a refusal of the shown lane is that of the lane of the place
module _ (name : List ℕ) (page : Option ℕ) (head : Head) (found : Place) (contents : Contents_of) (named : Named head contents)
    (placed : IsPlacedAt name page (place_of name head.spaces) found) where
  pub lane_refuses : (status : Status) → LanesRefuse (Some found.space) head contents status → Refuses (shown_lane name) contents status
  lane_refuses status is = (head, named, subst (λ (p : Option (ℕ × ℕ)). LaneOfRefuses p head contents status) (sym placed.there) is)

  pub lane_allows : LanesAllow (Some found.space) head contents → Allows (shown_lane name) contents
  lane_allows is = (head, named, subst (λ (p : Option (ℕ × ℕ)). LaneOfAllows p head contents) (sym placed.there) is)

  pub refuses_lane : (status : Status) → Refuses (shown_lane name) contents status → LanesRefuse (Some found.space) head contents status
  refuses_lane status (other, also, is) =
      subst (λ (p : Option (ℕ × ℕ)). LaneOfRefuses p head contents status) placed.there
      (subst (λ (h : Head). LaneOfRefuses (place_of name h.spaces) h contents status) (one_named contents other head also named) is)

  pub place_allows : Allows (shown_place name page) contents
  place_allows = (head, named, placed.allowed)

  pub place_apart : (status : Status) → Refuses (shown_place name page) contents status → ⊥
  place_apart status (other, also, is) =
      none_some (sym placed.allowed ∙ subst (λ (h : Head). place_refusal name page (place_of name h.spaces) ≡ Some status) (one_named contents other head also named) is)

pub place_refuses : (name : List ℕ) (page : Option ℕ) (head : Head) (fault : SiteFault) (contents : Contents_of) → Named head contents
    → IsUnplaced name page (place_of name head.spaces) fault → Refuses (shown_place name page) contents (status_in fault)
place_refuses name page head fault contents named unplaced = (head, named, unplaced.status)

-- a restore under way is a refusal for what the disks hold, and no disk's failure

abbrev IsNoFailure : Result Unit SiteFault → Type 0
IsNoFailure (Ok none) = Unit {0}
IsNoFailure (Err fault) = IsOfDisks (status_in fault) × IsNoDiskFault fault

restoring_no_failure : (active : Option Active) → IsNoFailure (restoring active)
restoring_no_failure None = tt
restoring_no_failure (Some active) = (tt, tt)

pub restoring_refuses : (active : Option Active) (fault : SiteFault) → Err fault ≡ restoring active → IsOfDisks (status_in fault) × IsNoDiskFault fault
restoring_refuses active fault is = subst IsNoFailure (sym is) (restoring_no_failure active)

abbrev IsNoDisk : {A : Type 0} → Result A SiteFault → Type 0
IsNoDisk (Ok value) = Unit {0}
IsNoDisk (Err fault) = IsNoDiskFault fault

pub not_disk : {A : Type 0} (result : Result A SiteFault) (given fault : SiteFault) (name : DiskName) → result ≡ Err given → given ≡ fault → IsNoDiskFault fault
    → result ≡ Err (DiskFault name) → ⊥
not_disk result given fault name result_is given_is other is = subst IsNoDisk (sym result_is ∙ is) (subst IsNoDiskFault (sym given_is) other)

pub failure_or : (fault : SiteFault) → IsFailure fault ⊎ (IsFailure fault → ⊥)
failure_or OutOfMemory = inl tt
failure_or (DiskFault disk) = inl tt
failure_or NotFormatted = inr (λ is. is)
failure_or AlreadyFormatted = inr (λ is. is)
failure_or (BadRecord disk slot) = inr (λ is. is)
failure_or (NeedsRestart number) = inr (λ is. is)
failure_or (NoSuchSpace name) = inr (λ is. is)
failure_or (NoSuchPage page) = inr (λ is. is)
failure_or (ChunkLost space name) = inr (λ is. is)
failure_or LogLost = inr (λ is. is)
failure_or (LogFull why) = inr (λ is. is)
failure_or (StoreFull volume) = inr (λ is. is)
failure_or CatalogueFull = inr (λ is. is)
failure_or TooManyObjects = inr (λ is. is)
failure_or BootFull = inr (λ is. is)

-- two calls that write nothing
pub quiet_again : {D : Type 0} (disk : Ghosts D) (a b c : Site D) → IsQuiet disk a b → IsQuiet disk b c → IsQuiet disk a c
quiet_again disk a b c first second = record {
  images = λ f name bytes image. first.images f name bytes (second.images f name bytes image);
  written = λ name. omega (arith, first.written name, second.written name);
}

-- what refuses a site before its lane
pub unready_active : (name : List ℕ) (page : Option ℕ) (site : World) (fault : SiteFault) → Some (fault_in fault) ≡ if_active site → if_unready name page site ≡ Some (fault_in fault)
unready_active name page site fault is = ap (λ (o : Option Fault). option_or (option_or o (if_not_there name page site)) (if_log_lost site)) (sym is)

pub unready_place : (name : List ℕ) (page : Option ℕ) (site : World) (fault : SiteFault) → None ≡ if_active site → IsUnplaced name page (place_of name site.head.spaces) fault
    → if_unready name page site ≡ Some (fault_in fault)
unready_place name page site fault none unplaced =
    ap (λ (o : Option Fault). option_or (option_or o (if_not_there name page site)) (if_log_lost site)) (sym none)
    ∙ ap (λ (o : Option Fault). option_or o (if_log_lost site)) unplaced.fault_is

pub unready_lost : (name : List ℕ) (page : Option ℕ) (site : World) (found : Place) (fault : SiteFault) → None ≡ if_active site → IsPlacedAt name page (place_of name site.head.spaces) found
    → fault ≡ LogLost → site.ring ≡ None → if_unready name page site ≡ Some (fault_in fault)
unready_lost name page site found fault none placed lost ring =
    ap (λ (o : Option Fault). option_or (option_or o (if_not_there name page site)) (if_log_lost site)) (sym none)
    ∙ ap (λ (o : Option Fault). option_or o (if_log_lost site)) placed.none
    ∙ ap if_no_ring ring ∙ ap (λ (f : SiteFault). Some (fault_in f)) (sym lost)

pub ready_none : (name : List ℕ) (page : Option ℕ) (site : World) (found : Place) → site.active ≡ None → IsPlacedAt name page (place_of name site.head.spaces) found → (has : HasRing site)
    → if_unready name page site ≡ None
ready_none name page site found none placed has =
    λ i. option_or (option_or (option_map (λ (restore : Active). needs_restart restore.number) (none i)) (placed.none i)) (if_no_ring (has.is i))

pub one_fault : {A : Type 0} (result : Result A SiteFault) (told fault other : SiteFault) → result ≡ Err told → told ≡ fault → result ≡ Err other → fault ≡ other
one_fault result told fault other is same err = cc
