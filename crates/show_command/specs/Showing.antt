-- How a site is entered for a space that is shown: what its disks are asked, why it is refused, and what it comes to.
use Rattle.std.specs.Prelude.{◌≡◌, ◌⊎◌, ℕ, ◌+◌, ◌<◌, ◌≤◌, List, ◌∷◌, ◌++◌, slice_get, Bool, true, false, Option, None, Some, Result, Ok, Err}
use Rattle.std.specs.Option.{option_or}
use Rattle.onbar_grammar.specs.Script.{place_of}
use Rattle.command_grammar.specs.Words.{show_form}
use Rattle.log_history.specs.Effects.{Page}
use Rattle.page_texts.specs.Texts.{page_text, pages_text}
use Rattle.site_disk.specs.declared.disk.Disk.{Ghosts}
use Rattle.site_headers.specs.Heads.{Head}
use Rattle.site_model.specs.declared.disk_name.DiskName.{DiskName}
use Rattle.site_model.specs.declared.disk_name.DiskName.TheVariants.{Log, Chunk}
use Rattle.site_model.specs.declared.status.Status.{Status}
use Rattle.site_model.specs.declared.status.Status.TheVariants.{BadRecord as BadSlot}
use Rattle.site_model.specs.Runs.{place_refusal, shown_text}
use Rattle.site_worlds.specs.Worlds.{Site, formatted}
use Rattle.site_worlds.specs.Allowed.{HasRing}
use Rattle.site_courses.specs.Faults.{Fault, no_such_space}
use Rattle.site_courses.specs.Courses.{if_active, if_log_lost, if_no_page, if_this_lost, lane_to_end}
use Rattle.site_layouts.specs.Stages.{HeldSite, ShowsHeld, StandsFor}
use Rattle.site_openings.specs.Openings.{Check, no_restore, shown_place}
use Rattle.site_core.specs.declared.faults.SiteFault.{SiteFault}
use Rattle.site_core.specs.declared.faults.SiteFault.TheVariants.{OutOfMemory, DiskFault, NotFormatted, AlreadyFormatted, BadRecord, NeedsRestart, NoSuchSpace, NoSuchPage, ChunkLost, LogLost, LogFull, StoreFull, CatalogueFull, TooManyObjects, BootFull}
use Rattle.lane_texts.specs.declared.faults.ListFault.{ListFault}
use Rattle.lane_texts.specs.declared.faults.ListFault.TheVariants.{OutOfMemory as NoMemory, Failed, BadPage}
use Rattle.walks.specs.Follows.{Ends}
use Rattle.walks.specs.Courses.{after_all}
use Rattle.site_worlds.specs.Moves.{site_rules}
use Rattle.site_core.specs.declared.site.Site.{Site as Values}
use Rattle.site_core.specs.Disks.{contents_of, images_of}
use Rattle.site_core.specs.Faults.{IsFailure, IsNamed, IsNoDiskFault, fault_in, status_in}
use Rattle.site_core.specs.Layers.{layers}
use Rattle.site_commands.specs.Commands.{AddsNone, uses}
use Rattle.site_opening.specs.Opens.{log_checks, store_checks}
use Rattle.site_openings.specs.Openings.{IsOfDisks}
use Rattle.site_lane_opening.specs.Left.{OneLane}
use Rattle.site_forms.specs.Starts.{IsKept}
use Rattle.show_command.specs.declared.opening.Place.{Place}
use Rattle.show_command.specs.Bringing.{MayBring}

-- a place as a pair
abbrev pub pair_of : Place → ℕ × ℕ
pair_of place = (place.space, place.pages)

-- what is asked of store, boot file, place and log; the lane is asked behind them
abbrev pub show_checks : List ℕ → Option ℕ → List Check
show_checks name page = store_checks ++ no_restore ∷ shown_place name page ∷ log_checks

-- why a site shows no such space or page, as a fault of a course
abbrev pub if_unplaced : List ℕ → Option ℕ → Option (ℕ × ℕ) → Option Fault
if_unplaced name page None = Some (no_such_space name)
if_unplaced name page (Some place) = if_no_page page place.1

abbrev pub if_not_there : List ℕ → Option ℕ → Site → Option Fault
if_not_there name page site = if_unplaced name page (place_of name site.head.spaces)

-- why a site is refused before its lane is looked at
abbrev pub if_unready : List ℕ → Option ℕ → Site → Option Fault
if_unready name page site = option_or (option_or (if_active site) (if_not_there name page site)) (if_log_lost site)

-- or that is lost
abbrev pub if_lane_lost : Option (ℕ × ℕ) → Site → Option Fault
if_lane_lost None site = None
if_lane_lost (Some place) site = if_this_lost place.0 site

abbrev pub if_refused : List ℕ → Option ℕ → Site → Option Fault
if_refused name page site = option_or (if_unready name page site) (if_lane_lost (place_of name site.head.spaces) site)

-- the place that is found, or why there is none
pub record IsUnplaced (name : List ℕ) (page : Option ℕ) (place : Option (ℕ × ℕ)) (fault : SiteFault) : Type 0 where
  pub status : place_refusal name page place ≡ Some (status_in fault)
  pub fault_is : if_unplaced name page place ≡ Some (fault_in fault)
  pub of_disks : IsOfDisks (status_in fault)
  pub no_disk : IsNoDiskFault fault

pub record IsPlacedAt (name : List ℕ) (page : Option ℕ) (place : Option (ℕ × ℕ)) (found : Place) : Type 0 where
  pub there : place ≡ Some (pair_of found)
  pub allowed : place_refusal name page place ≡ None
  pub none : if_unplaced name page place ≡ None
  pub within : (n : ℕ) → page ≡ Some n → n < found.pages

abbrev pub IsPlaced : List ℕ → Option ℕ → Option (ℕ × ℕ) → Result Place SiteFault → Type 0
IsPlaced name page place (Ok found) = IsPlacedAt name page place found
IsPlaced name page place (Err fault) = IsUnplaced name page place fault

-- a record of the log, or a page, isn't as it should be when it is read
abbrev pub IsOfReading : Status → Type 0
IsOfReading (BadSlot Log slot) = Unit {0}
IsOfReading (BadSlot (Chunk n) slot) = Unit {0}
IsOfReading status = ⊥

-- the form uses this disk of a site
abbrev pub is_used : List ℕ → Option ℕ → HeldSite → DiskName → Bool
is_used name page at disk = uses (show_form name page) (formatted at.site) disk

-- what is told of pages
abbrev pub listed : ℕ → List ℕ → Option ℕ → List Page → List ℕ → Type 0
listed space name None pages text = text ≡ pages_text space name pages
listed space name (Some number) pages text = (page : Page) → slice_get pages number ≡ Some page → text ≡ page_text name number page

module _ {D : Type 0} (disk : Ghosts D) (name : List ℕ) (page : Option ℕ) where
  -- With no restore under way the log was opened in an era, behind store and boot file.
  pub record FindsPlace (era : ℕ) (head : Head) (place : Place) (at : HeldSite) (site : Values D) : Type 0 where
    pub head_is : head ≡ at.site.head
    pub none : at.site.active ≡ None
    pub placed : IsPlacedAt name page (place_of name at.site.head.spaces) place
    pub has : HasRing at.site
    pub stands : StandsFor (layers disk) 2 (era + 1) site at

  -- what a read gives of each disk that the form uses shows the site
  abbrev pub ShowsUsed : HeldSite → Values D → Type 0
  ShowsUsed at site = (other : DiskName) → is_used name page at other ≡ true → ShowsHeld other at (contents_of disk site other)

  -- The values stand for a site whose lane may be brought to the end, in the third era behind the start or a later one.
  pub record IsReady (era from : ℕ) (place : Place) (at : HeldSite) (site : Values D) : Type 0 where
    pub third : era + 3 ≤ from
    pub placed : IsPlacedAt name page (place_of name at.site.head.spaces) place
    pub may : MayBring place.space at.site
    pub stands : StandsFor (layers disk) 2 from site at
    pub lane : OneLane disk from place.space at site

  -- The lane was opened behind the second era: up to it no image is new, and each later one shows the site still, or it was there, of a disk
  -- that isn't used.
  pub record StaysIn (era to : ℕ) (at : HeldSite) (old new : Values D) : Type 0 where
    pub second : era + 2 ≤ to
    pub first : (f : ℕ) (other : DiskName) (bytes : List ℕ) → f ≤ era + 2 → images_of disk new f other bytes → images_of disk old f other bytes
    pub later : (f : ℕ) (other : DiskName) (bytes : List ℕ) → era + 2 < f → images_of disk new f other bytes
        → ShowsHeld other at bytes ⊎ (images_of disk old f other bytes × (is_used name page at other ≡ false))
    pub aside : (f : ℕ) (other : DiskName) (bytes : List ℕ) → is_used name page at other ≡ false → images_of disk new f other bytes → images_of disk old f other bytes

  -- no image is new, or only those of the lane that was opened
  abbrev pub MayStay : (era to : ℕ) → HeldSite → (old new : Values D) → Type 0
  MayStay era to at old new = AddsNone (images_of disk old) (images_of disk new) ⊎ StaysIn era to at old new

  -- it is refused as its course says, and the disks show it still
  pub record IsRefusedAt (era to : ℕ) (at : HeldSite) (old new : Values D) (fault : SiteFault) : Type 0 where
    pub refusal : if_refused name page at.site ≡ Some (fault_in fault)
    pub named : IsNamed at.site.head.spaces fault
    pub still : IsKept disk old new ⊎ (StaysIn era to at old new × ShowsUsed at new)

  -- what comes of a site that is entered
  abbrev pub Enters : (era to : ℕ) → HeldSite → (old new : Values D) → Result Place SiteFault → Type 0
  Enters era to at old new (Ok place) = IsReady era to place at new × StaysIn era to at old new
  Enters era to at old new (Err fault) = MayStay era to at old new × (IsFailure fault ⊎ IsRefusedAt era to at old new fault)

-- why a text isn't told

abbrev pub fault_of_text : ℕ → ListFault → SiteFault
fault_of_text space NoMemory = OutOfMemory
fault_of_text space Failed = DiskFault (Chunk space)
fault_of_text space (BadPage page) = BadRecord (Chunk space) page

-- a disk fails, memory is wanting, or a record of the log or a page isn't as it should be
abbrev pub IsReadingFault : SiteFault → Type 0
IsReadingFault OutOfMemory = Unit {0}
IsReadingFault (DiskFault name) = Unit {0}
IsReadingFault (BadRecord disk slot) = IsOfReading (BadSlot disk slot)
IsReadingFault NotFormatted = ⊥
IsReadingFault AlreadyFormatted = ⊥
IsReadingFault (NeedsRestart number) = ⊥
IsReadingFault (NoSuchSpace name) = ⊥
IsReadingFault (NoSuchPage page) = ⊥
IsReadingFault (ChunkLost space name) = ⊥
IsReadingFault LogLost = ⊥
IsReadingFault (LogFull why) = ⊥
IsReadingFault (StoreFull volume) = ⊥
IsReadingFault CatalogueFull = ⊥
IsReadingFault TooManyObjects = ⊥
IsReadingFault BootFull = ⊥

-- the lane came to the end, and this is its text
pub record IsTold {D : Type 0} (disk : Ghosts D) (name : List ℕ) (page : Option ℕ) (to : ℕ) (place : Place) (at : HeldSite) (old new : Values D) (told : List ℕ) : Type 0 where
  pub last : HeldSite
  pub last_is : last.site ≡ after_all site_rules (lane_to_end place.space at.site) at.site
  pub ends : Ends ShowsHeld to (images_of disk old) (images_of disk new) at last
  pub text : told ≡ shown_text at.site.history name page (Some (pair_of place))
