-- Why a site is refused before its script, as its course and its status have it.
use Rattle.std.proofs.Common.{◌≡◌, ◌∙◌, ℕ, List, [], ◌∷◌, Bool, true, false, if◌then◌else◌, Option, None, Some, refl, sym, ap, subst}
use Rattle.std.specs.Option.{option_map, option_or}
use Rattle.std.specs.Prelude.{nat_lt, slice_get}
use Rattle.std.proofs.Common.{length}
use Rattle.std.proofs.lemmas.List.{append-nil}
use Rattle.backup_lines.specs.Spans.{Active}
use Rattle.site_model.specs.declared.status.Status.TheVariants.{ChunkLost as Lost}
use Rattle.site_forms.specs.PassingLaws.{IsOfNoChunk, no_chunk_named, no_chunk_or}
use Rattle.walks.specs.Courses.{Course, behind_moves, only, then_do, unless_fault}
use Rattle.walks.specs.CoursesLaws.{then_next, then_none}
use Rattle.site_worlds.specs.Worlds.{LaneState, Ring, Site, stands, blank, merges, replays, stale, lost}
use Rattle.site_worlds.specs.Moves.{Move, move_lanes, site_rules}
use Rattle.site_courses.specs.Faults.{Fault, needs_restart, no_such_space, no_such_page, log_lost, chunk_lost}
use Rattle.site_courses.specs.Courses.{SiteCourse, check, if_active, if_log_lost, if_no_ring, in_turn}
use Rattle.site_core.specs.declared.faults.SiteFault.{SiteFault}
use Rattle.site_core.specs.declared.faults.SiteFault.TheVariants.{OutOfMemory, DiskFault, NotFormatted, AlreadyFormatted, BadRecord, NeedsRestart, NoSuchSpace, NoSuchPage, ChunkLost, LogLost, LogFull, StoreFull, CatalogueFull, TooManyObjects, BootFull}
use Rattle.site_core.specs.Faults.{IsNamed, fault_in, status_in}
use Rattle.site_commands.specs.Runs.{status_in as status_of_refusal}
use Rattle.onbar_grammar.specs.Script.{Space, place_of}
use Rattle.site_courses.specs.Courses.{if_no_page, if_option_lost, if_this_lost, lane_to_end, only_this, is_option_at, show_course, show_place}
use Rattle.walks.specs.Courses.{make, after_all}
use Rattle.show_command.specs.Showing.{if_lane_lost, if_not_there, if_refused, if_unplaced, if_unready}

-- a course that a check may refuse

abbrev pub checked : Option Fault → Course Move Fault → Course Move Fault
checked None course = course
checked (Some fault) course = only (Some fault)

then_check : (test : Site → Option Fault) (next : SiteCourse) (site : Site) → then_do site_rules (check test) next site ≡ checked (test site) (next site)
unfolding then_do
then_check test next site = by (test site)
  where
    by : (fault : Option Fault) → unless_fault fault (only fault) (behind_moves [] (next site)) ≡ checked fault (next site)
    by None = refl
    by (Some fault) = refl

then_last : (last : SiteCourse) (site : Site) → then_do site_rules last (in_turn []) site ≡ last site
then_last last site = by (last site).fault refl
  where
    by : (fault : Option Fault) → (last site).fault ≡ fault → then_do site_rules last (in_turn []) site ≡ last site
    by None is = then_next site_rules last (in_turn []) site is ∙ (λ i. record { moves = append-nil (last site).moves i; fault = sym is i })
    by (Some fault) is = then_none site_rules last (in_turn []) site fault is

all_checked : (a b c : Option Fault) (last : Course Move Fault) → checked a (checked b (checked c last)) ≡ checked (option_or (option_or a b) c) last
all_checked None None c last = refl
all_checked None (Some fault) c last = refl
all_checked (Some fault) b c last = refl

-- what the lane of a place does
abbrev pub moves_for : Option (ℕ × ℕ) → Site → List Move
moves_for None site = []
moves_for (Some place) site = lane_to_end place.0 site

place_is : (name : List ℕ) (page : Option ℕ) (place : Option (ℕ × ℕ)) (site : Site)
    → show_place name page place site ≡ checked (option_or (option_or (if_unplaced name page place) (if_log_lost site)) (if_lane_lost place site)) (make (moves_for place site))
place_is name page None site = refl
place_is name page (Some place) site =
    let last : SiteCourse = λ (s : Site). make (lane_to_end place.0 s) in
    then_check (λ (s : Site). if_no_page page place.1) (in_turn (check if_log_lost ∷ check (if_this_lost place.0) ∷ last ∷ [])) site
    ∙ ap (λ (c : Course Move Fault). checked (if_no_page page place.1) c) (then_check if_log_lost (in_turn (check (if_this_lost place.0) ∷ last ∷ [])) site
    ∙ ap (λ (c : Course Move Fault). checked (if_log_lost site) c) (then_check (if_this_lost place.0) (in_turn (last ∷ [])) site
    ∙ ap (λ (c : Course Move Fault). checked (if_this_lost place.0 site) c) (then_last last site)))
    ∙ all_checked (if_no_page page place.1) (if_log_lost site) (if_this_lost place.0 site) (last site)

with_active : (a b c d : Option Fault) (last : Course Move Fault) → checked a (checked (option_or (option_or b c) d) last) ≡ checked (option_or (option_or (option_or a b) c) d) last
with_active None b c d last = refl
with_active (Some fault) b c d last = refl

pub shows_are : (name : List ℕ) (page : Option ℕ) (site : Site)
    → show_course name page site ≡ checked (if_refused name page site) (make (moves_for (place_of name site.head.spaces) site))
shows_are name page site =
    let place = place_of name site.head.spaces in
    let shown : SiteCourse = λ (s : Site). show_place name page (place_of name s.head.spaces) s in
    then_check if_active (in_turn (shown ∷ [])) site
    ∙ ap (λ (c : Course Move Fault). checked (if_active site) c) (then_last shown site ∙ place_is name page place site)
    ∙ with_active (if_active site) (if_unplaced name page place) (if_log_lost site) (if_lane_lost place site) (make (moves_for place site))

-- which refusals these are

abbrev IsOfEntry : Option Fault → Type 0
IsOfEntry None = Unit {0}
IsOfEntry (Some (needs_restart number)) = Unit {0}
IsOfEntry (Some log_lost) = Unit {0}
IsOfEntry (Some (chunk_lost space)) = Unit {0}
IsOfEntry (Some (no_such_space name)) = Unit {0}
IsOfEntry (Some (no_such_page page)) = Unit {0}
IsOfEntry (Some fault) = ⊥

of_both : (a b : Option Fault) → IsOfEntry a → IsOfEntry b → IsOfEntry (option_or a b)
of_both None b first second = second
of_both (Some fault) b first second = first

of_active : (active : Option Active) → IsOfEntry (option_map (λ restore. needs_restart restore.number) active)
of_active None = tt
of_active (Some restore) = tt

of_ring : (ring : Option Ring) → IsOfEntry (if_no_ring ring)
of_ring None = tt
of_ring (Some ring) = tt

of_page : (page : Option ℕ) (pages : ℕ) → IsOfEntry (if_no_page page pages)
of_page None pages = tt
of_page (Some number) pages = by (nat_lt number pages)
  where
    by : (b : Bool) → IsOfEntry (if b then None else Some (no_such_page number))
    by true = tt
    by false = tt

of_place : (name : List ℕ) (page : Option ℕ) (place : Option (ℕ × ℕ)) → IsOfEntry (if_unplaced name page place)
of_place name page None = tt
of_place name page (Some place) = of_page page place.1

of_lane : (space : ℕ) (lane : Option LaneState) → IsOfEntry (if_option_lost space lane)
of_lane space None = tt
of_lane space (Some (stands upto part)) = tt
of_lane space (Some (blank restore)) = tt
of_lane space (Some (merges restore chain archive entries)) = tt
of_lane space (Some (replays restore chain upto part)) = tt
of_lane space (Some stale) = tt
of_lane space (Some lost) = tt

of_lane_at : (place : Option (ℕ × ℕ)) (site : Site) → IsOfEntry (if_lane_lost place site)
of_lane_at None site = tt
of_lane_at (Some place) site = of_lane place.0 (slice_get site.lanes place.0)

of_entry : (name : List ℕ) (page : Option ℕ) (site : Site) → IsOfEntry (if_refused name page site)
of_entry name page site =
    of_both (if_unready name page site) (if_lane_lost (place_of name site.head.spaces) site)
    (of_both (option_or (if_active site) (if_not_there name page site)) (if_log_lost site)
    (of_both (if_active site) (if_not_there name page site) (of_active site.active) (of_place name page (place_of name site.head.spaces))) (of_ring site.ring))
    (of_lane_at (place_of name site.head.spaces) site)

-- a fault that is such a refusal: its status
pub record TellsRefusal (spaces : List Space) (fault : SiteFault) : Type 0 where
  pub status : status_of_refusal spaces (fault_in fault) ≡ status_in fault

of_fault : (spaces : List Space) (fault : SiteFault) → IsOfEntry (Some (fault_in fault)) → IsNamed spaces fault → TellsRefusal spaces fault
of_fault spaces OutOfMemory is named = absurd is
of_fault spaces (DiskFault disk) is named = absurd is
of_fault spaces NotFormatted is named = absurd is
of_fault spaces AlreadyFormatted is named = absurd is
of_fault spaces (BadRecord disk slot) is named = absurd is
of_fault spaces (NeedsRestart number) is named = record { status = refl }
of_fault spaces (NoSuchSpace name) is named = record { status = refl }
of_fault spaces (NoSuchPage page) is named = record { status = refl }
of_fault spaces (ChunkLost space name) is named = record { status = ap Lost (sym named) }
of_fault spaces LogLost is named = record { status = refl }
of_fault spaces (LogFull why) is named = absurd is
of_fault spaces (StoreFull volume) is named = absurd is
of_fault spaces CatalogueFull is named = absurd is
of_fault spaces TooManyObjects is named = absurd is
of_fault spaces BootFull is named = absurd is

pub tells_refusal : (name : List ℕ) (page : Option ℕ) (site : Site) (fault : SiteFault) → if_refused name page site ≡ Some (fault_in fault) → IsNamed site.head.spaces fault
    → TellsRefusal site.head.spaces fault
tells_refusal name page site fault is named = of_fault site.head.spaces fault (subst IsOfEntry is (of_entry name page site)) named

-- what refuses a site before its lane is looked at is of no chunk

no_chunk_active : (active : Option Active) → IsOfNoChunk (option_map (λ restore. needs_restart restore.number) active)
no_chunk_active None = tt
no_chunk_active (Some restore) = tt

no_chunk_ring : (ring : Option Ring) → IsOfNoChunk (if_no_ring ring)
no_chunk_ring None = tt
no_chunk_ring (Some ring) = tt

no_chunk_page : (page : Option ℕ) (pages : ℕ) → IsOfNoChunk (if_no_page page pages)
no_chunk_page None pages = tt
no_chunk_page (Some number) pages = by (nat_lt number pages)
  where
    by : (b : Bool) → IsOfNoChunk (if b then None else Some (no_such_page number))
    by true = tt
    by false = tt

no_chunk_place : (name : List ℕ) (page : Option ℕ) (place : Option (ℕ × ℕ)) → IsOfNoChunk (if_unplaced name page place)
no_chunk_place name page None = tt
no_chunk_place name page (Some place) = no_chunk_page page place.1

pub unready_named : (name : List ℕ) (page : Option ℕ) (site : Site) (fault : SiteFault) → if_unready name page site ≡ Some (fault_in fault) → IsNamed site.head.spaces fault
unready_named name page site fault is =
    no_chunk_named site.head.spaces fault
    (subst IsOfNoChunk is
    (no_chunk_or (option_or (if_active site) (if_not_there name page site)) (if_log_lost site)
    (no_chunk_or (if_active site) (if_not_there name page site) (no_chunk_active site.active) (no_chunk_place name page (place_of name site.head.spaces)))
    (no_chunk_ring site.ring)))

-- the moves leave the history
pub same_history : (space : ℕ) (site : Site) → (after_all site_rules (lane_to_end space site) site).history ≡ site.history
unfolding site_rules
same_history space site = by (is_option_at (length site.history) (slice_get site.lanes space))
  where
    by : (b : Bool) → (after_all site_rules (if b then [] else move_lanes (only_this (length site.history) space site.lanes) ∷ []) site).history ≡ site.history
    by true = refl
    by false = refl
