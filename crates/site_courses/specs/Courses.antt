-- The parts of courses: checks, which make no move, and what is done one after another.
use Rattle.std.specs.Prelude.{ℕ, zero, suc, ◌+◌, ◌==◌, List, [], ◌∷◌, length, map, Bool, true, false, ◌&&◌, nat_lt, nat_le, if◌then◌else◌, slice_get, Option, None, Some}
use Rattle.std.specs.List.{list_all}
use Rattle.std.specs.Option.{option_map}
use Rattle.site_headers.specs.Heads.{Head}
use Rattle.onbar_grammar.specs.Script.{place_of}
use Rattle.walks.specs.Courses.{Course, only, make, then_do}
use Rattle.site_worlds.specs.Worlds.{Ring, LaneState, Site, World, stands, lost, unformatted, formatted}
use Rattle.site_worlds.specs.Files.{first_of_file}
use Rattle.site_worlds.specs.Moves.{Move, move_lanes, close_file, site_rules, WorldMove, format_site}
use Rattle.site_courses.specs.Faults.{Fault, already_formatted, needs_restart, no_such_space, no_such_page, log_lost, chunk_lost, boot_full}

abbrev pub SiteCourse : Type 0
SiteCourse = Site → Course Move Fault

-- a refusal, or nothing
abbrev pub check : (Site → Option Fault) → SiteCourse
check test site = only (test site)

abbrev pub in_turn : List SiteCourse → SiteCourse
in_turn [] site = only None
in_turn (course ∷ courses) site = then_do site_rules course (in_turn courses) site

-- no restore may be under way
abbrev pub if_active : Site → Option Fault
if_active site = option_map (λ restore. needs_restart restore.number) site.active

abbrev pub if_no_ring : Option Ring → Option Fault
if_no_ring None = Some log_lost
if_no_ring (Some ring) = None

-- the log is needed
abbrev pub if_log_lost : Site → Option Fault
if_log_lost site = if_no_ring site.ring

abbrev pub if_lost : ℕ → LaneState → Option Fault → Option Fault
if_lost space lost next = Some (chunk_lost space)
if_lost space lane next = next

abbrev pub first_lost : ℕ → List LaneState → Option Fault
first_lost space [] = None
first_lost space (lane ∷ lanes) = if_lost space lane (first_lost (suc space) lanes)

-- all lanes are needed, or one of them
abbrev pub if_any_lost : Site → Option Fault
if_any_lost site = first_lost 0 site.lanes

abbrev pub if_option_lost : ℕ → Option LaneState → Option Fault
if_option_lost space None = None
if_option_lost space (Some lane) = if_lost space lane None

abbrev pub if_this_lost : ℕ → Site → Option Fault
if_this_lost space site = if_option_lost space (slice_get site.lanes space)

-- so many more lines are to be added: 65,536 may stand
abbrev pub if_boot_full : ℕ → Site → Option Fault
if_boot_full wanted site = if nat_lt 65536 (length site.lines + wanted) then Some boot_full else None

-- lanes

abbrev pub is_at : ℕ → LaneState → Bool
is_at end (stands upto part) = (upto == end) && (part == 0)
is_at end lane = true

abbrev pub to_end : ℕ → LaneState → LaneState
to_end end (stands upto part) = stands end 0
to_end end lane = lane

-- all lanes go to the end of the log, if any is elsewhere
abbrev pub lanes_to_end : Site → List Move
lanes_to_end site =
    if list_all (is_at (length site.history)) site.lanes then [] else move_lanes (map (to_end (length site.history)) site.lanes) ∷ []

abbrev pub only_this : ℕ → ℕ → List LaneState → List LaneState
only_this end n [] = []
only_this end zero (lane ∷ lanes) = to_end end lane ∷ lanes
only_this end (suc n) (lane ∷ lanes) = lane ∷ only_this end n lanes

abbrev pub is_option_at : ℕ → Option LaneState → Bool
is_option_at end None = true
is_option_at end (Some lane) = is_at end lane

-- one lane does
abbrev pub lane_to_end : ℕ → Site → List Move
lane_to_end space site =
    if is_option_at (length site.history) (slice_get site.lanes space) then []
    else move_lanes (only_this (length site.history) space site.lanes) ∷ []

-- the current file is closed, if it is open and has records
abbrev pub is_closable : Site → Option Ring → Bool
is_closable site None = false
is_closable site (Some ring) = ring.is_open && nat_le (first_of_file site.starts site.history (length site.starts)) (length site.history)

abbrev pub close_current : SiteCourse
close_current site = make (if is_closable site site.ring then close_file ∷ [] else [])

-- `-init`
abbrev pub init_course : Head → World → Course WorldMove Fault
init_course head unformatted = make (format_site head ∷ [])
init_course head (formatted site) = only (Some already_formatted)

-- `-D`: the space and the page are there, then the log and the lane; the lane goes to the end

abbrev pub if_no_page : Option ℕ → ℕ → Option Fault
if_no_page None pages = None
if_no_page (Some page) pages = if nat_lt page pages then None else Some (no_such_page page)

abbrev pub show_place : List ℕ → Option ℕ → Option (ℕ × ℕ) → SiteCourse
show_place name page None = λ site. only (Some (no_such_space name))
show_place name page (Some place) =
    in_turn (check (λ site. if_no_page page place.1) ∷ check if_log_lost ∷ check (if_this_lost place.0) ∷ (λ site. make (lane_to_end place.0 site)) ∷ [])

abbrev pub show_course : List ℕ → Option ℕ → SiteCourse
show_course name page = in_turn (check if_active ∷ (λ site. show_place name page (place_of name site.head.spaces) site) ∷ [])
