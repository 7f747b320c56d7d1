-- The courses of restores: `-r` and `-RESTART`.
use Rattle.std.specs.Prelude.{ℕ, suc, ◌^◌, ◌==◌, max, List, [], ◌∷◌, ◌++◌, length, Bool, true, false, ◌&&◌, nat_lt, nat_le, if◌then◌else◌, Option, None, Some}
use Rattle.log_history.specs.History.{LogEntry, reset, entry_at}
use Rattle.log_history.specs.Transactions.{last_time}
use Rattle.backup_lines.specs.Spans.{Active, Point}
use Rattle.walks.specs.Courses.{only, make}
use Rattle.site_worlds.specs.Worlds.{Ring, LaneState, Site, stands, blank, merges, replays}
use Rattle.site_worlds.specs.Files.{first_of_file}
use Rattle.site_worlds.specs.Moves.{Move, append_reset, drop_oldest, next_file, format_log, begin_restore, set_prepared, end_restore, move_lanes}
use Rattle.site_courses.specs.Faults.{Fault, nothing_to_restart, log_full, no_position, boot_full}
use Rattle.site_courses.specs.Courses.{SiteCourse, check, in_turn, if_log_lost, if_any_lost, close_current}
use Rattle.site_courses.specs.Appending.{is_ring_full}
use Rattle.site_courses.specs.Backups.{save_files, if_lines_full}
use Rattle.site_courses.specs.Plans.{position_of, if_no_log, lacking_look, lacking_at, first_of_lists, if_any, chain_ids, same_ids}

-- the last record is the Reset of a restore

abbrev pub is_reset_of : ℕ → Option LogEntry → Bool
is_reset_of number (Some (reset restore target time)) = restore == number
is_reset_of number entry = false

abbrev pub ends_in_reset : Site → ℕ → Bool
ends_in_reset site number = is_reset_of number (entry_at site.history (length site.history))

-- where a Reset is to be written, there has to be a position for it
abbrev pub if_no_position : Site → Option Fault
if_no_position site = if nat_le (2 ^ 48) (length site.history) then Some (log_full (no_position (length site.history))) else None

-- the lanes, each by the number of its space

abbrev pub each_lane : (ℕ → LaneState → LaneState) → ℕ → List LaneState → List LaneState
each_lane goal space [] = []
each_lane goal space (lane ∷ lanes) = goal space lane ∷ each_lane goal (suc space) lanes

abbrev pub all_lanes : (ℕ → LaneState → Bool) → ℕ → List LaneState → Bool
all_lanes test space [] = true
all_lanes test space (lane ∷ lanes) = test space lane && all_lanes test (suc space) lanes

-- the lanes go to their goals, if not each is there
abbrev pub move_to : (ℕ → LaneState → Bool) → (ℕ → LaneState → LaneState) → SiteCourse
move_to is_there goal site = make (if all_lanes is_there 0 site.lanes then [] else move_lanes (each_lane goal 0 site.lanes) ∷ [])

-- a lane is emptied for a restore, or on its way by the chain of its plan
abbrev pub goes_by : ℕ → List ℕ → LaneState → Bool
goes_by number chain (blank restore) = restore == number
goes_by number chain (merges restore other archive entries) = (restore == number) && same_ids chain other
goes_by number chain (replays restore other upto part) = (restore == number) && same_ids chain other
goes_by number chain lane = false

abbrev pub all_go_by : Site → ℕ → ℕ → Bool
all_go_by site number to = all_lanes (λ space lane. goes_by number (chain_ids site space to) lane) 0 site.lanes

-- a lane needn't be emptied: it is, or lanes may go on, and it goes by its plan
abbrev pub is_ready : Bool → ℕ → List ℕ → LaneState → Bool
is_ready go_on number chain (blank restore) = restore == number
is_ready go_on number chain lane = go_on && goes_by number chain lane

-- each other lane is emptied; with the log lost no lane goes on
abbrev pub empty_lanes : Bool → ℕ → ℕ → SiteCourse
empty_lanes go_on number to site =
    move_to (λ space lane. is_ready go_on number (chain_ids site space to) lane)
    (λ space lane. if is_ready go_on number (chain_ids site space to) lane then lane else blank number) site

-- with the log lost it is formatted behind what is known of it
abbrev pub format_lost : Option Ring → List Move
format_lost None = format_log ∷ []
format_lost (Some ring) = []

abbrev pub has_log : Option Ring → Bool
has_log None = false
has_log (Some ring) = true

abbrev pub mark_prepared : Bool → SiteCourse
mark_prepared prepared site = make (set_prepared prepared ∷ [])

-- the log is there, each lane is emptied for the restore or goes by its plan, and the record says so
abbrev pub prepare : ℕ → ℕ → SiteCourse
prepare number to site =
    in_turn ((λ s. make (format_lost s.ring)) ∷ empty_lanes (has_log site.ring) number to ∷ mark_prepared true ∷ []) site

-- where some lane of a prepared restore has gone by another chain than that of the plan, the record first says that it isn't prepared
abbrev pub make_ready : Bool → ℕ → ℕ → SiteCourse
make_ready false number to = prepare number to
make_ready true number to = λ site. if all_go_by site number to then only None else in_turn (mark_prepared false ∷ prepare number to ∷ []) site

-- all lanes go to the restore's position, by the chains of the plan
abbrev pub is_replayed_at : ℕ → LaneState → Bool
is_replayed_at to (replays restore chain upto part) = (upto == to) && (part == 0)
is_replayed_at to lane = false

abbrev pub restore_lanes : ℕ → ℕ → SiteCourse
restore_lanes number to site =
    move_to (λ space lane. is_replayed_at to lane) (λ space lane. replays number (chain_ids site space to) to 0) site

-- the Reset comes to the head of a file: the next one is opened where the current one is closed or has records
abbrev pub is_open_and_empty : Site → Ring → Bool
is_open_and_empty site ring = ring.is_open && nat_lt (length site.history) (first_of_file site.starts site.history (length site.starts))

abbrev pub file_for_reset : Site → Option Ring → List Move
file_for_reset site None = []
file_for_reset site (Some ring) =
    if is_open_and_empty site ring then [] else ((if is_ring_full site.starts ring then drop_oldest ∷ [] else []) ++ next_file ∷ [])

abbrev pub write_reset : ℕ → ℕ → ℕ → SiteCourse
write_reset number to moment site = make (file_for_reset site site.ring ++ append_reset number to (max moment (last_time site.history)) ∷ [])

-- behind the Reset all lanes go there, and the restore ends
abbrev pub stands_at : ℕ → LaneState → Bool
stands_at end (stands upto part) = (upto == end) && (part == 0)
stands_at end lane = false

abbrev pub finish : SiteCourse
finish = in_turn (
    (λ site. move_to (λ space lane. stands_at (length site.history) lane) (λ space lane. stands (length site.history) 0) site)
    ∷ (λ site. make (end_restore ∷ [])) ∷ [])

-- a prepared restore goes on to its end
abbrev pub go_on : ℕ → ℕ → ℕ → SiteCourse
go_on number to moment = in_turn (restore_lanes number to ∷ write_reset number to moment ∷ finish ∷ [])

-- `-r`

-- restore numbers go up to 2^48
abbrev pub if_no_number : Site → Option Fault
if_no_number site = if nat_le (2 ^ 48) site.number then Some boot_full else None

-- where the log is there what it holds is saved first
abbrev pub save_log : ℕ → Option Ring → SiteCourse
save_log moment None = λ site. only None
save_log moment (Some ring) = in_turn (close_current ∷ check (if_lines_full 0) ∷ save_files moment ∷ [])

-- to the position that the point comes to as the command begins
abbrev pub restore_to : ℕ → Point → ℕ → SiteCourse
restore_to moment point to =
    in_turn ((λ site. save_log moment site.ring site) ∷ check if_no_number ∷ (λ site. make (begin_restore point to ∷ []))
    ∷ (λ site. prepare site.number to site) ∷ (λ site. go_on site.number to moment site) ∷ [])

-- the point is there, nothing that is needed for it is lacking, and there is a position for the Reset
abbrev pub restore_course : ℕ → Point → SiteCourse
restore_course moment point =
    in_turn (check (if_no_log point)
    ∷ check (λ site. if_any (first_of_lists (lacking_look point site) (lacking_at site (suc site.number) (position_of point site))))
    ∷ check if_no_position ∷ (λ site. restore_to moment point (position_of point site) site) ∷ [])

-- `-RESTART`

-- with the lanes prepared, the log and all lanes are needed
abbrev pub if_prepared : Active → (Site → Option Fault) → SiteCourse
if_prepared restore test = check (λ site. if restore.prepared then test site else None)

-- nothing that is needed may be lacking, unless the Reset is written
abbrev pub restart_before : Active → ℕ → SiteCourse
restart_before restore moment =
    in_turn (check (λ site. if_any (lacking_at site restore.number restore.to)) ∷ check if_no_position
    ∷ make_ready restore.prepared restore.number restore.to ∷ go_on restore.number restore.to moment ∷ [])

abbrev pub restart_from : Active → ℕ → SiteCourse
restart_from restore moment =
    in_turn (if_prepared restore if_log_lost ∷ if_prepared restore if_any_lost
    ∷ (λ site. if ends_in_reset site restore.number then finish site else restart_before restore moment site) ∷ [])

abbrev pub restart_of : Option Active → ℕ → SiteCourse
restart_of None moment = λ site. only (Some nothing_to_restart)
restart_of (Some restore) moment = restart_from restore moment

abbrev pub restart_course : ℕ → SiteCourse
restart_course moment site = restart_of site.active moment site
