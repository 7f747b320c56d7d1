-- What a restore goes to, and what it needs and lacks for that.
use Rattle.std.specs.Prelude.{ℕ, suc, ◌-◌, ◌==◌, nat_eq, List, [], ◌∷◌, ◌++◌, length, map, filter, take, replicate, Bool, not, nat_le, if◌then◌else◌, Option, None, Some}
use Rattle.std.specs.List.{filter_map, prefix_len}
use Rattle.std.specs.Cmp.Lexicographic.{pointwise}
use Rattle.log_history.specs.History.{History}
use Rattle.log_history.specs.Live.{reset_points}
use Rattle.backup_lines.specs.Lines.{Archive, Span, live_archives}
use Rattle.backup_lines.specs.Spans.{Point, at_end, at_file, at_time, Found, at_position, look_in, no_such_log as not_found, find_point, is_by, span_of}
use Rattle.backup_lines.specs.Chains.{chain_of}
use Rattle.backup_lines.specs.Plans.{SpacePlan, space_plans, spaces_without_level_0, least_low, files_behind, logs_needed, objects_needed}
use Rattle.backup_lines.specs.declared.lanes.Chain.{Chain}
use Rattle.backup_lines.specs.declared.lanes.LaneState.{LaneState as ChunkState}
use Rattle.backup_lines.specs.declared.lanes.LaneState.TheVariants.{At, Blank, Image, Replay}
use Rattle.backup_lines.specs.declared.objects.Need.{Need}
use Rattle.backup_lines.specs.declared.objects.Lacking.{Lacking}
use Rattle.backup_lines.specs.declared.objects.Lacking.TheVariants.{NoLevel0, Missing, Damaged}
use Rattle.site_worlds.specs.Worlds.{Ring, LaneState, Site, stands, blank, merges, replays, stale, lost}
use Rattle.site_worlds.specs.Files.{last_of_file}
use Rattle.site_worlds.specs.Moves.{is_among}
use Rattle.site_courses.specs.Faults.{Fault, no_such_log, refused}
use Rattle.site_courses.specs.Backups.{span_at, files_from}
use Rattle.site_courses.specs.Upkeep.{live_copies}

-- the files

-- the held files that have records, with no copy
abbrev pub held_files : Site → Option Ring → List Span
held_files site None = []
held_files site (Some ring) =
    filter (λ span. nat_le span.first span.last)
    (map (λ file. span_at site.history site.starts file 0) (files_from ring.oldest (suc (length site.starts) - ring.oldest)))

abbrev pub backed_to : Option Ring → ℕ
backed_to None = 0
backed_to (Some ring) = ring.backed

-- what is known of the files, in their order
abbrev pub spans_of : Site → List Span
spans_of site = filter_map (span_of site.lines (held_files site site.ring) (backed_to site.ring)) (files_from 1 (length site.starts))

-- the point

-- the greatest position up to which each Commit and Reset is by a time
abbrev pub by_time_at : ℕ → History → ℕ
by_time_at time history = prefix_len (is_by time) history

-- the position that a point comes to
abbrev pub position_of : Point → Site → ℕ
position_of at_end site = length site.history
position_of (at_file file) site = last_of_file site.starts site.history file
position_of (at_time time) site = by_time_at time site.history

abbrev pub if_not_found : Found → Option Fault
if_not_found (not_found file) = Some (no_such_log file)
if_not_found (at_position position) = None
if_not_found (look_in file) = None

-- the file that a point names is there
abbrev pub if_no_log : Point → Site → Option Fault
if_no_log point site = if_not_found (find_point point (spans_of site))

-- what is needed

abbrev pub chain_at : Site → ℕ → ℕ → List Archive
chain_at site space to = chain_of (live_archives site.lines) (reset_points site.history) space to

abbrev pub chain_ids : Site → ℕ → ℕ → List ℕ
chain_ids site space to = map (λ archive. archive.copy) (chain_at site space to)

abbrev pub same_ids : List ℕ → List ℕ → Bool
same_ids xs ys = pointwise nat_eq xs ys

-- the state of a lane as its chunk's mark says it; that of a stale one counts for no restore
abbrev pub chain_in : List ℕ → Chain
chain_in copies = record { len = length copies; copies = take 3 (copies ++ replicate 3 0) }

abbrev pub state_of_lane : LaneState → Option ChunkState
state_of_lane (stands upto part) = Some (At upto part)
state_of_lane (blank restore) = Some (Blank restore)
state_of_lane (merges restore chain archive entries) = Some (Image restore (chain_in chain) archive entries)
state_of_lane (replays restore chain upto part) = Some (Replay restore (chain_in chain) upto part)
state_of_lane stale = None
state_of_lane lost = None

-- while the log is lost no lane has anything behind it
abbrev pub states_of : Option Ring → List LaneState → List (Option ChunkState)
states_of None lanes = []
states_of (Some ring) lanes = map state_of_lane lanes

-- the chains of the spaces for a position, and the files of the log behind them
abbrev pub plans_at : Site → ℕ → List SpacePlan
plans_at site to = space_plans (live_archives site.lines) (reset_points site.history) to (length site.head.spaces)

abbrev pub logs_at : Site → ℕ → List Span
logs_at site to = files_behind (reset_points site.history) to (least_low (plans_at site to)) (spans_of site)

-- the archives of the chains that aren't merged yet, in order of space and level, then the log files with a copy, in order
abbrev pub needed : Site → ℕ → ℕ → List Need
needed site number to = objects_needed number (states_of site.ring site.lanes) (plans_at site to) (logs_at site to)

-- what is lacking

abbrev pub lacking_of : Site → Need → Option Lacking
lacking_of site need =
    if not (is_among (live_copies site) need.copy) then Some (Missing need.what need.copy)
    else (if is_among site.store.damaged need.copy then Some (Damaged need.what need.copy) else None)

-- the file in which a time lies and whose records have to be looked at
abbrev pub looked_at : Found → List Span → List Need
looked_at (look_in file) spans = logs_needed (filter (λ span. span.file == file) spans)
looked_at found spans = []

abbrev pub lacking_look : Point → Site → List Lacking
lacking_look point site = filter_map (lacking_of site) (looked_at (find_point point (spans_of site)) (spans_of site))

abbrev pub lacking_chains : Site → ℕ → List Lacking
lacking_chains site to = map NoLevel0 (spaces_without_level_0 (live_archives site.lines) (reset_points site.history) to (length site.head.spaces))

abbrev pub lacking_objects : Site → ℕ → ℕ → List Lacking
lacking_objects site number to = filter_map (lacking_of site) (needed site number to)

-- the first list that isn't empty
abbrev pub first_of_lists : List Lacking → List Lacking → List Lacking
first_of_lists [] later = later
first_of_lists (one ∷ more) later = one ∷ more

-- of a restore of a number to a position: first each space without a level 0, then each needed object that is missing or damaged
abbrev pub lacking_at : Site → ℕ → ℕ → List Lacking
lacking_at site number to = first_of_lists (lacking_chains site to) (lacking_objects site number to)

abbrev pub if_any : List Lacking → Option Fault
if_any [] = None
if_any (one ∷ more) = Some (refused (one ∷ more))
