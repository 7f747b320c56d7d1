-- The moves of a site: each changes what one disk shows, or what the chunks of one phase do.
use Rattle.std.specs.Prelude.{◌≡◌, ◌⊎◌, ℕ, suc, ◌+◌, ◌==◌, List, [], ◌∷◌, ◌++◌, length, map, filter, Bool, true, false, not, Option, None, Some, refl}
use Rattle.std.specs.List.{list_any}
use Rattle.std.specs.Option.{option_map}
use mathlib.Core.Logic.{inl}
use Rattle.log_history.specs.History.{LogEntry, reset}
use Rattle.site_headers.specs.Heads.{Head}
use Rattle.backup_lines.specs.Lines.{Line}
use Rattle.backup_lines.specs.Spans.{Active, Point}
use Rattle.catalogue_slots.specs.Records.{slots_for}
use Rattle.walks.specs.Courses.{MoveRules}
use Rattle.site_worlds.specs.Worlds.{Kept, Store, Ring, LaneState, Site, World, stands, blank, merges, replays, stale, lost, unformatted, formatted, new_site}
use Rattle.lane_ways.specs.Ways.{IsPlace, IsNotBefore}
use Rattle.site_worlds.specs.Lanes.{FitMerge, FitReplay}

-- What a command does to the parts of a site:
--   to the log: records go into the current file; the Reset of the restore under way goes there; the current file is closed; the oldest held
--   file is dropped; the next file becomes the current one; a file is marked as backed up; a lost log is formatted behind what is known of it;
--   to the catalogue: a transaction adds and deletes objects;
--   to the boot file: lines are added; a restore begins, its lanes are marked as prepared or not, it ends;
--   to the chunks: each lane goes on to a state.
pub data Move : Type 0 where
  append_batch : (records : List LogEntry) → Move
  append_reset : (restore target time : ℕ) → Move
  close_file : Move
  drop_oldest : Move
  next_file : Move
  mark_backed : (file : ℕ) → Move
  format_log : Move
  commit_objects : (added : List Kept) (deleted : List ℕ) → Move
  append_lines : (more : List Line) → Move
  begin_restore : (point : Point) (to : ℕ) → Move
  set_prepared : (prepared : Bool) → Move
  end_restore : Move
  move_lanes : (goals : List LaneState) → Move

-- whose part changes; the chunks go together
pub data Mover : Type 0 where
  the_log : Mover
  the_catalogue : Mover
  the_boot_file : Mover
  the_chunks : Mover

abbrev pub mover : Move → Mover
mover (append_batch records) = the_log
mover (append_reset restore target time) = the_log
mover close_file = the_log
mover drop_oldest = the_log
mover next_file = the_log
mover (mark_backed file) = the_log
mover format_log = the_log
mover (commit_objects added deleted) = the_catalogue
mover (append_lines more) = the_boot_file
mover (begin_restore point to) = the_boot_file
mover (set_prepared prepared) = the_boot_file
mover end_restore = the_boot_file
mover (move_lanes goals) = the_chunks

abbrev pub is_among : List ℕ → ℕ → Bool
is_among copies copy = list_any (λ other. other == copy) copies

-- how many slots of the catalogue a transaction takes
abbrev pub slots_of : List Kept → List ℕ → ℕ
slots_of [] deleted = length deleted
slots_of (kept ∷ added) deleted = slots_for (length kept.object.runs) + slots_of added deleted

-- the live objects behind a transaction
abbrev pub kept_after : List Kept → List ℕ → List Kept → List Kept
kept_after added deleted kept = filter (λ k. not (is_among deleted k.object.copy)) kept ++ added

abbrev pub store_after : List Kept → List ℕ → Store → Store
store_after added deleted store = record {
  last = store.last + length added;
  kept = kept_after added deleted store.kept;
  used = store.used + slots_of added deleted;
  damaged = store.damaged;
}

-- a lane when a new restore begins: what it names isn't the restore under way any more
abbrev pub without_restore : LaneState → LaneState
without_restore (blank restore) = stale
without_restore (merges restore chain archive entries) = stale
without_restore (replays restore chain upto part) = stale
without_restore (stands upto part) = stands upto part
without_restore stale = stale
without_restore lost = lost

-- a file begins behind the end, and is the current one
abbrev pub with_file : Option Ring → Site → Site
with_file ring site = record site { starts = site.starts ++ suc (length site.history) ∷ []; ring = ring }

abbrev pub opened : Ring → Ring
opened ring = record ring { is_open = true }

abbrev pub closed : Ring → Ring
closed ring = record ring { is_open = false }

abbrev pub less_oldest : Ring → Ring
less_oldest ring = record ring { oldest = suc ring.oldest }

abbrev pub with_backed : ℕ → Ring → Ring
with_backed file ring = record ring { backed = file }

-- the log of a file alone, all those before it being backed up
abbrev pub ring_from : ℕ → Ring
ring_from file = record { oldest = suc file; is_open = true; backed = file }

abbrev pub with_prepared : Bool → Active → Active
with_prepared prepared restore = record restore { prepared = prepared }

abbrev pub site_after : Move → Site → Site
site_after (append_batch records) site = record site { history = site.history ++ records }
site_after (append_reset restore target time) site = record site { history = site.history ++ reset restore target time ∷ [] }
site_after close_file site = record site { ring = option_map closed site.ring }
site_after drop_oldest site = record site { ring = option_map less_oldest site.ring }
site_after next_file site = with_file (option_map opened site.ring) site
site_after (mark_backed file) site = record site { ring = option_map (with_backed file) site.ring }
site_after format_log site = with_file (Some (ring_from (length site.starts))) site
site_after (commit_objects added deleted) site = record site { store = store_after added deleted site.store }
site_after (append_lines more) site = record site { lines = site.lines ++ more }
site_after (begin_restore point to) site = record site {
  number = suc site.number;
  active = Some (record { number = suc site.number; point = point; to = to; prepared = false });
  lanes = map without_restore site.lanes;
}
site_after (set_prepared prepared) site = record site { active = option_map (with_prepared prepared) site.active }
site_after end_restore site = record site { active = None }
site_after (move_lanes goals) site = record site { lanes = goals }

-- A lane on its way to the end of the log is at a place not before its first one.
abbrev pub IsBetweenPlaces : Site → ℕ → LaneState → LaneState → Type 0
IsBetweenPlaces site space (stands from begun) (stands upto part) =
    IsNotBefore from begun upto part × IsPlace site.history (length site.history) space upto part
IsBetweenPlaces site space first mid = ⊥

-- A lane that is emptied is without a header first.
abbrev pub IsLostBetween : LaneState → Type 0
IsLostBetween lost = Unit {0}
IsLostBetween mid = ⊥

-- behind where a lane began: among the archives, or behind them
abbrev pub IsMergeBehind : LaneState → (archive entries : ℕ) → Type 0
IsMergeBehind (blank restore) archive entries = Unit {0}
IsMergeBehind (merges restore chain begun laid) archive entries = IsNotBefore begun laid archive entries
IsMergeBehind first archive entries = ⊥

abbrev pub IsReplayBehind : LaneState → (upto part : ℕ) → Type 0
IsReplayBehind (blank restore) upto part = Unit {0}
IsReplayBehind (merges restore chain begun laid) upto part = Unit {0}
IsReplayBehind (replays restore chain from begun) upto part = IsNotBefore from begun upto part
IsReplayBehind first upto part = ⊥

-- A lane that is brought to a restore's position merges the archives of its chain in order, entry by entry, then replays the log.
abbrev pub IsBetweenRestored : Site → ℕ → ℕ → List ℕ → LaneState → LaneState → Type 0
IsBetweenRestored site space number chain first (merges restore other archive entries) =
    (restore ≡ number) × (other ≡ chain) × IsMergeBehind first archive entries
    × FitMerge site.head.spaces site.history site.lines site.active space restore other archive entries
IsBetweenRestored site space number chain first (replays restore other upto part) =
    (restore ≡ number) × (other ≡ chain) × IsReplayBehind first upto part
    × FitReplay site.history site.lines site.active space restore other upto part
IsBetweenRestored site space number chain first mid = ⊥

-- the states that a lane passes on its way from one to another
abbrev pub IsBetween : Site → ℕ → (first goal mid : LaneState) → Type 0
IsBetween site space first (stands upto part) mid = IsBetweenPlaces site space first mid
IsBetween site space first (blank restore) mid = IsLostBetween mid
IsBetween site space first (replays restore chain upto part) mid = IsBetweenRestored site space restore chain first mid
IsBetween site space first goal mid = ⊥

-- where a lane may be while it goes on: where it began, where it goes to, or, if that is another state, between
abbrev pub IsOnLane : Site → ℕ → (first goal mid : LaneState) → Type 0
IsOnLane site space first goal mid = (mid ≡ first) ⊎ ((mid ≡ goal) ⊎ ((goal ≡ first → ⊥) × IsBetween site space first goal mid))

-- what holds of each lane's state now, its next one, and one in between
abbrev pub EachWay : (ℕ → LaneState → LaneState → LaneState → Type 0) → ℕ → (lanes goals mids : List LaneState) → Type 0
EachWay P space [] [] [] = Unit {0}
EachWay P space (lane ∷ lanes) (goal ∷ goals) (mid ∷ mids) = P space lane goal mid × EachWay P (suc space) lanes goals mids
EachWay P space lanes goals mids = ⊥

-- the site with each lane at a place of its own
pub record IsAmidLanes (site : Site) (goals : List LaneState) (other : Site) : Type 0 where
  pub mids : List LaneState
  pub is : other ≡ record site { lanes = mids }
  pub ways : EachWay (IsOnLane site) 0 site.lanes goals mids

-- what a stop within a move leaves: what there was before it, and of lanes what each has come to
abbrev pub StopsAt : Move → Site → Site → Type 0
StopsAt (move_lanes goals) site other = (other ≡ site) ⊎ IsAmidLanes site goals other
StopsAt move site other = other ≡ site

pub stops_at_begin : (move : Move) (site : Site) → StopsAt move site site
stops_at_begin (move_lanes goals) site = inl refl
stops_at_begin (append_batch records) site = refl
stops_at_begin (append_reset restore target time) site = refl
stops_at_begin close_file site = refl
stops_at_begin drop_oldest site = refl
stops_at_begin next_file site = refl
stops_at_begin (mark_backed file) site = refl
stops_at_begin format_log site = refl
stops_at_begin (commit_objects added deleted) site = refl
stops_at_begin (append_lines more) site = refl
stops_at_begin (begin_restore point to) site = refl
stops_at_begin (set_prepared prepared) site = refl
stops_at_begin end_restore site = refl

unfoldable pub site_rules : MoveRules Move Site
site_rules = record { after = site_after; within = StopsAt; at_begin = stops_at_begin }

-- a site is formatted, or moves
pub data WorldMove : Type 0 where
  format_site : (head : Head) → WorldMove
  moves_on : (move : Move) → WorldMove

abbrev pub world_after : WorldMove → World → World
world_after (format_site head) world = formatted (new_site head)
world_after (moves_on move) unformatted = unformatted
world_after (moves_on move) (formatted site) = formatted (site_after move site)

abbrev pub WorldStopsAt : WorldMove → World → World → Type 0
WorldStopsAt (format_site head) world other = other ≡ world
WorldStopsAt (moves_on move) unformatted other = other ≡ unformatted
WorldStopsAt (moves_on move) (formatted site) other = (next : Site) × (other ≡ formatted next) × StopsAt move site next

pub world_stops_at_begin : (move : WorldMove) (world : World) → WorldStopsAt move world world
world_stops_at_begin (format_site head) world = refl
world_stops_at_begin (moves_on move) unformatted = refl
world_stops_at_begin (moves_on move) (formatted site) = (site, refl, stops_at_begin move site)

unfoldable pub world_rules : MoveRules WorldMove World
world_rules = record { after = world_after; within = WorldStopsAt; at_begin = world_stops_at_begin }
