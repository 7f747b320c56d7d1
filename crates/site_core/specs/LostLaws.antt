-- Lanes none of which is lost, behind a batch that comes into the log.
use Rattle.std.specs.Prelude.{◌≡◌, ℕ, suc, List, [], ◌∷◌, ◌++◌, length, map, Bool, true, false, if◌then◌else◌, Option, None, Some}
use Rattle.std.specs.List.{list_all}
use Rattle.std.proofs.Common.{sym}
use Rattle.log_history.specs.History.{LogEntry}
use Rattle.walks.specs.Courses.{after_all}
use Rattle.site_worlds.specs.Worlds.{LaneState, Ring, Site, stands, blank, merges, replays, stale, lost}
use Rattle.site_worlds.specs.Moves.{append_batch, drop_oldest, next_file, move_lanes, site_rules}
use Rattle.world_laws.specs.ListLaws.{none_some}
use Rattle.site_courses.specs.Courses.{first_lost, if_any_lost, is_at, to_end}
use Rattle.site_courses.specs.Appending.{Room, fits, wants_next, wants_drop, is_full, room, append_with, append_to, append_course}

none_at_end : (end space : ℕ) (lanes : List LaneState) → first_lost space lanes ≡ None → first_lost space (map (to_end end) lanes) ≡ None
none_at_end end space [] none = none
none_at_end end space (stands upto part ∷ lanes) none = none_at_end end (suc space) lanes none
none_at_end end space (blank restore ∷ lanes) none = none_at_end end (suc space) lanes none
none_at_end end space (merges restore chain archive entries ∷ lanes) none = none_at_end end (suc space) lanes none
none_at_end end space (replays restore chain upto part ∷ lanes) none = none_at_end end (suc space) lanes none
none_at_end end space (stale ∷ lanes) none = none_at_end end (suc space) lanes none
none_at_end end space (lost ∷ lanes) none = absurd (none_some (sym none))

module _ (records : List LogEntry) (site : Site) (none : if_any_lost site ≡ None) where
  by_answer : (answer : Room) → if_any_lost (after_all site_rules (append_with answer records site).moves site) ≡ None
  unfolding site_rules
  by_answer fits = none
  by_answer wants_next = none
  by_answer wants_drop = by (list_all (is_at (length site.history)) site.lanes)
    where
      by : (b : Bool) → if_any_lost (after_all site_rules ((if b then [] else move_lanes (map (to_end (length site.history)) site.lanes) ∷ []) ++ drop_oldest ∷ next_file ∷ append_batch records ∷ []) site) ≡ None
      by true = none
      by false = none_at_end (length site.history) 0 site.lanes none
  by_answer (is_full why) = none

  by_ring : (ring : Option Ring) → if_any_lost (after_all site_rules (append_to ring records site).moves site) ≡ None
  unfolding site_rules
  by_ring None = none
  by_ring (Some ring) = by_answer (room site.history site.starts ring (length records))

  -- none of the lanes is lost behind it
  pub none_lost_behind : if_any_lost (after_all site_rules (append_course records site).moves site) ≡ None
  none_lost_behind = by_ring site.ring
