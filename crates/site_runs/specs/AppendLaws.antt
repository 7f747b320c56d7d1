-- What is there behind the append of a batch.
use Rattle.std.specs.Prelude.{◌≡◌, List, [], ◌∷◌, ◌++◌, length, map, Bool, true, false, if◌then◌else◌, Option, None, Some}
use Rattle.std.specs.List.{list_all}
use Rattle.std.proofs.Common.{refl, sym, ap, subst, ◌∙◌}
use Rattle.log_history.specs.History.{LogEntry, History}
use Rattle.walks.specs.Courses.{after_all}
use Rattle.walks.specs.CoursesLaws.{after_all-append}
use Rattle.site_worlds.specs.Worlds.{Ring, Site}
use Rattle.site_worlds.specs.Moves.{append_batch, drop_oldest, next_file, move_lanes, site_rules}
use Rattle.site_worlds.specs.Allowed.{HasRing}
use Rattle.world_laws.specs.ListLaws.{none_some}
use Rattle.site_courses.specs.Courses.{is_at, to_end, lanes_to_end}
use Rattle.site_courses.specs.Appending.{Room, fits, wants_next, wants_drop, is_full, room, append_with, append_to, append_course}

-- The log has the batch, and the head and the restore under way are as they were.
pub record HasAppended (records : List LogEntry) (site other : Site) : Type 0 where
  pub head : other.head ≡ site.head
  pub history : other.history ≡ site.history ++ records
  pub active : other.active ≡ site.active

-- lanes that go to the end change nothing of these
record AreAsBefore (site other : Site) : Type 0 where
  head : other.head ≡ site.head
  history : other.history ≡ site.history
  active : other.active ≡ site.active

lanes_move_lanes : (site : Site) → AreAsBefore site (after_all site_rules (lanes_to_end site) site)
unfolding site_rules
lanes_move_lanes site = by (list_all (is_at (length site.history)) site.lanes)
  where
    by : (b : Bool) → AreAsBefore site (after_all site_rules (if b then [] else move_lanes (map (to_end (length site.history)) site.lanes) ∷ []) site)
    by true = record { head = refl; history = refl; active = refl }
    by false = record { head = refl; history = refl; active = refl }

module _ (records : List LogEntry) where
  dropped : (site other : Site) → AreAsBefore site other → HasAppended records site (after_all site_rules (drop_oldest ∷ next_file ∷ append_batch records ∷ []) other)
  unfolding site_rules
  dropped site other is = record { head = is.head; history = ap (λ (h : History). h ++ records) is.history; active = is.active }

  with_room : (r : Room) (site : Site) → (append_with r records site).fault ≡ None → HasAppended records site (after_all site_rules (append_with r records site).moves site)
  unfolding site_rules
  with_room fits site none = record { head = refl; history = refl; active = refl }
  with_room wants_next site none = record { head = refl; history = refl; active = refl }
  with_room wants_drop site none =
      subst (HasAppended records site) (sym (after_all-append site_rules (lanes_to_end site) (drop_oldest ∷ next_file ∷ append_batch records ∷ []) site))
      (dropped site (after_all site_rules (lanes_to_end site) site) (lanes_move_lanes site))
  with_room (is_full why) site none = absurd (none_some (sym none))

  to_ring : (ring : Option Ring) (site : Site) → site.ring ≡ ring → HasRing site → (append_to ring records site).fault ≡ None
      → HasAppended records site (after_all site_rules (append_to ring records site).moves site)
  to_ring None site is has none = absurd (none_some (sym is ∙ has.is))
  to_ring (Some ring) site is has none = with_room (room site.history site.starts ring (length records)) site none

  -- with the log there
  pub append_has : (site : Site) → HasRing site → (append_course records site).fault ≡ None → HasAppended records site (after_all site_rules (append_course records site).moves site)
  append_has site has none = to_ring site.ring site refl has none
