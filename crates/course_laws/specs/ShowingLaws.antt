-- The moves of formatting and of showing a space may be made.
use Rattle.std.specs.Prelude.{◌≡◌, ℕ, zero, suc, List, [], ◌∷◌, length, Bool, true, false, if◌then◌else◌, slice_get, Option, None, Some}
use Rattle.std.proofs.Common.{refl}
use Rattle.site_headers.specs.Heads.{Head, IsHead}
use Rattle.onbar_grammar.specs.Script.{place_of}
use Rattle.walks.specs.Courses.{make}
use Rattle.site_worlds.specs.Worlds.{LaneState, Site, World, unformatted, formatted}
use Rattle.site_worlds.specs.Moves.{move_lanes}
use Rattle.site_worlds.specs.Allowed.{HasRing, stays, EachCan}
use Rattle.world_laws.specs.KeptLaws.{CanAll}
use Rattle.world_laws.specs.NewLaws.{CanWorldAll}
use Rattle.site_courses.specs.Courses.{check, in_turn, if_active, if_log_lost, if_this_lost, if_no_page, only_this, is_option_at, lane_to_end, show_place, show_course, init_course}
use Rattle.course_laws.specs.Leading.{LeadsFrom, leads_check, leads_none, leads_then}
use Rattle.course_laws.specs.AppendingLaws.{active_none, lane_can, ring_there}

-- `-init`, with a head in the limits
pub init_can : (head : Head) (world : World) → IsHead head → CanWorldAll (init_course head world).moves world
init_can head unformatted is = (is, tt)
init_can head (formatted site) is = tt

others_stay : (site : Site) (space : ℕ) (lanes : List LaneState) → EachCan site space lanes lanes
others_stay site space [] = tt
others_stay site space (lane ∷ lanes) = (stays refl, others_stay site (suc space) lanes)

this_can : (site : Site) (space n : ℕ) (lanes : List LaneState) → site.active ≡ None → HasRing site → EachCan site space lanes (only_this (length site.history) n lanes)
this_can site space n [] none has = tt
this_can site space zero (lane ∷ lanes) none has = (lane_can site space lane none has, others_stay site (suc space) lanes)
this_can site space (suc n) (lane ∷ lanes) none has = (stays refl, this_can site (suc space) n lanes none has)

-- no restore is under way; and the log is there
abbrev Idle : Site → Type 0
Idle site = Unit {0} × (if_active site ≡ None)

abbrev Usable : Site → Type 0
Usable site = (site.active ≡ None) × HasRing site

lane_goes : (space : ℕ) → LeadsFrom Usable (λ site. make (lane_to_end space site)) (λ site. Unit {0})
lane_goes space site fit before = record { can = by (is_option_at (length site.history) (slice_get site.lanes space)); then_holds = λ none. tt }
  where
    by : (b : Bool) → CanAll (if b then [] else move_lanes (only_this (length site.history) space site.lanes) ∷ []) site
    by true = tt
    by false = (this_can site 0 space site.lanes before.0 before.1, tt)

place_leads : (name : List ℕ) (page : Option ℕ) (place : Option (ℕ × ℕ)) → LeadsFrom Idle (show_place name page place) (λ site. Unit {0})
place_leads name page None site fit idle = record { can = tt; then_holds = λ none. tt }
place_leads name page (Some place) site fit idle =
    leads_then Idle Idle Last (check (λ site. if_no_page page place.1))
    (in_turn (check if_log_lost ∷ check (if_this_lost place.0) ∷ (λ site. make (lane_to_end place.0 site)) ∷ []))
    (λ site fit idle. record { can = tt; then_holds = λ none. idle })
    (leads_then Idle Usable Last (check if_log_lost) (in_turn (check (if_this_lost place.0) ∷ (λ site. make (lane_to_end place.0 site)) ∷ []))
    (λ site fit idle. record { can = tt; then_holds = λ none. (active_none site.active idle.1, ring_there site site.ring refl none) })
    (leads_then Usable Usable Last (check (if_this_lost place.0)) (in_turn ((λ site. make (lane_to_end place.0 site)) ∷ []))
    (λ site fit usable. record { can = tt; then_holds = λ none. usable })
    (leads_then Usable Last Last (λ site. make (lane_to_end place.0 site)) (in_turn []) (lane_goes place.0) (leads_none Last)))) site fit idle
  where
    Last : Site → Type 0
    Last site = Unit {0}

-- `-D`
pub leads_show : (name : List ℕ) (page : Option ℕ) → LeadsFrom (λ site. Unit {0}) (show_course name page) (λ site. Unit {0})
leads_show name page =
    leads_then Last Idle Last (check if_active) (in_turn ((λ site. show_place name page (place_of name site.head.spaces) site) ∷ [])) (leads_check Last if_active)
    (leads_then Idle Last Last (λ site. show_place name page (place_of name site.head.spaces) site) (in_turn [])
    (λ site fit idle. place_leads name page (place_of name site.head.spaces) site fit idle) (leads_none Last))
  where
    Last : Site → Type 0
    Last site = Unit {0}
