-- A site with one lane at another place.
use Rattle.std.proofs.Common.{◌≡◌, ◌∙◌, ℕ, zero, suc, ◌+◌, ◌<◌, List, [], ◌∷◌, length, slice_set, Bool, true, false, ◌==◌, ◌&&◌, Option, None, Some, inl, inr, refl, sym, ap, subst, arith}
use Rattle.std.specs.Prelude.{slice_get, if◌then◌else◌}
use Rattle.std.specs.List.{AllByRecursion}
use Rattle.std.proofs.lemmas.Bool.{cases_Bool, false≢true}
use Rattle.std.proofs.lemmas.Bool.Decides.{nat_tests}
use Rattle.std.proofs.lemmas.Option.{slice_get_within, same_Some}
use Rattle.backup_lines.specs.Spans.{Active}
use Rattle.log_history.specs.History.{History}
use Rattle.walks.specs.Courses.{IsOnWay, after_all}
use Rattle.walks.specs.Moving.{Apart}
use Rattle.site_model.specs.declared.disk_name.DiskName.{DiskName}
use Rattle.site_model.specs.declared.disk_name.DiskName.TheVariants.{Cat, Spare, Boot, Log, Volume, Chunk}
use Rattle.site_worlds.specs.Worlds.{LaneState, Site, stands, blank, merges, replays, stale, lost}
use Rattle.site_worlds.specs.Lanes.{IsAtRest, pages_of_space}
use Rattle.site_worlds.specs.Files.{first_of_file}
use Rattle.site_worlds.specs.Fitness.{AreAtRest, FitStep, IsFitSite}
use Rattle.site_worlds.specs.Moves.{EachWay, IsOnLane, Move, move_lanes, site_rules}
use Rattle.world_laws.specs.ListLaws.{none_some}
use Rattle.world_laws.specs.RingLaws.{step_of}
use Rattle.site_courses.specs.Courses.{if_option_lost, is_option_at, lane_to_end, only_this, to_end}
use Rattle.site_layouts.specs.ApartLaws.{lanes_apart}
use Rattle.site_layouts.specs.Chunks.{HoldsLane, ShowsChunk}
use Rattle.site_layouts.specs.LanesLaws.{MayStand}
use Rattle.site_layouts.specs.Stages.{HeldSite, ShowsHeld}
use Rattle.show_command.specs.Bringing.{MayBring, is_chunk_of}

pub get_set : {X : Type 0} (xs : List X) (k : ℕ) (x : X) → k < length xs → slice_get (slice_set xs k x) k ≡ Some x
get_set [] k x lt = absurd (omega (arith, lt))
get_set (y ∷ xs) zero x lt = refl
get_set (y ∷ xs) (suc k) x lt = get_set xs k x (omega (arith, lt))

pub get_other : {X : Type 0} (xs : List X) (j k : ℕ) (x : X) → (j ≡ k → ⊥) → slice_get (slice_set xs k x) j ≡ slice_get xs j
get_other [] j k x other = refl
get_other (y ∷ xs) zero zero x other = absurd (other refl)
get_other (y ∷ xs) zero (suc k) x other = refl
get_other (y ∷ xs) (suc j) zero x other = refl
get_other (y ∷ xs) (suc j) (suc k) x other = get_other xs j k x (λ (e : j ≡ k). other (ap suc e))

pub set_length : {X : Type 0} (xs : List X) (k : ℕ) (x : X) → length (slice_set xs k x) ≡ length xs
set_length [] k x = refl
set_length (y ∷ xs) zero x = refl
set_length (y ∷ xs) (suc k) x = ap suc (set_length xs k x)

set_same : {X : Type 0} (xs : List X) (k : ℕ) (x : X) → slice_get xs k ≡ Some x → slice_set xs k x ≡ xs
set_same [] k x is = refl
set_same (y ∷ xs) zero x is = ap (λ z. z ∷ xs) (sym (same_Some y x is))
set_same (y ∷ xs) (suc k) x is = ap (λ l. y ∷ l) (set_same xs k x is)

only_set : (end n : ℕ) (lanes : List LaneState) (upto part : ℕ) → slice_get lanes n ≡ Some (stands upto part) → only_this end n lanes ≡ slice_set lanes n (stands end 0)
only_set end n [] upto part is = refl
only_set end zero (lane ∷ lanes) upto part is =
    let same : lane ≡ stands upto part = same_Some lane (stands upto part) is in ap (λ (l : LaneState). to_end end l ∷ lanes) same
only_set end (suc n) (lane ∷ lanes) upto part is = ap (λ (l : List LaneState). lane ∷ l) (only_set end n lanes upto part is)

-- each other lane stays where it is

same_ways : (site : Site) (from : ℕ) (lanes : List LaneState) → EachWay (IsOnLane site) from lanes lanes lanes
same_ways site from [] = tt
same_ways site from (lane ∷ lanes) = (inl refl, same_ways site (suc from) lanes)

one_way : (site : Site) (from n : ℕ) (lanes : List LaneState) (lane goal mid : LaneState) → slice_get lanes n ≡ Some lane → IsOnLane site (from + n) lane goal mid
    → EachWay (IsOnLane site) from lanes (slice_set lanes n goal) (slice_set lanes n mid)
one_way site from n [] lane goal mid is on = tt
one_way site from zero (first ∷ lanes) lane goal mid is on =
    let here : from + 0 ≡ from = omega arith in (
      subst (λ (l : LaneState). IsOnLane site from l goal mid) (sym (same_Some first lane is)) (subst (λ (k : ℕ). IsOnLane site k lane goal mid) here on),
      same_ways site (suc from) lanes,
    )
one_way site from (suc n) (first ∷ lanes) lane goal mid is on =
    let there : from + suc n ≡ suc from + n = omega arith in
    (inl refl, one_way site (suc from) n lanes lane goal mid is (subst (λ (k : ℕ). IsOnLane site k lane goal mid) there on))

-- With no restore under way a lane that isn't lost stands somewhere.
rests_at : (P : LaneState → Type 0) (k : ℕ) (lanes : List LaneState) (lane : LaneState) → AllByRecursion P lanes → slice_get lanes k ≡ Some lane → P lane
rests_at P k [] lane all is = absurd (omega (arith, slice_get_within [] k lane is))
rests_at P zero (first ∷ lanes) lane all is = subst P (same_Some first lane is) all.0
rests_at P (suc k) (first ∷ lanes) lane all is = rests_at P k lanes lane all.1 is

abbrev pub StandsSomewhere : LaneState → Type 0
StandsSomewhere lane = (upto : ℕ) × (part : ℕ) × (lane ≡ stands upto part)

stands_or : (history : History) (held space : ℕ) (lane : LaneState) → IsAtRest history held lane → if_option_lost space (Some lane) ≡ None → StandsSomewhere lane
stands_or history held space (stands upto part) rests none = (upto, part, refl)
stands_or history held space (blank restore) rests none = absurd rests
stands_or history held space (merges restore chain archive entries) rests none = absurd rests
stands_or history held space (replays restore chain upto part) rests none = absurd rests
stands_or history held space stale rests none = absurd rests
stands_or history held space lost rests none = absurd (none_some (sym none))

pub lane_stands : (space : ℕ) (site : Site) (lane : LaneState) → IsFitSite site → MayBring space site → slice_get site.lanes space ≡ Some lane → StandsSomewhere lane
lane_stands space site lane fit may is =
    let rest : AreAtRest site.history site.starts may.has.ring site.lanes =
    subst (λ (a : Option Active). FitStep site.history site.starts (Some may.has.ring) a site.lanes) may.none (step_of site may.has.ring may.has.is fit) in
    let held : ℕ = first_of_file site.starts site.history may.has.ring.oldest in
    stands_or site.history held space lane (rests_at (IsAtRest site.history held) space site.lanes lane rest.each is) (ap (if_option_lost space) (sym is) ∙ may.not_lost)

module _ (space : ℕ) (at : HeldSite) (upto part : ℕ) (lane_is : slice_get at.site.lanes space ≡ Some (stands upto part)) where
  abbrev end : ℕ
  end = length at.site.history

  abbrev pub goals : List LaneState
  goals = slice_set at.site.lanes space (stands end 0)

  there : space < length at.site.lanes
  there = slice_get_within at.site.lanes space (stands upto part) lane_is

  pub goal_is : slice_get goals space ≡ Some (stands end 0)
  goal_is = get_set at.site.lanes space (stands end 0) there

  -- the site with this lane at a place
  abbrev pub with_place : LaneState → HeldSite
  with_place place = record { site = record at.site { lanes = slice_set at.site.lanes space place }; held = at.held }

  abbrev moves_by : Bool → List Move
  moves_by b = if b then [] else move_lanes (only_this end space at.site.lanes) ∷ []

  on_lane : (place : LaneState) → MayStand at.site goals space place → IsOnLane at.site space (stands upto part) (stands end 0) place
  on_lane place may = may (stands upto part) (stands end 0) lane_is goal_is

  at_end : is_option_at end (slice_get at.site.lanes space) ≡ true → stands upto part ≡ stands end 0
  at_end is =
      let both : ((upto == end) && (part == 0)) ≡ true = sym (ap (is_option_at end) lane_is) ∙ is in
      let a : upto ≡ end = grind (arith, nat_tests, both) in
      let b : part ≡ 0 = grind (arith, nat_tests, both) in
      ap (λ (u : ℕ). stands u part) a ∙ ap (λ (p : ℕ). stands end p) b

  not_moved : (place : LaneState) → stands upto part ≡ stands end 0 → IsOnLane at.site space (stands upto part) (stands end 0) place → place ≡ stands upto part
  not_moved place same on = elim on [
    | inl is ↦ is
    | inr (inl is) ↦ is ∙ sym same
    | inr (inr other) ↦ absurd (other.0 (sym same))
  ]

  unmoved : (place : LaneState) → place ≡ stands upto part → (with_place place).site ≡ at.site
  unmoved place is =
      ap (λ (l : List LaneState). record at.site { lanes = l }) (ap (slice_set at.site.lanes space) is ∙ set_same at.site.lanes space (stands upto part) lane_is)

  -- a site with the lane where it may be is on the way
  pub on_way : (place : LaneState) → MayStand at.site goals space place → IsOnWay site_rules (lane_to_end space at.site) at.site (with_place place).site
  unfolding site_rules
  on_way place may = elim (cases_Bool (is_option_at end (slice_get at.site.lanes space))) [
    | inl is ↦
        subst (λ (b : Bool). IsOnWay site_rules (moves_by b) at.site (with_place place).site) (sym is)
        (unmoved place (not_moved place (at_end is) (on_lane place may)))
    | inr isnt ↦
        subst (λ (b : Bool). IsOnWay site_rules (moves_by b) at.site (with_place place).site) (sym isnt)
        (subst (λ (g : List LaneState). IsOnWay site_rules (move_lanes g ∷ []) at.site (with_place place).site) (sym (only_set end space at.site.lanes upto part lane_is))
        (inl (inr (record {
          mids = slice_set at.site.lanes space place;
          is = refl;
          ways = one_way at.site 0 space at.site.lanes (stands upto part) (stands end 0) place lane_is
              (subst (λ (k : ℕ). IsOnLane at.site k (stands upto part) (stands end 0) place) (let here : space ≡ 0 + space = omega arith in here) (on_lane place may));
        }))))
  ]

  -- and at the end it is the site behind the moves
  pub behind_way : (with_place (stands end 0)).site ≡ after_all site_rules (lane_to_end space at.site) at.site
  unfolding site_rules
  behind_way = elim (cases_Bool (is_option_at end (slice_get at.site.lanes space))) [
    | inl is ↦
        subst (λ (b : Bool). (with_place (stands end 0)).site ≡ after_all site_rules (moves_by b) at.site) (sym is) (unmoved (stands end 0) (sym (at_end is)))
    | inr isnt ↦
        subst (λ (b : Bool). (with_place (stands end 0)).site ≡ after_all site_rules (moves_by b) at.site) (sym isnt)
        (ap (λ (l : List LaneState). record at.site { lanes = l }) (sym (only_set end space at.site.lanes upto part lane_is)))
  ]

  -- what the other disks show of it
  others_show : (place : LaneState) (name : DiskName) (bytes : List ℕ) → is_chunk_of space name ≡ false → ShowsHeld name at bytes → ShowsHeld name (with_place place) bytes
  others_show place Cat bytes isnt shows = lanes_apart (slice_set at.site.lanes space place) at.site at.held Cat bytes refl shows
  others_show place Spare bytes isnt shows = lanes_apart (slice_set at.site.lanes space place) at.site at.held Spare bytes refl shows
  others_show place Boot bytes isnt shows = lanes_apart (slice_set at.site.lanes space place) at.site at.held Boot bytes refl shows
  others_show place Log bytes isnt shows = lanes_apart (slice_set at.site.lanes space place) at.site at.held Log bytes refl shows
  others_show place (Volume n) bytes isnt shows = lanes_apart (slice_set at.site.lanes space place) at.site at.held (Volume n) bytes refl shows
  others_show place (Chunk n) bytes isnt shows =
      let other : n ≡ space → ⊥ = λ same. false≢true (sym isnt ∙ (let is : (n == space) ≡ true = grind (arith, nat_tests, same) in is)) in
      subst (λ (o : Option LaneState). ShowsChunk at.site.head at.site.history at.site.lines at.site.number at.site.active n o bytes)
      (sym (get_other at.site.lanes n space place other)) shows

  pub apart : (old : ℕ → DiskName → List ℕ → Type 0) (f : ℕ) (place : LaneState) → Apart ShowsHeld (is_chunk_of space) old f at (with_place place)
  apart old f place name bytes isnt image shows = others_show place name bytes isnt shows

  -- and its own chunk
  pub own_shows : (place : LaneState) (bytes : List ℕ)
      → HoldsLane at.site.head.site (pages_of_space at.site.head.spaces space) at.site.history at.site.lines at.site.number at.site.active space place bytes
      → ShowsHeld (Chunk space) (with_place place) bytes
  own_shows place bytes holds =
      subst (λ (o : Option LaneState). ShowsChunk at.site.head at.site.history at.site.lines at.site.number at.site.active space o bytes)
      (sym (get_set at.site.lanes space place there)) holds
