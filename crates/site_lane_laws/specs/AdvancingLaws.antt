-- How lanes that go to the end of the log go on, and where they come to.
use Rattle.std.specs.Prelude.{◌≡◌, ◌⊎◌, ℕ, ◌+◌, ◌^◌, ◌<◌, ◌≤◌, List, length, map, slice_get, Some, IsTrue}
use mathlib.Core.Logic.{inl, inr}
use Rattle.std.proofs.Common.{arith, refl, sym, ap, subst, ◌∙◌, ⊎_elim}
use Rattle.std.specs.Option.{option_map}
use Rattle.std.proofs.lemmas.Bool.{cases_order}
use Rattle.std.proofs.lemmas.List.{length-map}
use Rattle.std.proofs.lemmas.Option.{slice_get-map, slice_get_within, same_Some}
use Rattle.log_history.specs.History.{History}
use Rattle.log_history.specs.Effects.{Change}
use Rattle.site_disk.specs.Images.{Leaves}
use Rattle.site_disk.specs.Ledger.{EraView}
use Rattle.site_disk.specs.Seen.{seen}
use Rattle.site_disk.specs.declared.disk.Disk.{Ghosts}
use Rattle.site_headers.specs.Headers.{HasHeader}
use Rattle.backup_lines.specs.declared.lanes.LaneState.{LaneState as State}
use Rattle.backup_lines.specs.declared.lanes.LaneState.TheVariants.{At, Blank, Image, Replay}
use Rattle.lane_ways.specs.Pictures.{Stand}
use Rattle.lane_ways.specs.Ways.{lane_pages}
use Rattle.lane_advance.specs.Advances.{Leads, MayAdvance}
use Rattle.space_lane.specs.Chunks.{chunk_tail}
use Rattle.space_lane.specs.Lanes.{Stands, disk_of, space_of}
use Rattle.space_lane.specs.declared.lane.Lane.{Lane}
use Rattle.site_lanes.specs.Lanes.{OfFirst}
use Rattle.site_lanes.specs.Advancing.{Advances, IsAdvanced, MayHaveAdvanced, StandsOnWay}
use Rattle.site_worlds.specs.Worlds.{LaneState, Site, stands, blank, merges, replays, stale, lost}
use Rattle.site_worlds.specs.Lanes.{pages_of_space}
use Rattle.site_worlds.specs.Fitness.{IsFitSite}
use Rattle.site_courses.specs.Courses.{to_end}
use Rattle.site_layouts.specs.Chunks.{HoldsLane, lane_of}
use Rattle.site_layouts.specs.LaneWords.{LaneAgrees}
use Rattle.site_layouts.specs.LaneLaws.{advance_shows}
use Rattle.site_layouts.specs.LanesLaws.{MayStand}
use Rattle.site_layouts.specs.AgreeLaws.{images_show, place_agrees}
use Rattle.site_lane_laws.specs.Agreements.{LanesAgree, LanesShow}
use Rattle.site_lane_laws.specs.OpeningLaws.{there_is}

-- a state that stands for a lane at a place
at_place : (state : State) (upto part : ℕ) → lane_of state ≡ stands upto part → state ≡ At upto part
at_place (At further more) upto part same =
    let a : further ≡ upto = cc in let b : more ≡ part = cc in ap (λ (u : ℕ). At u more) a ∙ ap (λ (p : ℕ). At upto p) b
at_place (Blank restore) upto part same = cc
at_place (Image restore chain image entries) upto part same = cc
at_place (Replay restore chain further more) upto part same = cc

-- one lane

module _ {D : Type 0} (disk : Ghosts D) (tells : IsTrue disk.is_modelled) (era : EraView) (site : Site) (space count upto part : ℕ) (changes : List Change) (was is : Lane D) where
  abbrev Holds : LaneState → List ℕ → Type 0
  Holds lane bytes = HoldsLane site.head.site count site.history site.lines site.number site.active space lane bytes

  abbrev end : ℕ
  end = length site.history

  -- A lane of a fit site stands at a place; its value agrees with it and its chunk shows it; and changes lead on from there to the end.
  pub record IsOnItsWay : Type 0 where
    pub fit : IsFitSite site
    pub agrees : LaneAgrees disk era.number site.head.site count site.number site.active space was (stands upto part)
    pub shows : Holds (stands upto part) (disk.bytes (disk_of was))
    pub leads : Leads site.history end space count end upto part changes

  module _ (before : IsOnItsWay) where
    in_state : Stands site.head.site count (At upto part) (seen disk (disk_of was)) was
    in_state = subst (λ (s : State). Stands site.head.site count s (seen disk (disk_of was)) was)
        (at_place before.agrees.agrees.state upto part before.agrees.agrees.is) before.agrees.agrees.stands

    its_pages : Stand space 0 (lane_pages site.history end space upto part count) (disk.bytes (disk_of was))
    its_pages = subst (Stand space 0 (lane_pages site.history end space upto part count)) in_state.settled before.shows.stand

    on_way : StandsOnWay disk site.history end site.head.site count end upto part changes was
    on_way = record {
      leads = subst (λ (s : ℕ). Leads site.history end s count end upto part changes) (sym before.agrees.space_is) before.leads;
      stands = in_state;
      pages = subst (λ (s : ℕ). Stand s 0 (lane_pages site.history end s upto part count) (disk.bytes (disk_of was))) (sym before.agrees.space_is) its_pages;
    }

    its_header : HasHeader (chunk_tail site.head.site space count) (disk.bytes (disk_of was))
    its_header = subst (λ (s : ℕ). HasHeader (chunk_tail site.head.site s count) (disk.bytes (disk_of was))) before.agrees.space_is in_state.agrees.holds.header

    isnt_lost : stands upto part ≡ lost → ⊥
    isnt_lost same = cc

    -- an image that was there shows the lane where it stood
    old_shows : (f : ℕ) (c : List ℕ) → era.number ≤ f → disk.image (disk_of was) f c → Holds (stands upto part) c
    old_shows f c le image =
        images_show disk site.head.site count site.number site.active site.history site.lines era.number space was (stands upto part) isnt_lost before.agrees before.shows f c le image

    module _ (goals : List LaneState) (lane_is : slice_get site.lanes space ≡ Some (stands upto part)) (goal_is : slice_get goals space ≡ Some (stands end 0)) where
      -- an image shows the lane at a place where it may be
      abbrev pub ShowsPlace : List ℕ → Type 0
      ShowsPlace c = (place : LaneState) × MayStand site goals space place × Holds place c

      pub stays_shown : (f : ℕ) (c : List ℕ) → era.number ≤ f → disk.image (disk_of was) f c → ShowsPlace c
      stays_shown f c le image = (stands upto part, λ lane goal there goes. inl (same_Some (stands upto part) lane (sym lane_is ∙ there)), old_shows f c le image)

      moved_shown : (d c : List ℕ) → MayAdvance site.history end space count (At upto part) upto part (disk.bytes (disk_of was)) d c → ShowsPlace c
      moved_shown d c may =
          let both = advance_shows site goals count space upto part may.further may.more (disk.bytes (disk_of was)) c lane_is goal_is may.place may.not_before
          before.fit its_header may.shows in
          (stands may.further may.more, both.0, both.1)

      -- earlier eras gain no image
      pub one_earlier : MayHaveAdvanced disk era end changes was is → (f : ℕ) (c : List ℕ) → f < era.number → disk.image (disk_of is) f c → disk.image (disk_of was) f c
      one_earlier (inl same) f c lt image = subst (λ (lane : Lane D). disk.image (disk_of lane) f c) same image
      one_earlier (inr works) f c lt image = let leaves = works.crash tells site.history end site.head.site count upto part on_way in leaves.earlier f c lt image

      pub one_shown : Advances disk era end changes was is → (f : ℕ) (c : List ℕ) → era.number ≤ f → disk.image (disk_of is) f c → ShowsPlace c
      one_shown works f c le image = elim (cases_order f era.number) [
        | inl same ↦ ⊎_elim
            (λ was_there. stays_shown era.number c (omega arith) was_there)
            (λ step. moved_shown step.0 c step.2)
            (leaves.during c (subst (λ (g : ℕ). disk.image (disk_of is) g c) same image))
        | inr (inl less) ↦ absurd (omega (arith, le, less))
        | inr (inr after) ↦ let from = leaves.later f c after image in moved_shown from.0 c from.2
      ]
        where
          leaves : Leaves era.number (MayAdvance site.history end space count (At upto part) upto part (disk.bytes (disk_of was))) (disk.image (disk_of was)) (disk.image (disk_of is))
          leaves = subst
              (λ (s : ℕ). Leaves era.number (MayAdvance site.history end s count (At upto part) upto part (disk.bytes (disk_of was))) (disk.image (disk_of was)) (disk.image (disk_of is)))
              before.agrees.space_is (works.crash tells site.history end site.head.site count upto part on_way)

      pub may_shown : MayHaveAdvanced disk era end changes was is → (f : ℕ) (c : List ℕ) → era.number ≤ f → disk.image (disk_of is) f c → ShowsPlace c
      may_shown (inl same) f c le image = stays_shown f c le (subst (λ (lane : Lane D). disk.image (disk_of lane) f c) same image)
      may_shown (inr works) f c le image = one_shown works f c le image

    -- it has come to the end
    module _ (done : IsAdvanced disk era end changes was is) where
      pub done_agrees : LaneAgrees disk (era.number + 1) site.head.site count site.number site.active space is (stands end 0)
      done_agrees = record {
        space_is = done.works.space ∙ before.agrees.space_is;
        earlier = omega (arith, done.works.ledger.no_later);
        agrees = record { state = At end 0; is = refl; stands = done.stands tells site.history end site.head.site count upto part on_way };
      }

      pub done_shows : Holds (stands end 0) (disk.bytes (disk_of is))
      done_shows =
          place_agrees disk site.head.site count site.number site.active site.history site.lines (era.number + 1) space end 0 is done_agrees
          (subst (λ (s : ℕ). Stand s 0 (lane_pages site.history end s end 0 count) (disk.bytes (disk_of is))) before.agrees.space_is
          (done.pages tells site.history end site.head.site count upto part on_way))

      done_isnt_lost : stands end 0 ≡ lost → ⊥
      done_isnt_lost same = cc

      pub done_shown : (f : ℕ) (c : List ℕ) → era.number + 1 ≤ f → disk.image (disk_of is) f c → Holds (stands end 0) c
      done_shown f c le image =
          images_show disk site.head.site count site.number site.active site.history site.lines (era.number + 1) space is (stands end 0) done_isnt_lost done_agrees done_shows
          f c le image

-- all lanes

module _ {D : Type 0} (disk : Ghosts D) (tells : IsTrue disk.is_modelled) (era : EraView) (site : Site) (changes : List Change) (old new : List (Lane D)) where
  -- The lanes of a fit site all stand at places; their values agree and their chunks show them; and changes lead each to the end.
  pub record AreOnTheirWay : Type 0 where
    pub fit : IsFitSite site
    pub stand : (n : ℕ) (lane : LaneState) → slice_get site.lanes n ≡ Some lane → (upto : ℕ) × (part : ℕ) × (lane ≡ stands upto part)
    pub agree : LanesAgree disk era.number site.head site.number site.active site.lanes old
    pub show : LanesShow disk site.head site.history site.lines site.number site.active site.lanes old
    pub leads : (n upto part : ℕ) → slice_get site.lanes n ≡ Some (stands upto part)
        → Leads site.history (length site.history) n (pages_of_space site.head.spaces n) (length site.history) upto part changes

  abbrev pub all_goals : List LaneState
  all_goals = map (to_end (length site.history)) site.lanes

  goal_of : (n upto part : ℕ) → slice_get site.lanes n ≡ Some (stands upto part) → slice_get all_goals n ≡ Some (stands (length site.history) 0)
  goal_of n upto part there = slice_get-map (to_end (length site.history)) site.lanes n ∙ ap (option_map (to_end (length site.history))) there

  -- each goes to the end
  pub goal_there : AreOnTheirWay → (n : ℕ) → n < length site.lanes → slice_get all_goals n ≡ Some (stands (length site.history) 0)
  goal_there before n lt =
      let has = there_is site.lanes n lt in
      let at = before.stand n has.0 has.1 in
      goal_of n at.0 at.1 (has.1 ∙ ap (λ (lane : LaneState). Some lane) at.2)

  module _ (before : AreOnTheirWay) (as_many : length new ≡ length old) where
    its_way : (n upto part : ℕ) (was : Lane D) → slice_get site.lanes n ≡ Some (stands upto part) → slice_get old n ≡ Some was
        → IsOnItsWay disk tells era site n (pages_of_space site.head.spaces n) upto part changes was was
    its_way n upto part was of_lane there = record {
      fit = before.fit;
      agrees = before.agree.each n (stands upto part) was of_lane there;
      shows = before.show n (stands upto part) was of_lane there;
      leads = before.leads n upto part of_lane;
    }

    value_there : (n : ℕ) → n < length site.lanes → (was : Lane D) × (slice_get old n ≡ Some was)
    value_there n lt = there_is old n (omega (arith, lt, before.agree.enough))

    lane_there : (n : ℕ) → n < length site.lanes → (upto : ℕ) × (part : ℕ) × (slice_get site.lanes n ≡ Some (stands upto part))
    lane_there n lt =
        let has = there_is site.lanes n lt in
        let at = before.stand n has.0 has.1 in
        (at.0, at.1, has.1 ∙ ap (λ (lane : LaneState). Some lane) at.2)

    abbrev pub AtSomePlace : ℕ → List ℕ → Type 0
    AtSomePlace n c = (place : LaneState) × MayStand site all_goals n place
        × HoldsLane site.head.site (pages_of_space site.head.spaces n) site.history site.lines site.number site.active n place c

    -- Wherever the work stops, each image of a chunk shows its lane at a place where it may be.
    pub all_shown : OfFirst (length site.lanes) (λ n was is. MayHaveAdvanced disk era (length site.history) changes was is) old new
        → (n : ℕ) (is : Lane D) → n < length site.lanes → slice_get new n ≡ Some is → (f : ℕ) (c : List ℕ) → era.number ≤ f → disk.image (disk_of is) f c → AtSomePlace n c
    all_shown works n is lt behind f c le image =
        let lane = lane_there n lt in
        let value = value_there n lt in
        let way = its_way n lane.0 lane.1 value.0 lane.2 value.1 in
        may_shown disk tells era site n (pages_of_space site.head.spaces n) lane.0 lane.1 changes value.0 is
        (record { fit = way.fit; agrees = way.agrees; shows = way.shows; leads = way.leads })
        all_goals lane.2 (goal_of n lane.0 lane.1 lane.2) (works n value.0 is lt value.1 behind) f c le image

    pub all_earlier : OfFirst (length site.lanes) (λ n was is. MayHaveAdvanced disk era (length site.history) changes was is) old new
        → (n : ℕ) (was is : Lane D) → n < length site.lanes → slice_get old n ≡ Some was → slice_get new n ≡ Some is → (f : ℕ) (c : List ℕ) → f < era.number
        → disk.image (disk_of is) f c → disk.image (disk_of was) f c
    all_earlier works n was is lt there behind f c before image =
        let lane = lane_there n lt in
        let way = its_way n lane.0 lane.1 was lane.2 there in
        one_earlier disk tells era site n (pages_of_space site.head.spaces n) lane.0 lane.1 changes was is
        (record { fit = way.fit; agrees = way.agrees; shows = way.shows; leads = way.leads })
        all_goals lane.2 (goal_of n lane.0 lane.1 lane.2) (works n was is lt there behind) f c before image

    module _ (done : OfFirst (length site.lanes) (λ n was is. IsAdvanced disk era (length site.history) changes was is) old new) where
      goal_stands : (n : ℕ) (goal : LaneState) → slice_get all_goals n ≡ Some goal → (n < length site.lanes) × (goal ≡ stands (length site.history) 0)
      goal_stands n goal there =
          let lt : n < length site.lanes = omega (arith, slice_get_within all_goals n goal there, length-map site.lanes (to_end (length site.history))) in
          let lane = lane_there n lt in
          (lt, sym (same_Some (stands (length site.history) 0) goal (sym (goal_of n lane.0 lane.1 lane.2) ∙ there)))

      -- Once all have come to the end, the values agree with the lanes there,
      pub all_agree : LanesAgree disk (era.number + 1) site.head site.number site.active all_goals new
      all_agree = record {
        enough = omega (arith, length-map site.lanes (to_end (length site.history)), before.agree.enough, as_many);
        each = λ n goal is of_goal behind.
            let at = goal_stands n goal of_goal in
            let lane = lane_there n at.0 in
            let value = value_there n at.0 in
            let way = its_way n lane.0 lane.1 value.0 lane.2 value.1 in
            subst (LaneAgrees disk (era.number + 1) site.head.site (pages_of_space site.head.spaces n) site.number site.active n is) (sym at.1)
            (done_agrees disk tells era site n (pages_of_space site.head.spaces n) lane.0 lane.1 changes value.0 is
            (record { fit = way.fit; agrees = way.agrees; shows = way.shows; leads = way.leads }) (done n value.0 is at.0 value.1 behind));
      }

      -- and each later image of a chunk shows its lane there.
      pub all_end : (n : ℕ) (is : Lane D) → n < length site.lanes → slice_get new n ≡ Some is → (f : ℕ) (c : List ℕ) → era.number + 1 ≤ f → disk.image (disk_of is) f c
          → HoldsLane site.head.site (pages_of_space site.head.spaces n) site.history site.lines site.number site.active n (stands (length site.history) 0) c
      all_end n is lt behind f c le image =
          let lane = lane_there n lt in
          let value = value_there n lt in
          let way = its_way n lane.0 lane.1 value.0 lane.2 value.1 in
          done_shown disk tells era site n (pages_of_space site.head.spaces n) lane.0 lane.1 changes value.0 is
          (record { fit = way.fit; agrees = way.agrees; shows = way.shows; leads = way.leads }) (done n value.0 is lt value.1 behind) f c le image
