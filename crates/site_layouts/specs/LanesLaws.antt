-- How a call of the chunks of a phase comes to be a move of a site.
use Rattle.std.specs.Prelude.{◌≡◌, ℕ, zero, suc, ◌+◌, ◌<◌, ◌≤◌, List, [], ◌∷◌, length, slice_get, true, false, Option, Some, None}
use mathlib.Core.Logic.{inl, inr}
use Rattle.std.proofs.Common.{arith, refl, sym, ap, subst, ◌∙◌, ⊎_elim}
use Rattle.std.proofs.lemmas.Bool.{cases_lt}
use Rattle.std.proofs.lemmas.Option.{slice_get_past}
use Rattle.walks.specs.Follows.{Ends, Follows}
use Rattle.walks.specs.Moving.{Phase}
use Rattle.walks.specs.Courses.{Call, Course, make}
use Rattle.walks.specs.LeavesLaws.{phase_done, phase_fails}
use Rattle.site_model.specs.declared.disk_name.DiskName.{DiskName}
use Rattle.site_model.specs.declared.disk_name.DiskName.TheVariants.{Cat, Spare, Boot, Log, Volume, Chunk}
use Rattle.site_worlds.specs.Worlds.{LaneState, Site, stale}
use Rattle.site_worlds.specs.Lanes.{pages_of_space}
use Rattle.site_worlds.specs.Moves.{Move, move_lanes, EachWay, IsOnLane, site_rules}
use Rattle.site_worlds.specs.Allowed.{CanMove, EachCan}
use Rattle.world_laws.specs.KeptLaws.{kept}
use Rattle.world_laws.specs.ListLaws.{none_some}
use Rattle.site_courses.specs.Faults.{Fault, cuts}
use Rattle.site_layouts.specs.Disks.{moves_disk}
use Rattle.site_layouts.specs.Chunks.{HoldsLane, ShowsChunk}
use Rattle.site_layouts.specs.ApartLaws.{lanes_apart}
use Rattle.site_layouts.specs.PhaseLaws.{lanes_from, own_lane, site_at}
use Rattle.site_layouts.specs.Stages.{Agree, HeldSite, Layers, ShowsHeld, StandsFor, behind, site_stage}
use Rattle.site_layouts.specs.StageLaws.{Passed}

as_many_goals : (site : Site) (space : ℕ) (lanes goals : List LaneState) → EachCan site space lanes goals → length goals ≡ length lanes
as_many_goals site space [] [] can = refl
as_many_goals site space (lane ∷ lanes) (goal ∷ goals) can = ap suc (as_many_goals site (suc space) lanes goals can.1)
as_many_goals site space [] (goal ∷ goals) can = absurd can
as_many_goals site space (lane ∷ lanes) [] can = absurd can

-- where the lane of a chunk may be; the other disks have no lane
abbrev pub MayStand : Site → List LaneState → ℕ → LaneState → Type 0
MayStand site goals n place = (lane goal : LaneState) → slice_get site.lanes n ≡ Some lane → slice_get goals n ≡ Some goal → IsOnLane site n lane goal place

abbrev pub MayBe : Site → List LaneState → DiskName → LaneState → Type 0
MayBe site goals (Chunk n) place = (length goals ≡ length site.lanes) × MayStand site goals n place
MayBe site goals name place = Unit {0}

-- a site with each lane in the state that is chosen for its chunk
abbrev pub sites_at : HeldSite → (DiskName → LaneState) → HeldSite
sites_at at places = record { site = site_at at.site places; held = at.held }

module _ {S : Type 0} (layers : Layers S) where
  -- Each chunk goes its own way: each of its images shows its lane at a place where that may be.
  pub record Lanes (goals : List LaneState) (opened from : ℕ) (old new : S) (at : HeldSite) : Type 0 where
    pub can : CanMove (move_lanes goals) at.site
    pub stands : StandsFor layers opened from old at
    pub others : (f : ℕ) (name : DiskName) (bytes : List ℕ) → moves_disk (move_lanes goals) name ≡ false → layers.images new f name bytes → layers.images old f name bytes
    pub earlier : (f : ℕ) (n : ℕ) (bytes : List ℕ) → f < from → layers.images new f (Chunk n) bytes → layers.images old f (Chunk n) bytes
    pub each : (f : ℕ) (n : ℕ) (bytes : List ℕ) → from ≤ f → n < length at.site.lanes → layers.images new f (Chunk n) bytes
        → (place : LaneState) × MayStand at.site goals n place
        × HoldsLane at.site.head.site (pages_of_space at.site.head.spaces n) at.site.history at.site.lines at.site.number at.site.active n place bytes

  -- a site with its lanes where they may be is one that a stop may leave
  pub lanes_count : (goals : List LaneState) (at : HeldSite) (places : DiskName → LaneState) → ((name : DiskName) → MayBe at.site goals name (places name))
      → Passed layers (move_lanes goals) at (sites_at at places)
  unfolding site_stage site_rules
  lanes_count goals at places may = inl (inr (record {
    mids = lanes_from places 0 (length at.site.lanes);
    is = refl;
    ways = each_way 0 at.site.lanes goals (may (Chunk 0)).0 (λ k lane goal is of_goal.
        let here : k ≡ 0 + k = omega arith in
        subst (λ (n : ℕ). IsOnLane at.site n lane goal (places (Chunk n))) here ((may (Chunk k)).1 lane goal is of_goal));
  }))
    where
      each_way : (space : ℕ) (first last : List LaneState) → length last ≡ length first
          → ((k : ℕ) (lane goal : LaneState) → slice_get first k ≡ Some lane → slice_get last k ≡ Some goal → IsOnLane at.site (space + k) lane goal (places (Chunk (space + k))))
          → EachWay (IsOnLane at.site) space first last (lanes_from places space (length first))
      each_way space [] [] same on = tt
      each_way space [] (goal ∷ last) same on = absurd (omega (arith, same))
      each_way space (lane ∷ first) [] same on = absurd (omega (arith, same))
      each_way space (lane ∷ first) (goal ∷ last) same on =
          let here : space + 0 ≡ space = omega arith in (
            subst (λ (n : ℕ). IsOnLane at.site n lane goal (places (Chunk n))) here (on 0 lane goal refl refl),
            each_way (suc space) first last (omega (arith, same)) (λ k l g is of_goal.
                let further : space + suc k ≡ suc space + k = omega arith in
                subst (λ (n : ℕ). IsOnLane at.site n l g (places (Chunk n))) further (on (suc k) l g is of_goal)),
          )

  lanes_of_none : (places : DiskName → LaneState) (space count k : ℕ) → count ≤ k → slice_get (lanes_from places space count) k ≡ None
  lanes_of_none places space zero k le = refl
  lanes_of_none places space (suc count) zero le = absurd (omega (arith, le))
  lanes_of_none places space (suc count) (suc k) le = lanes_of_none places (suc space) count k (omega (arith, le))

  -- a chunk without a lane shows anything
  beyond : (at : HeldSite) (places : DiskName → LaneState) (n : ℕ) (bytes : List ℕ) → length at.site.lanes ≤ n → ShowsHeld (Chunk n) (sites_at at places) bytes
  beyond at places n bytes le =
      subst (λ (lane : Option LaneState). ShowsChunk at.site.head at.site.history at.site.lines at.site.number at.site.active n lane bytes)
      (sym (lanes_of_none places 0 (length at.site.lanes) n le)) tt

  module _ (goals : List LaneState) (opened from : ℕ) (old new : S) (at : HeldSite) (lanes : Lanes goals opened from old new at) where
    abbrev Goes : ℕ → DiskName → List ℕ → LaneState → Type 0
    Goes f name bytes place = (places : DiskName → LaneState) → ((other : DiskName) → MayBe at.site goals other (places other)) → places name ≡ place
        → Follows ShowsHeld (layers.images old) f at (sites_at at places) name bytes

    abbrev To : ℕ → DiskName → List ℕ → Type 0
    To f name bytes = (place : LaneState) × MayBe at.site goals name place × Goes f name bytes place

    resting : (f : ℕ) (name : DiskName) (bytes : List ℕ) → moves_disk (move_lanes goals) name ≡ false → layers.images new f name bytes → Goes f name bytes stale
    resting f name bytes rests image places may is =
        inr (lanes.others f name bytes rests image, λ shows. lanes_apart (lanes_from places 0 (length at.site.lanes)) at.site at.held name bytes rests shows)

    chunk_goes : (f n : ℕ) (bytes : List ℕ) → from ≤ f → layers.images new f (Chunk n) bytes → To f (Chunk n) bytes
    chunk_goes f n bytes le image = ⊎_elim
        (λ lt. let one = lanes.each f n bytes le lt image in (
          one.0,
          (as_many_goals at.site 0 at.site.lanes goals lanes.can, one.1),
          λ places may is. inl (own_lane at.site at.held places n bytes lt
              (subst (λ (place : LaneState). HoldsLane at.site.head.site (pages_of_space at.site.head.spaces n) at.site.history at.site.lines at.site.number at.site.active n place bytes)
              (sym is) one.2)),
        ))
        (λ ge. (
          stale,
          (
            as_many_goals at.site 0 at.site.lanes goals lanes.can,
            λ lane goal is of_goal. absurd (none_some (sym (slice_get_past at.site.lanes n ge) ∙ is)),
          ),
          λ places may is. inl (beyond at places n bytes ge),
        ))
        (cases_lt n (length at.site.lanes))

    disk_goes : (f : ℕ) (name : DiskName) (bytes : List ℕ) → from ≤ f → layers.images new f name bytes → To f name bytes
    disk_goes f Cat bytes le image = (stale, tt, resting f Cat bytes refl image)
    disk_goes f Spare bytes le image = (stale, tt, resting f Spare bytes refl image)
    disk_goes f Boot bytes le image = (stale, tt, resting f Boot bytes refl image)
    disk_goes f Log bytes le image = (stale, tt, resting f Log bytes refl image)
    disk_goes f (Volume n) bytes le image = (stale, tt, resting f (Volume n) bytes refl image)
    disk_goes f (Chunk n) bytes le image = chunk_goes f n bytes le image

    no_earlier_image : (f : ℕ) (name : DiskName) (bytes : List ℕ) → f < from → layers.images new f name bytes → layers.images old f name bytes
    no_earlier_image f Cat bytes lt image = lanes.others f Cat bytes refl image
    no_earlier_image f Spare bytes lt image = lanes.others f Spare bytes refl image
    no_earlier_image f Boot bytes lt image = lanes.others f Boot bytes refl image
    no_earlier_image f Log bytes lt image = lanes.others f Log bytes refl image
    no_earlier_image f (Volume n) bytes lt image = lanes.others f (Volume n) bytes refl image
    no_earlier_image f (Chunk n) bytes lt image = lanes.earlier f n bytes lt image

    -- The lanes are in a phase, each at a place of its own.
    pub lanes_phase : Phase ShowsHeld (sites_at at) (MayBe at.site goals) from (layers.images old) (layers.images new) at
    lanes_phase = record { earlier = no_earlier_image; each = disk_goes }

    -- Where they have ended, each chunk's later images show its goal.
    pub lanes_end : (to : ℕ) → ((f n : ℕ) (bytes : List ℕ) → to ≤ f → n < length goals → layers.images new f (Chunk n) bytes → ShowsHeld (Chunk n) (behind (move_lanes goals) at) bytes)
        → Ends ShowsHeld to (layers.images old) (layers.images new) at (behind (move_lanes goals) at)
    lanes_end to ends f name bytes le image = by name image
      where
        others_end : (other : DiskName) → moves_disk (move_lanes goals) other ≡ false → layers.images new f other bytes
            → Follows ShowsHeld (layers.images old) f at (behind (move_lanes goals) at) other bytes
        others_end other rests there = inr (lanes.others f other bytes rests there, λ shows. lanes_apart goals at.site at.held other bytes rests shows)

        by : (other : DiskName) → layers.images new f other bytes → Follows ShowsHeld (layers.images old) f at (behind (move_lanes goals) at) other bytes
        by Cat there = others_end Cat refl there
        by Spare there = others_end Spare refl there
        by Boot there = others_end Boot refl there
        by Log there = others_end Log refl there
        by (Volume n) there = others_end (Volume n) refl there
        by (Chunk n) there = ⊎_elim
            (λ lt. inl (ends f n bytes le lt there))
            (λ ge. inl (subst (λ (lane : Option LaneState). ShowsChunk at.site.head at.site.history at.site.lines at.site.number at.site.active n lane bytes)
            (sym (slice_get_past goals n ge)) tt))
            (cases_lt n (length goals))

    -- and the site stands for what is behind the phase
    pub lanes_stand : (to : ℕ) → from ≤ to
        → ((f n : ℕ) (bytes : List ℕ) → to ≤ f → n < length goals → layers.images new f (Chunk n) bytes → ShowsHeld (Chunk n) (behind (move_lanes goals) at) bytes)
        → Agree layers opened to new (behind (move_lanes goals) at) → StandsFor layers opened to new (behind (move_lanes goals) at)
    lanes_stand to le ends agree = record {
      clean = λ f name bytes later there image. ⊎_elim
          (λ shows. shows)
          (λ was. was.1 (lanes.stands.clean f name bytes (omega (arith, le, later)) there was.0))
          (lanes_end to ends f name bytes later image);
      agree = agree;
      fits = kept (move_lanes goals) at.site lanes.can lanes.stands.fits;
    }

  -- The clause of such a call: its course is the phase alone.
  module _ (needs from to : ℕ) (old new : S) (goals : Site → List LaneState) (le : from ≤ to)
      (lanes : (opened : ℕ) (at : HeldSite) → needs ≤ opened → StandsFor layers opened from old at → Lanes (goals at.site) opened from old new at) where
    abbrev phase_alone : Site → Course Move Fault
    phase_alone site = make (move_lanes (goals site) ∷ [])

    abbrev may_be : HeldSite → DiskName → LaneState → Type 0
    may_be at name place = MayBe at.site (goals at.site) name place

    pub lanes_fail : (fault : Fault) → cuts fault ≡ true → Call (site_stage layers) needs from to old new phase_alone (Some fault)
    unfolding site_stage
    lanes_fail fault cut = phase_fails (site_stage layers) needs from to old new phase_alone sites_at may_be fault cut le
        (λ opened at enough stands. lanes_phase (goals at.site) opened from old new at (lanes opened at enough stands))
        (λ at places may. lanes_count (goals at.site) at places may)

    -- how it ended: each later image of a chunk shows its goal, and the values agree with that
    pub record HaveMoved (opened : ℕ) (at : HeldSite) : Type 0 where
      pub shows : (f n : ℕ) (bytes : List ℕ) → to ≤ f → n < length (goals at.site) → layers.images new f (Chunk n) bytes
          → ShowsHeld (Chunk n) (behind (move_lanes (goals at.site)) at) bytes
      pub agree : Agree layers opened to new (behind (move_lanes (goals at.site)) at)

    pub lanes_done : ((opened : ℕ) (at : HeldSite) → needs ≤ opened → StandsFor layers opened from old at → HaveMoved opened at)
        → Call (site_stage layers) needs from to old new phase_alone None
    unfolding site_stage site_rules
    lanes_done moved = phase_done (site_stage layers) needs from to old new phase_alone sites_at may_be le (λ site. refl)
        (λ opened at enough stands. let has = moved opened at enough stands in let is = lanes opened at enough stands in (
          lanes_phase (goals at.site) opened from old new at is,
          (
            behind (move_lanes (goals at.site)) at,
            refl,
            lanes_stand (goals at.site) opened from old new at is to le has.shows has.agree,
            lanes_end (goals at.site) opened from old new at is to has.shows,
          ),
        ))
        (λ at places may. lanes_count (goals at.site) at places may)
