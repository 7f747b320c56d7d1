-- What the opening of lanes finds, and leaves, of a site that the chunks show.
use Rattle.std.proofs.Common.{◌≡◌, ℕ, zero, suc, ◌+◌, ◌<◌, ◌≤◌, List, [], ◌∷◌, length, Option, Some, None, Result, Ok, Err, refl, sym, ap, subst, ◌∙◌, arith, inl, inr, ⊎_elim}
use Rattle.std.specs.Prelude.{◌⊎◌, slice_get, IsTrue, MatchResult, OnOk}
use Rattle.std.specs.Option.{option_map}
use Rattle.std.proofs.lemmas.Bool.{cases_lt}
use Rattle.std.proofs.lemmas.Option.{slice_get_past, slice_get_within}
use Rattle.site_disk.specs.Bytes.{Same}
use Rattle.site_disk.specs.Images.{Leaves}
use Rattle.site_disk.specs.ImagesLaws.{no_more_of}
use Rattle.site_disk.specs.Ledger.{EraView, MayUse}
use Rattle.site_disk.specs.declared.disk.Disk.{Ghosts}
use Rattle.site_headers.specs.Heads.{Head}
use Rattle.space_lane.specs.Lanes.{disk_of}
use Rattle.space_lane.specs.declared.lane.Lane.{Lane}
use Rattle.site_lanes.specs.Lanes.{Syncs}
use Rattle.site_lanes.specs.declared.refusals.LanesFault.{LanesFault}
use Rattle.site_lanes.specs.declared.refusals.LanesFault.TheVariants.{ChunkLost, BadMark, Failed}
use Rattle.site_lanes.specs.declared.refusals.Opening.TheVariants.{Opened}
use Rattle.site_model.specs.declared.disk_name.DiskName.{DiskName}
use Rattle.site_model.specs.declared.disk_name.DiskName.TheVariants.{Cat, Spare, Boot, Log, Volume, Chunk}
use Rattle.site_worlds.specs.Worlds.{LaneState, lost}
use Rattle.site_worlds.specs.Lanes.{pages_of_space}
use Rattle.site_courses.specs.Courses.{if_any_lost, if_lost, if_option_lost, if_this_lost}
use Rattle.site_courses.specs.Faults.{Fault, chunk_lost}
use Rattle.site_layouts.specs.Chunks.{HoldsLane, ShowsChunk}
use Rattle.site_layouts.specs.Disks.{IsOpened}
use Rattle.site_layouts.specs.LaneLaws.{lane_is_there}
use Rattle.site_layouts.specs.LaneWords.{IsThere, LaneAgrees}
use Rattle.site_layouts.specs.Stages.{HeldSite, ShowsHeld, StandsFor}
use Rattle.site_lane_laws.specs.Agreements.{LanesAgree, is_lost}
use Rattle.site_lane_laws.specs.OpeningLaws.{IsSyncedLane, has_none, one_agrees, one_shows, there_is}
use Rattle.site_lane_laws.specs.RefusalLaws.{first_lost_at, none_lost}
use Rattle.site_commands.specs.Commands.{AddsNone}
use Rattle.site_openings.specs.Openings.{HasChunk, IsFirstBadChunk, IsWanted}
use Rattle.site_core.specs.Disks.{MayUseAll, bytes_or, contents_of, image_or, images_of}
use Rattle.site_core.specs.Faults.{IsFailure, fault_in, of_lanes}
use Rattle.site_core.specs.LayerLaws.{boot_later, log_later, store_later}
use Rattle.site_core.specs.Layers.{layers}
use Rattle.site_core.specs.Made.{IsMadeSite}
use Rattle.site_core.specs.Quiet.{ReadsSame}
use Rattle.site_core.specs.declared.faults.SiteFault.{SiteFault}
use Rattle.site_core.specs.declared.site.Site.{Site}
use Rattle.site_lane_opening.specs.Left.{IsWantedChunk, LanesLeft, OneLane, ShowLanes, ShowsStill}
use Rattle.site_lane_opening.specs.Steps.{Coming, FailsOne, Opens, RefusesBy, Stops, StopsSite, ToAny, ToOpened, ToRefused, Touches, Tries, contents_in, era_behind}
use Rattle.site_lane_opening.proofs.DiskLemmas.{IsNoChunk, all_disks, touched_chunks}
use Rattle.site_lane_opening.proofs.SiteLemmas.{lanes_may}
use Rattle.site_lane_opening.proofs.TryingLemmas.{synced_may}
use Rattle.site_lane_opening.proofs.WantedLemmas.{gave, mid_space}

-- images that gain none

module _ {D : Type 0} (disk : Ghosts D) (counts : (it : D) (f g : ℕ) (c : List ℕ) → (disk.ledger it).last ≤ f → (disk.ledger it).last < g → disk.image it g c → disk.image it f c)
    (era : EraView) where
  no_more : (now : EraView) (was is : Lane D) → MayUse now (disk.ledger (disk_of was)) → Leaves now.number Same (disk.image (disk_of was)) (disk.image (disk_of is))
      → (f : ℕ) (c : List ℕ) → disk.image (disk_of is) f c → disk.image (disk_of was) f c
  no_more now was is may leaves f c image =
      no_more_of now.number (disk.image (disk_of was)) (disk.image (disk_of is)) leaves
      (λ b later. counts (disk_of was) now.number (now.number + 1) b may.not_past (omega (arith, may.not_past)) later) f c image

  module _ (wanted : Option ℕ) (head : Head) (old new : Site D) (value : new ≡ record old { lanes = new.lanes }) (may : MayUseAll disk era old)
      (within : (n : ℕ) → IsWanted wanted head n → n < length old.lanes.items) where
    abbrev GainsNone : Option D → Option D → Type 0
    GainsNone o p = (f : ℕ) (c : List ℕ) → image_or disk p f c → image_or disk o f c

    abbrev GivesSame : Option D → Option D → Type 0
    GivesSame o p = bytes_or disk p ≡ bytes_or disk o

    adds_none : (P : Coming disk) → Touches disk wanted head P old.lanes.items new.lanes.items
        → ((pages : ℕ) (was is : Lane D) → MayUse era (disk.ledger (disk_of was)) → P pages was is → (f : ℕ) (c : List ℕ) → disk.image (disk_of is) f c → disk.image (disk_of was) f c)
        → AddsNone (images_of disk old) (images_of disk new)
    adds_none P touches means f name c image =
        all_disks old new value (λ n o p. GainsNone o p) (λ n isnt f c image. image)
        (touched_chunks disk wanted head P old new touches within (λ n o p. GainsNone o p) (λ n isnt f c image. image)
        (λ n was is w there by. means (pages_of_space head.spaces n) was is (lanes_may disk era old old.lanes.items refl may n was there) by))
        name f c image

    -- where they were synced alone
    pub syncs_add : Touches disk wanted head (λ pages was is. Syncs disk era was is) old.lanes.items new.lanes.items → AddsNone (images_of disk old) (images_of disk new)
    syncs_add touches = adds_none (λ pages was is. Syncs disk era was is) touches (λ pages was is m syncs. no_more era was is m syncs.crash)

    -- and where they were refused
    refused_adds : (site pages : ℕ) (was is : Lane D) → MayUse era (disk.ledger (disk_of was)) → Tries disk era site (ToRefused disk (era_behind era)) pages was is
        → (f : ℕ) (c : List ℕ) → disk.image (disk_of is) f c → disk.image (disk_of was) f c
    refused_adds site pages was is m tries f c image =
        no_more era was tries.mid m tries.syncs.crash f c
        (no_more (era_behind era) tries.mid is (synced_may disk era was tries.mid m tries.syncs) tries.came.images f c image)

    pub refusal_keeps : Touches disk wanted head (Tries disk era head.site (ToRefused disk (era_behind era))) old.lanes.items new.lanes.items
        → AddsNone (images_of disk old) (images_of disk new) × ReadsSame disk old new
    refusal_keeps touches = (
      adds_none (Tries disk era head.site (ToRefused disk (era_behind era))) touches (λ pages was is m tries. refused_adds head.site pages was is m tries),
      all_disks old new value (λ n o p. GivesSame o p) (λ n isnt. refl)
          (touched_chunks disk wanted head (Tries disk era head.site (ToRefused disk (era_behind era))) old new touches within (λ n o p. GivesSame o p) (λ n isnt. refl)
          (λ n was is w there tries. tries.came.bytes ∙ tries.synced.bytes)),
    )

    -- by the fault
    pub stop_refuses : (to : ℕ) (fault : SiteFault) → StopsSite disk wanted head era (ToRefused disk (era_behind era)) to fault old new
        → IsFailure fault ⊎ (AddsNone (images_of disk old) (images_of disk new) × ReadsSame disk old new)
    stop_refuses to fault site =
        subst (λ (f : SiteFault). IsFailure f ⊎ (AddsNone (images_of disk old) (images_of disk new) × ReadsSame disk old new)) (sym site.fault_is)
        (elim site.stops [
          | inl syncing ↦ inl (failed_is site.own syncing.1)
          | inr (lt, inl failed) ↦ inl (failed_is site.own failed.1)
          | inr (lt, inr refuses) ↦ inr (refusal_keeps refuses.0)
        ])
      where
        failed_is : (own : LanesFault) → FailsOne disk wanted head own old.lanes.items new.lanes.items → IsFailure (of_lanes head.spaces own)
        failed_is own fails = subst (λ (f : LanesFault). IsFailure (of_lanes head.spaces f)) (sym fails.fault_is) tt

  -- a site that the chunks show

  module _ (tells : IsTrue disk.is_modelled) (wanted : Option ℕ) (at : HeldSite) (old new : Site D) (value : new ≡ record old { lanes = new.lanes }) (made : IsMadeSite old)
      (may : MayUseAll disk era old) (within : (n : ℕ) → IsWanted wanted at.site.head n → n < length old.lanes.items)
      (spaces : (n : ℕ) → IsWanted wanted at.site.head n → n < length at.site.head.spaces) (stands : StandsFor (layers disk) 2 era.number old at) (show : ShowLanes disk wanted at old) where
    abbrev head_here : Head
    head_here = at.site.head

    abbrev pages : ℕ → ℕ
    pages n = pages_of_space at.site.head.spaces n

    abbrev Holds : ℕ → LaneState → List ℕ → Type 0
    Holds n lane bytes = HoldsLane at.site.head.site (pages n) at.site.history at.site.lines at.site.number at.site.active n lane bytes

    abbrev ShowsIt : ℕ → List ℕ → Option LaneState → Type 0
    ShowsIt n bytes o = ShowsChunk at.site.head at.site.history at.site.lines at.site.number at.site.active n o bytes

    lane_at : (n : ℕ) → IsWanted wanted head_here n → (lane : LaneState) × (slice_get at.site.lanes n ≡ Some lane)
    lane_at n w = there_is at.site.lanes n (let count = stands.fits.lanes.count in omega (arith, spaces n w, count))

    shown : (n : ℕ) → IsWanted wanted head_here n → (lane : LaneState) → slice_get at.site.lanes n ≡ Some lane → Holds n lane (contents_of disk old (Chunk n))
    shown n w lane of_lane = subst (ShowsIt n (contents_of disk old (Chunk n))) of_lane (show n w)

    found : (n : ℕ) → IsWanted wanted head_here n → (lane : LaneState) → slice_get at.site.lanes n ≡ Some lane → (lane ≡ lost → ⊥)
        → IsThere at.site.head.site n (pages n) at.site.number at.site.active lane (contents_of disk old (Chunk n))
    found n w lane of_lane isnt =
        lane_is_there at.site.head.site (pages n) at.site.history at.site.lines at.site.number at.site.active n lane (contents_of disk old (Chunk n)) isnt (shown n w lane of_lane)

    lost_without : (n : ℕ) → IsWanted wanted head_here n → (lane : LaneState) → slice_get at.site.lanes n ≡ Some lane → lane ≡ lost → HasChunk head_here n (contents_of disk old (Chunk n)) → ⊥
    lost_without n w lane of_lane same = subst (λ (l : LaneState). Holds n l (contents_of disk old (Chunk n))) same (shown n w lane of_lane)

    lost_there : (n : ℕ) → IsWanted wanted head_here n → (lane : LaneState) → slice_get at.site.lanes n ≡ Some lane → (HasChunk head_here n (contents_of disk old (Chunk n)) → ⊥) → lane ≡ lost
    lost_there n w lane of_lane none = ⊎_elim
        (λ same. same)
        (λ isnt. let is = found n w lane of_lane isnt in absurd (none is.header))
        (is_lost lane)

    -- one lane
    module _ (n : ℕ) (w : IsWanted wanted head_here n) (was is : Lane D) (there : slice_get old.lanes.items n ≡ Some was) (to : Coming disk)
        (tries : Tries disk era at.site.head.site to (pages n) was is) (lane : LaneState) (of_lane : slice_get at.site.lanes n ≡ Some lane) where
      synced_lane : IsSyncedLane disk tells (era_behind era) at.site.head.site (pages n) at.site.history at.site.lines at.site.number at.site.active n lane tries.mid is
      synced_lane = record {
        space_is = mid_space disk era head_here n old.lanes.items was tries.mid there (made.lanes n was there).space tries.syncs tries.synced;
        shows = subst (Holds n lane) (gave disk era head_here n old.lanes.items was tries.mid there (made.lanes n was there).space tries.syncs tries.synced) (shown n w lane of_lane);
        synced = λ f c le image. tries.synced.durable tells f c (omega (arith, le)) image;
      }

      image_shows : (f : ℕ) (c : List ℕ) → era.number < f → disk.image (disk_of is) f c → ShowsHeld (Chunk n) at c
      image_shows f c lt image =
          subst (ShowsIt n c) (sym of_lane)
          (one_shows disk tells (era_behind era) at.site.head.site (pages n) at.site.history at.site.lines at.site.number at.site.active n lane tries.mid is synced_lane tries.works f c
          (omega (arith, lt)) image)

      mid_before : (f : ℕ) (c : List ℕ) → f < (era_behind era).number → disk.image (disk_of is) f c → disk.image (disk_of tries.mid) f c
      mid_before f c lt image = ⊎_elim
          (λ same.
          let leaves = tries.works.unheaded tells
          (has_none disk tells (era_behind era) at.site.head.site (pages n) at.site.history at.site.lines at.site.number at.site.active n lane tries.mid is synced_lane same) in
          leaves.earlier f c lt image)
          (λ isnt.
          let is_there = lane_is_there at.site.head.site (pages n) at.site.history at.site.lines at.site.number at.site.active n lane (disk.bytes (disk_of tries.mid)) isnt synced_lane.shows in
          let leaves = tries.works.crash tells is_there.long in
          leaves.earlier f c lt image)
          (is_lost lane)

      image_before : (f : ℕ) (c : List ℕ) → f ≤ era.number → disk.image (disk_of is) f c → disk.image (disk_of was) f c
      image_before f c le image =
          no_more era was tries.mid (lanes_may disk era old old.lanes.items refl may n was there) tries.syncs.crash f c (mid_before f c (omega (arith, le)) image)

    -- what their openings leave
    no_wanted : (name : DiskName) → IsNoChunk name → IsWantedChunk wanted head_here name → ⊥
    no_wanted Cat isnt w = w
    no_wanted Spare isnt w = w
    no_wanted Boot isnt w = w
    no_wanted Log isnt w = w
    no_wanted (Volume n) isnt w = w
    no_wanted (Chunk n) isnt w = isnt

    abbrev Earlier : Option D → Option D → Type 0
    Earlier o p = (f : ℕ) (c : List ℕ) → f ≤ era.number → image_or disk p f c → image_or disk o f c

    abbrev Later : DiskName → Option D → Option D → Type 0
    Later name o p = (f : ℕ) (c : List ℕ) → era.number < f → image_or disk p f c
        → (image_or disk o f c × (IsWantedChunk wanted head_here name → c ≡ bytes_or disk o)) ⊎ ShowsStill disk wanted at name c

    module _ (to : Coming disk) (touches : Touches disk wanted head_here (Tries disk era at.site.head.site to) old.lanes.items new.lanes.items) where
      pub lanes_left : LanesLeft disk wanted era.number at old new
      lanes_left = record {
        up_to = λ f name c le image.
            all_disks old new value (λ n o p. Earlier o p) (λ n isnt f c le image. image)
            (touched_chunks disk wanted head_here (Tries disk era at.site.head.site to) old new touches within (λ n o p. Earlier o p) (λ n isnt f c le image. image)
            (λ n was is w there tries. let lane = lane_at n w in image_before n w was is there to tries lane.0 lane.1))
            name f c le image;
        later = λ f name c lt image. elim (
            all_disks old new value Later (λ n isnt f c lt image. inl (image, λ w. absurd (no_wanted n isnt w)))
            (touched_chunks disk wanted head_here (Tries disk era at.site.head.site to) old new touches within (λ n o p. Later (Chunk n) o p)
            (λ n isnt f c lt image. inl (image, λ w. absurd (isnt w)))
            (λ n was is w there tries f c lt image. let lane = lane_at n w in
            inr (record { is_wanted = w; shows = image_shows n w was is there to tries lane.0 lane.1 f c lt image })))
            name f c lt image) [
              | inl was ↦ inl (record { image = was.0; synced = was.1 })
              | inr shows ↦ inr shows
            ];
      }

    pub stop_leaves : (refused : Coming disk) (to : ℕ) (own : LanesFault) → Stops disk wanted head_here era refused to own old.lanes.items new.lanes.items
        → AddsNone (images_of disk old) (images_of disk new) ⊎ LanesLeft disk wanted era.number at old new
    stop_leaves refused to own stops = elim stops [
      | inl syncing ↦ inl (syncs_add wanted head_here old new value may within syncing.0)
      | inr (lt, inl failed) ↦ inr (lanes_left (ToAny disk) failed.0)
      | inr (lt, inr refuses) ↦ inr (lanes_left refused refuses.0)
    ]

    pub left_by : {A : Type 0} (refused : Coming disk) (to : ℕ) (result : Result A SiteFault)
        → MatchResult result (λ a. Opens disk wanted head_here era old.lanes.items new.lanes.items) (λ fault. StopsSite disk wanted head_here era refused to fault old new)
        → MatchResult result (λ a. LanesLeft disk wanted era.number at old new) (λ fault. IsFailure fault ⊎ LanesLeft disk wanted era.number at old new)
    left_by refused to (Ok a) opens = lanes_left (ToOpened disk (era_behind era) at.site.head.site) opens
    left_by refused to (Err fault) stops = elim stops.stops [
      | inl syncing ↦ inl (subst IsFailure (sym (stops.fault_is ∙ ap (of_lanes head_here.spaces) syncing.1.fault_is)) tt)
      | inr (lt, inl failed) ↦ inr (lanes_left (ToAny disk) failed.0)
      | inr (lt, inr refuses) ↦ inr (lanes_left refused refuses.0)
    ]

    pub leaves_by : {A : Type 0} (refused : Coming disk) (to : ℕ) (result : Result A SiteFault)
        → MatchResult result (λ a. Opens disk wanted head_here era old.lanes.items new.lanes.items) (λ fault. StopsSite disk wanted head_here era refused to fault old new)
        → AddsNone (images_of disk old) (images_of disk new) ⊎ LanesLeft disk wanted era.number at old new
    leaves_by refused to (Ok a) opens = inr (lanes_left (ToOpened disk (era_behind era) at.site.head.site) opens)
    leaves_by refused to (Err fault) stops = stop_leaves refused to stops.own stops.stops

    -- what stands for the site

    pub two_stands : (to : ℕ) → era.number ≤ to → StandsFor (layers disk) 2 to new at
    two_stands to le = record {
      clean = λ f name c ge opened image. clean f name c (omega (arith, le, ge)) opened image;
      agree = record {
        store = subst (λ (s : Site D). (layers disk).store_agrees to s at.site.head at.site.store at.held) (sym value)
            (store_later disk era.number to le old at.site.head at.site.store at.held stands.agree.store);
        boot = λ enough. subst (λ (s : Site D). (layers disk).boot_agrees to s at.site.head at.site.lines at.site.number at.site.active) (sym value)
            (boot_later disk era.number to le old at.site.head at.site.lines at.site.number at.site.active (stands.agree.boot enough));
        log = λ enough. subst (λ (s : Site D). (layers disk).log_agrees to s at.site.head at.site.starts at.site.history at.site.ring) (sym value)
            (log_later disk era.number to le old at.site.head at.site.starts at.site.history at.site.ring (stands.agree.log enough));
        lanes = λ enough. absurd (omega (arith, enough));
      };
      fits = stands.fits;
    }
      where
        clean : (f : ℕ) (name : DiskName) (c : List ℕ) → era.number ≤ f → IsOpened 2 name → images_of disk new f name c → ShowsHeld name at c
        clean f Cat c le opened image = stands.clean f Cat c le opened (subst (λ (s : Site D). images_of disk s f Cat c) value image)
        clean f Spare c le opened image = stands.clean f Spare c le opened (subst (λ (s : Site D). images_of disk s f Spare c) value image)
        clean f Boot c le opened image = stands.clean f Boot c le opened (subst (λ (s : Site D). images_of disk s f Boot c) value image)
        clean f Log c le opened image = stands.clean f Log c le opened (subst (λ (s : Site D). images_of disk s f Log c) value image)
        clean f (Volume n) c le opened image = stands.clean f (Volume n) c le opened (subst (λ (s : Site D). images_of disk s f (Volume n) c) value image)
        clean f (Chunk n) c le opened image = absurd (omega (arith, opened))

    module _ (opens : Opens disk wanted head_here era old.lanes.items new.lanes.items) (to : ℕ) (done : to ≡ era.number + 2) where
      -- a wanted lane that was opened
      module _ (n : ℕ) (w : IsWanted wanted head_here n) (value_at : Lane D) (there : slice_get new.lanes.items n ≡ Some value_at) (lane : LaneState)
          (of_lane : slice_get at.site.lanes n ≡ Some lane) where
        was_at : (was : Lane D) × (slice_get old.lanes.items n ≡ Some was)
        was_at = there_is old.lanes.items n (within n w)

        tried_at : Tries disk era at.site.head.site (ToOpened disk (era_behind era) at.site.head.site) (pages n) was_at.0 value_at
        tried_at = opens.each n was_at.0 value_at w was_at.1 there

        agrees_at : LaneAgrees disk to at.site.head.site (pages n) at.site.number at.site.active n value_at lane
        agrees_at =
            let same : (era_behind era).number + 1 ≡ to = omega (arith, done) in
            subst (λ (e : ℕ). LaneAgrees disk e at.site.head.site (pages n) at.site.number at.site.active n value_at lane) same
            (one_agrees disk tells (era_behind era) at.site.head.site (pages n) at.site.history at.site.lines at.site.number at.site.active n lane tried_at.mid value_at
            (synced_lane n w was_at.0 value_at was_at.1 (ToOpened disk (era_behind era) at.site.head.site) tried_at lane of_lane) tried_at.works (Opened, tried_at.came))

        not_lost_at : lane ≡ lost → ⊥
        not_lost_at same =
            has_none disk tells (era_behind era) at.site.head.site (pages n) at.site.history at.site.lines at.site.number at.site.active n lane tried_at.mid value_at
            (synced_lane n w was_at.0 value_at was_at.1 (ToOpened disk (era_behind era) at.site.head.site) tried_at lane of_lane) same (tried_at.came.header tells)

        shows_at : (f : ℕ) (c : List ℕ) → to ≤ f → images_of disk new f (Chunk n) c → ShowsHeld (Chunk n) at c
        shows_at f c le image =
            image_shows n w was_at.0 value_at was_at.1 (ToOpened disk (era_behind era) at.site.head.site) tried_at lane of_lane f c (omega (arith, le, done))
            (subst (λ (o : Option (Lane D)). image_or disk (option_map disk_of o) f c) there image)

      value_of : (n : ℕ) → IsWanted wanted head_here n → (it : Lane D) × (slice_get new.lanes.items n ≡ Some it)
      value_of n w = there_is new.lanes.items n (omega (arith, within n w, opens.as_many))

      pub one_stands : (space : ℕ) (w : IsWanted wanted head_here space) → OneLane disk to space at new
      one_stands space w =
          let lane = lane_at space w in
          let it = value_of space w in
          record {
            lane = lane.0;
            lane_is = lane.1;
            value = it.0;
            value_is = it.1;
            agrees = agrees_at space w it.0 it.1 lane.0 lane.1;
            shows = shows_at space w it.0 it.1 lane.0 lane.1;
          }

      pub this_isnt_lost : (space : ℕ) (w : IsWanted wanted head_here space) → if_this_lost space at.site ≡ None
      this_isnt_lost space w =
          let lane = lane_at space w in
          let it = value_of space w in
          ap (if_option_lost space) lane.1
          ∙ none_lost space (lane.0 ∷ []) (λ k l there. only k l there (not_lost_at space w it.0 it.1 lane.0 lane.1))
        where
          only : {first : LaneState} (k : ℕ) (l : LaneState) → slice_get (first ∷ []) k ≡ Some l → (first ≡ lost → ⊥) → l ≡ lost → ⊥
          only {first} zero l there isnt same = let here : first ≡ l = cc in isnt (here ∙ same)
          only (suc k) l there isnt same = absurd cc

      -- all of them are wanted
      module _ (all : (n : ℕ) → n < length at.site.lanes → IsWanted wanted head_here n) where
        wanted_lane : (n : ℕ) (lane : LaneState) → slice_get at.site.lanes n ≡ Some lane → IsWanted wanted head_here n
        wanted_lane n lane of_lane = all n (slice_get_within at.site.lanes n lane of_lane)

        pub none_is_lost : if_any_lost at.site ≡ None
        none_is_lost = none_lost 0 at.site.lanes (λ n lane of_lane.
            let w = wanted_lane n lane of_lane in
            let it = value_of n w in
            not_lost_at n w it.0 it.1 lane of_lane)

        lanes_agree : LanesAgree disk to at.site.head at.site.number at.site.active at.site.lanes new.lanes.items
        lanes_agree = record {
          enough = enough (length at.site.lanes) (λ n lt. slice_get_within new.lanes.items n (value_of n (all n lt)).0 (value_of n (all n lt)).1);
          each = λ n lane it of_lane there. agrees_at n (wanted_lane n lane of_lane) it there lane of_lane;
        }
          where
            enough : (count : ℕ) → ((n : ℕ) → n < count → n < length new.lanes.items) → count ≤ length new.lanes.items
            enough zero each = omega arith
            enough (suc n) each = let last = each n (omega arith) in omega (arith, last)

        pub three_stands : StandsFor (layers disk) 3 to new at
        three_stands = record {
          clean = clean;
          agree = record { store = two.agree.store; boot = λ enough. two.agree.boot (omega arith); log = λ enough. two.agree.log (omega arith); lanes = λ enough. lanes_agree };
          fits = stands.fits;
        }
          where
            two : StandsFor (layers disk) 2 to new at
            two = two_stands to (omega (arith, done))

            chunk : (f n : ℕ) (c : List ℕ) → to ≤ f → images_of disk new f (Chunk n) c → ShowsHeld (Chunk n) at c
            chunk f n c le image = ⊎_elim
                (λ lt.
                let lane = there_is at.site.lanes n lt in
                let it = value_of n (all n lt) in
                shows_at n (all n lt) it.0 it.1 lane.0 lane.1 f c le image)
                (λ ge. subst (ShowsIt n c) (sym (slice_get_past at.site.lanes n ge)) tt)
                (cases_lt n (length at.site.lanes))

            clean : (f : ℕ) (name : DiskName) (c : List ℕ) → to ≤ f → IsOpened 3 name → images_of disk new f name c → ShowsHeld name at c
            clean f Cat c le opened image = two.clean f Cat c le (omega arith) image
            clean f Spare c le opened image = two.clean f Spare c le (omega arith) image
            clean f Boot c le opened image = two.clean f Boot c le (omega arith) image
            clean f Log c le opened image = two.clean f Log c le (omega arith) image
            clean f (Volume n) c le opened image = two.clean f (Volume n) c le (omega arith) image
            clean f (Chunk n) c le opened image = chunk f n c le image

    -- why they are refused

    never_bad : (n : ℕ) → IsFirstBadChunk wanted head_here (contents_in disk old.lanes.items) n → ⊥
    never_bad n is =
        let lane = lane_at n is.is_wanted in
        ⊎_elim
        (λ same. lost_without n is.is_wanted lane.0 lane.1 same (is.headers n is.is_wanted))
        (λ isnt. let here = found n is.is_wanted lane.0 lane.1 isnt in is.bad here.state here.mark)
        (is_lost lane.0)

    pub one_refusal : (space : ℕ) → ((n : ℕ) → IsWanted wanted head_here n → n ≡ space) → (own : LanesFault) → RefusesBy disk wanted head_here own old.lanes.items
        → Some (fault_in (of_lanes head_here.spaces own)) ≡ if_this_lost space at.site
    one_refusal space only (ChunkLost n) refuses =
        let is = refuses tells in
        let lane = lane_at n is.is_wanted in
        subst (λ (k : ℕ). Some (chunk_lost n) ≡ if_this_lost k at.site) (only n is.is_wanted)
        (sym (ap (if_option_lost n) lane.1 ∙ ap (λ (l : LaneState). if_lost n l None) (lost_there n is.is_wanted lane.0 lane.1 is.is_lost)))
    one_refusal space only (BadMark n) refuses = absurd (never_bad n (refuses tells))
    one_refusal space only (Failed n) refuses = absurd refuses

    pub all_refusal : ((n : ℕ) → n < length at.site.lanes → IsWanted wanted head_here n) → (own : LanesFault) → RefusesBy disk wanted head_here own old.lanes.items
        → Some (fault_in (of_lanes head_here.spaces own)) ≡ if_any_lost at.site
    all_refusal all (ChunkLost n) refuses =
        let is = refuses tells in
        let lane = lane_at n is.is_wanted in
        let here : 0 + n ≡ n = omega arith in
        sym (first_lost_at 0 at.site.lanes n (lane.1 ∙ ap (λ (l : LaneState). Some l) (lost_there n is.is_wanted lane.0 lane.1 is.is_lost))
        (λ k l lt of_lane same.
        let w = all k (slice_get_within at.site.lanes k l of_lane) in
        lost_without k w l of_lane same (is.before k w lt))
        ∙ ap (λ (k : ℕ). Some (chunk_lost k)) here)
    all_refusal all (BadMark n) refuses = absurd (never_bad n (refuses tells))
    all_refusal all (Failed n) refuses = absurd refuses

    failure : (own : LanesFault) → FailsOne disk wanted head_here own old.lanes.items new.lanes.items → IsFailure (of_lanes head_here.spaces own)
    failure own fails = subst (λ (f : LanesFault). IsFailure (of_lanes head_here.spaces f)) (sym fails.fault_is) tt

    refusal_by : (refused : Coming disk) (to : ℕ) (told : Option Fault) → ((own : LanesFault) → RefusesBy disk wanted head_here own old.lanes.items → Some (fault_in (of_lanes head_here.spaces own)) ≡ told)
        → (fault : SiteFault) → StopsSite disk wanted head_here era refused to fault old new → IsFailure fault ⊎ (Some (fault_in fault) ≡ told)
    refusal_by refused to told means fault site =
        subst (λ (f : SiteFault). IsFailure f ⊎ (Some (fault_in f) ≡ told)) (sym site.fault_is)
        (elim site.stops [
          | inl syncing ↦ inl (failure site.own syncing.1)
          | inr (lt, inl failed) ↦ inl (failure site.own failed.1)
          | inr (lt, inr refuses) ↦ inr (means site.own refuses.1)
        ])

    -- by the answer

    abbrev AtEnd : {A : Type 0} → Coming disk → ℕ → Result A SiteFault → Type 0
    AtEnd refused to result =
        MatchResult result (λ a. Opens disk wanted head_here era old.lanes.items new.lanes.items) (λ fault. StopsSite disk wanted head_here era refused to fault old new)

    pub all_by : {A : Type 0} (refused : Coming disk) (to : ℕ) (result : Result A SiteFault) → ((n : ℕ) → n < length at.site.lanes → IsWanted wanted head_here n) → OnOk result (to ≡ era.number + 2)
        → AtEnd refused to result
        → MatchResult result (λ a. StandsFor (layers disk) 3 to new at × (if_any_lost at.site ≡ None)) (λ fault. IsFailure fault ⊎ (Some (fault_in fault) ≡ if_any_lost at.site))
    all_by refused to (Ok a) all done opens = (three_stands opens to done all, none_is_lost opens to done all)
    all_by refused to (Err fault) all done stops = refusal_by refused to (if_any_lost at.site) (all_refusal all) fault stops

    pub one_by : {A : Type 0} (refused : Coming disk) (to : ℕ) (result : Result A SiteFault) (space : ℕ) → IsWanted wanted head_here space → ((n : ℕ) → IsWanted wanted head_here n → n ≡ space)
        → OnOk result (to ≡ era.number + 2) → AtEnd refused to result
        → MatchResult result (λ a. StandsFor (layers disk) 2 to new at × OneLane disk to space at new × (if_this_lost space at.site ≡ None))
        (λ fault. IsFailure fault ⊎ (Some (fault_in fault) ≡ if_this_lost space at.site))
    one_by refused to (Ok a) space w only done opens =
        (two_stands to (omega (arith, done)), one_stands opens to done space w, this_isnt_lost opens to done space w)
    one_by refused to (Err fault) space w only done stops = refusal_by refused to (if_this_lost space at.site) (one_refusal space only) fault stops
