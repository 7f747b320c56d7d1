-- How lanes that go to the end come to be a call of a site.
use Rattle.std.proofs.Common.{◌≡◌, ℕ, ◌+◌, ◌<◌, ◌≤◌, List, [], ◌∷◌, length, true, false, Option, None, Some, refl, sym, ap, subst, arith, ⊎_elim, inl, inr}
use Rattle.std.specs.Prelude.{slice_get, IsTrue}
use Rattle.std.specs.Option.{option_map}
use Rattle.std.proofs.lemmas.Bool.{cases_lt, false≢true}
use Rattle.site_disk.specs.Ledger.{EraView}
use Rattle.site_disk.specs.declared.disk.Disk.{Ghosts}
use Rattle.log_history.specs.Effects.{Change}
use Rattle.walks.specs.Courses.{Does, make}
use Rattle.walks.specs.Follows.{Goes}
use Rattle.walks.specs.MovingLaws.{joined}
use Rattle.space_lane.specs.Lanes.{disk_of}
use Rattle.space_lane.specs.declared.lane.Lane.{Lane}
use Rattle.site_lanes.specs.Advancing.{IsAdvanced, MayHaveAdvanced}
use Rattle.site_lanes.specs.Lanes.{OfFirst, SameFrom, FailsAt}
use Rattle.site_lanes.specs.declared.refusals.LanesFault.{LanesFault}
use Rattle.site_lanes.specs.declared.refusals.LanesFault.TheVariants.{ChunkLost as LostChunk, BadMark, Failed as FailedLane}
use Rattle.site_model.specs.declared.disk_name.DiskName.{DiskName}
use Rattle.site_model.specs.declared.disk_name.DiskName.TheVariants.{Cat, Spare, Boot, Log, Volume, Chunk}
use Rattle.site_worlds.specs.Moves.{move_lanes, site_rules}
use Rattle.site_courses.specs.Faults.{Fault, cuts}
use Rattle.site_layouts.specs.Disks.{moves_disk}
use Rattle.site_layouts.specs.Stages.{Agree, HeldSite, ShowsHeld, StandsFor, behind, site_stage}
use Rattle.site_layouts.specs.StageLaws.{Passed}
use Rattle.site_layouts.specs.LanesLaws.{Lanes, MayBe, lanes_count, lanes_end, lanes_phase, lanes_stand, sites_at}
use Rattle.site_lane_laws.specs.Agreements.{LanesAgree}
use Rattle.site_lane_laws.specs.AdvancingLaws.{all_earlier}
use Rattle.site_lane_laws.specs.OpeningLaws.{there_is}
use Rattle.site_lane_laws.specs.PhaseLaws.{HasLanes, goals_of, lanes_agree_there, lanes_go, lanes_shown, on_their_way}
use Rattle.site_core.specs.declared.site.Site.{Site}
use Rattle.site_core.specs.Calls.{CallFrom}
use Rattle.site_core.specs.Disks.{image_or, images_of}
use Rattle.site_core.specs.Faults.{fault_in, of_lanes}
use Rattle.site_core.specs.Going.{GoTo, FailsOnLane, reading_layers}
use Rattle.site_core.specs.Layers.{layers}
use Rattle.site_core.specs.LayerLaws.{store_later, boot_later, log_later}

module _ {D : Type 0} (disk : Ghosts D) (tells : IsTrue disk.is_modelled) (reads : (d : D) (f : ℕ) → (disk.ledger d).last ≤ f → disk.image d f (disk.bytes d))
    (era : EraView) (spaces to : ℕ) (changes : List Change) (old new : Site D) where
  image_there : (o : Option D) (d : D) (f : ℕ) (bytes : List ℕ) → o ≡ Some d → image_or disk o f bytes → disk.image d f bytes
  image_there o d f bytes is image = subst (λ (p : Option D). image_or disk p f bytes) is image

  image_back : (o : Option D) (d : D) (f : ℕ) (bytes : List ℕ) → o ≡ Some d → disk.image d f bytes → image_or disk o f bytes
  image_back o d f bytes is image = subst (λ (p : Option D). image_or disk p f bytes) (sym is) image

  has_lanes : HasLanes (reading_layers disk) disk tells era changes (λ site. site.lanes.items)
  has_lanes = record {
    images = λ s f n value bytes there image. image_there (option_map disk_of (slice_get s.lanes.items n)) (disk_of value) f bytes (ap (option_map disk_of) there) image;
    from_images = λ s f n value bytes there image. image_back (option_map disk_of (slice_get s.lanes.items n)) (disk_of value) f bytes (ap (option_map disk_of) there) image;
    agree = λ from s head history lines number active lanes agrees. agrees;
    reads = reads;
  }

  module _ (others : new ≡ record old { lanes = new.lanes }) (as_many : length new.lanes.items ≡ length old.lanes.items)
      (beyond : SameFrom spaces old.lanes.items new.lanes.items)
      (works : OfFirst spaces (λ n was is. MayHaveAdvanced disk era to changes was is) old.lanes.items new.lanes.items)
      (opened : ℕ) (at : HeldSite) (enough : 3 ≤ opened) (stands_for : StandsFor (reading_layers disk) opened era.number old at) (goes : GoTo spaces to changes at.site) where
    -- a disk that is no chunk is the same one
    same_disk : (f : ℕ) (name : DiskName) (bytes : List ℕ) → (moves_disk (move_lanes []) name) ≡ false → images_of disk new f name bytes → images_of disk old f name bytes
    same_disk f Cat bytes isnt image = subst (λ (s : Site D). images_of disk s f Cat bytes) others image
    same_disk f Spare bytes isnt image = subst (λ (s : Site D). images_of disk s f Spare bytes) others image
    same_disk f Boot bytes isnt image = subst (λ (s : Site D). images_of disk s f Boot bytes) others image
    same_disk f Log bytes isnt image = subst (λ (s : Site D). images_of disk s f Log bytes) others image
    same_disk f (Volume n) bytes isnt image = subst (λ (s : Site D). images_of disk s f (Volume n) bytes) others image
    same_disk f (Chunk n) bytes isnt image = absurd (false≢true (sym isnt))

    works_here : OfFirst (length at.site.lanes) (λ n was is. MayHaveAdvanced disk era (length at.site.history) changes was is) old.lanes.items new.lanes.items
    works_here =
        subst (λ (k : ℕ). OfFirst k (λ n was is. MayHaveAdvanced disk era (length at.site.history) changes was is) old.lanes.items new.lanes.items) (sym goes.count)
        (subst (λ (e : ℕ). OfFirst spaces (λ n was is. MayHaveAdvanced disk era e changes was is) old.lanes.items new.lanes.items) (sym goes.end) works)

    agrees : LanesAgree disk era.number at.site.head at.site.number at.site.active at.site.lanes old.lanes.items
    agrees = stands_for.agree.lanes enough

    earlier : (f n : ℕ) (bytes : List ℕ) → f < era.number → images_of disk new f (Chunk n) bytes → images_of disk old f (Chunk n) bytes
    earlier f n bytes lt image = ⊎_elim
        (λ within.
        let was = there_is old.lanes.items n (omega (arith, within, agrees.enough)) in
        let is = there_is new.lanes.items n (omega (arith, within, agrees.enough, as_many)) in
        has_lanes.from_images old f n was.0 bytes was.1
        (all_earlier disk tells era at.site changes old.lanes.items new.lanes.items
        (on_their_way (reading_layers disk) disk tells era changes (λ site. site.lanes.items) has_lanes opened at old new enough stands_for goes.can as_many)
        as_many works_here n was.0 is.0 within was.1 is.1 f bytes lt (has_lanes.images new f n is.0 bytes is.1 image)))
        (λ past. subst (λ (o : Option (Lane D)). image_or disk (option_map disk_of o) f bytes) (beyond n (omega (arith, past, goes.count))) image)
        (cases_lt n (length at.site.lanes))

    lanes_there : Lanes (reading_layers disk) (goals_of at.site) opened era.number old new at
    lanes_there = lanes_go (reading_layers disk) disk tells era changes (λ site. site.lanes.items) has_lanes opened at old new enough stands_for goes.can as_many works_here
        (λ f name bytes isnt image. same_disk f name bytes isnt image) earlier

    abbrev PassedThen : HeldSite → Type 0
    PassedThen = Passed (layers disk) (move_lanes (goals_of at.site)) at

    along : Goes ShowsHeld era.number (images_of disk old) (images_of disk new) at PassedThen
    unfolding site_stage
    along = joined ShowsHeld (sites_at at) (MayBe at.site (goals_of at.site)) era.number (images_of disk old) (images_of disk new) at PassedThen
        (lanes_phase (reading_layers disk) (goals_of at.site) opened era.number old new at lanes_there)
        (λ places may. lanes_count (reading_layers disk) (goals_of at.site) at places may)

    -- wherever it is cut short
    pub goes_cut : (course_to : ℕ) → era.number ≤ course_to → (fault : Fault) → cuts fault ≡ true
        → Does (site_stage (layers disk)) opened era.number course_to old new at (make (move_lanes (goals_of at.site) ∷ [])) (Some fault)
    unfolding site_stage
    goes_cut course_to le fault cut = record { no_earlier = le; goes = along; ended = inl cut }

    module _ (done : OfFirst spaces (λ n was is. IsAdvanced disk era to changes was is) old.lanes.items new.lanes.items) where
      done_here : OfFirst (length at.site.lanes) (λ n was is. IsAdvanced disk era (length at.site.history) changes was is) old.lanes.items new.lanes.items
      done_here =
          subst (λ (k : ℕ). OfFirst k (λ n was is. IsAdvanced disk era (length at.site.history) changes was is) old.lanes.items new.lanes.items) (sym goes.count)
          (subst (λ (e : ℕ). OfFirst spaces (λ n was is. IsAdvanced disk era e changes was is) old.lanes.items new.lanes.items) (sym goes.end) done)

      abbrev next : HeldSite
      next = behind (move_lanes (goals_of at.site)) at

      abbrev Shown : Type 0
      Shown = (f n : ℕ) (bytes : List ℕ) → era.number + 1 ≤ f → n < length (goals_of at.site) → images_of disk new f (Chunk n) bytes → ShowsHeld (Chunk n) next bytes

      shown : Shown
      shown = lanes_shown (reading_layers disk) disk tells era changes (λ site. site.lanes.items) has_lanes opened at old new enough stands_for goes.can as_many done_here

      agree_next : Agree (layers disk) opened (era.number + 1) new next
      agree_next = record {
        store = subst (λ (s : Site D). (layers disk).store_agrees (era.number + 1) s at.site.head at.site.store at.held) (sym others)
            (store_later disk era.number (era.number + 1) (omega arith) old at.site.head at.site.store at.held stands_for.agree.store);
        boot = λ le. subst (λ (s : Site D). (layers disk).boot_agrees (era.number + 1) s at.site.head at.site.lines at.site.number at.site.active) (sym others)
            (boot_later disk era.number (era.number + 1) (omega arith) old at.site.head at.site.lines at.site.number at.site.active (stands_for.agree.boot le));
        log = λ le. subst (λ (s : Site D). (layers disk).log_agrees (era.number + 1) s at.site.head at.site.starts at.site.history at.site.ring) (sym others) (stands_for.agree.log le);
        lanes = λ le. lanes_agree_there (reading_layers disk) disk tells era changes (λ site. site.lanes.items) has_lanes opened at old new enough stands_for goes.can as_many done_here;
      }

      stands_next : StandsFor (layers disk) opened (era.number + 1) new next
      stands_next =
          let reading : Agree (reading_layers disk) opened (era.number + 1) new next = record {
            store = agree_next.store;
            boot = agree_next.boot;
            log = λ le. log_later disk (era.number + 1) (era.number + 1 + 1) (omega arith) new at.site.head at.site.starts at.site.history at.site.ring (agree_next.log le);
            lanes = agree_next.lanes;
          } in
          let is = lanes_stand (reading_layers disk) (goals_of at.site) opened era.number old new at lanes_there (era.number + 1) (omega arith) shown reading in
          record { clean = is.clean; agree = agree_next; fits = is.fits }

      ends_next : Does (site_stage (layers disk)) opened era.number (era.number + 1) old new at (make (move_lanes (goals_of at.site) ∷ [])) None
      unfolding site_stage site_rules
      ends_next = record {
        no_earlier = omega arith;
        goes = along;
        ended = inr (record {
          fault_is = refl;
          next = next;
          next_is = refl;
          ends = lanes_end (reading_layers disk) (goals_of at.site) opened era.number old new at lanes_there (era.number + 1) shown;
          stands = stands_next;
        });
      }

      -- or at its end
      pub goes_done : (course_to : ℕ) → course_to ≡ era.number + 1
          → Does (site_stage (layers disk)) opened era.number course_to old new at (make (move_lanes (goals_of at.site) ∷ [])) None
      goes_done course_to same =
          subst (λ (n : ℕ). Does (site_stage (layers disk)) opened era.number n old new at (make (move_lanes (goals_of at.site) ∷ [])) None) (sym same) ends_next

-- What holds where the log may have been read in the era holds where it wasn't.
pub goes_from : {D : Type 0} (disk : Ghosts D) (from now : ℕ) (old new : Site D) (spaces to : ℕ) (changes : List Change) (fault : Option Fault)
    → ((opened : ℕ) (at : HeldSite) → 3 ≤ opened → StandsFor (reading_layers disk) opened from old at → GoTo spaces to changes at.site
    → Does (site_stage (layers disk)) opened from now old new at (make (move_lanes (goals_of at.site) ∷ [])) fault)
    → CallFrom (site_stage (layers disk)) (GoTo spaces to changes) 3 from now old new (λ site. make (move_lanes (goals_of site) ∷ [])) fault
unfolding site_stage
goes_from disk from now old new spaces to changes fault goes opened at enough stands can = goes opened at enough (record {
  clean = stands.clean;
  agree = record {
    store = stands.agree.store;
    boot = stands.agree.boot;
    log = λ two. log_later disk from (from + 1) (omega arith) old at.site.head at.site.starts at.site.history at.site.ring (stands.agree.log two);
    lanes = stands.agree.lanes;
  };
  fits = stands.fits;
}) can

-- a fault of these lanes cuts the call short, and the disk of one of them failed

pub lane_cuts : {D : Type 0} (disk : Ghosts D) (count : ℕ) (old new : List (Lane D)) (fault : LanesFault) → FailsAt disk count old new fault → cuts (fault_in (of_lanes [] fault)) ≡ true
lane_cuts disk count old new (LostChunk n) fails = absurd fails
lane_cuts disk count old new (BadMark n) fails = absurd fails
lane_cuts disk count old new (FailedLane n) fails = refl

pub lane_fails : {D : Type 0} (disk : Ghosts D) (count : ℕ) (old new : List (Lane D)) (fault : LanesFault) → FailsAt disk count old new fault
    → FailsOnLane disk count old new (of_lanes [] fault)
lane_fails disk count old new (LostChunk n) fails = absurd fails
lane_fails disk count old new (BadMark n) fails = absurd fails
lane_fails disk count old new (FailedLane n) fails = (fails.0, fails.1)
