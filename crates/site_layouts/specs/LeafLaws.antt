-- How a call of one disk comes to be a move of a site.
use Rattle.std.specs.Prelude.{◌≡◌, ◌⊎◌, ℕ, ◌≤◌, List, [], ◌∷◌, true, false, Some, None}
use mathlib.Core.Logic.{inl, inr}
use Rattle.std.proofs.Common.{refl}
use Rattle.site_disk.specs.Images.{Leaves}
use Rattle.walks.specs.Courses.{Call, Course, IsOnWay, make}
use Rattle.site_model.specs.declared.disk_name.DiskName.{DiskName}
use Rattle.site_worlds.specs.Worlds.{Site}
use Rattle.site_worlds.specs.Moves.{Move, mover, site_after, site_rules, stops_at_begin}
use Rattle.site_worlds.specs.Allowed.{CanMove}
use Rattle.site_courses.specs.Faults.{Fault, cuts}
use Rattle.site_layouts.specs.Disks.{IsOpened, moves_disk}
use Rattle.site_layouts.specs.Layouts.{ShowsSite}
use Rattle.site_layouts.specs.ApartLaws.{Awaits}
use Rattle.site_layouts.specs.Stages.{Agree, HeldSite, Layers, ShowsHeld, StandsFor, behind, site_stage}
use Rattle.site_layouts.specs.WayLaws.{Way, way_done, way_fails}

module _ {S : Type 0} (layers : Layers S) where
  -- A call of one disk makes steps, each from what shows a site to what shows it still or shows it behind a move; the other disks keep their
  -- images.
  pub record Leaf (move : Move) (who : DiskName) (opened from : ℕ) (old new : S) (at : HeldSite) (step : List ℕ → List ℕ → Type 0) : Type 0 where
    pub can : CanMove move at.site
    pub stands : StandsFor layers opened from old at
    pub is_opened : IsOpened opened who
    pub is_who : (name : DiskName) → moves_disk move name ≡ true → name ≡ who
    pub others : (f : ℕ) (name : DiskName) (bytes : List ℕ) → moves_disk move name ≡ false → layers.images new f name bytes → layers.images old f name bytes
    pub leaves : Leaves from step (λ f. layers.images old f who) (λ f. layers.images new f who)
    pub steps : (before bytes : List ℕ) → ShowsHeld who at before → step before bytes → ShowsHeld who at bytes ⊎ ShowsHeld who (behind move at) bytes
    pub awaits : (f : ℕ) (name : DiskName) (bytes : List ℕ) → from ≤ f → moves_disk move name ≡ false → layers.images old f name bytes → Awaits move name bytes

  -- the way of one move
  one_way : (move : Move) (who : DiskName) (opened from : ℕ) (old new : S) (at : HeldSite) (step : List ℕ → List ℕ → Type 0)
      → Leaf move who opened from old new at step → Way layers (move ∷ []) (mover move) who opened from old new at step
  unfolding site_rules
  one_way move who opened from old new at step leaf = record {
    can = (leaf.can, tt);
    are = (refl, tt);
    stands = leaf.stands;
    is_opened = leaf.is_opened;
    is_who = leaf.is_who;
    others = leaf.others;
    leaves = leaf.leaves;
    steps = λ before bytes shows is. reached bytes (leaf.steps before bytes shows is);
    awaits = λ f name bytes le rests image. (leaf.awaits f name bytes le rests image, tt);
  }
    where
      reached : (bytes : List ℕ) → ShowsHeld who at bytes ⊎ ShowsHeld who (behind move at) bytes
          → (other : Site) × IsOnWay site_rules (move ∷ []) at.site other × ShowsSite who other at.held bytes
      reached bytes (inl still) = (at.site, inl (stops_at_begin move at.site), still)
      reached bytes (inr moved) = (site_after move at.site, inr refl, moved)

  -- The clause of such a call: its course is the move alone.
  module _ (needs from to : ℕ) (old new : S) (move : Move) (who : DiskName) (step : List ℕ → List ℕ → Type 0) (le : from ≤ to)
      (leaf : (opened : ℕ) (at : HeldSite) → needs ≤ opened → StandsFor layers opened from old at → Leaf move who opened from old new at step) where
    abbrev alone : Site → Course Move Fault
    alone site = make (move ∷ [])

    pub leaf_fails : (fault : Fault) → cuts fault ≡ true → Call (site_stage layers) needs from to old new alone (Some fault)
    leaf_fails = way_fails layers needs from to old new (λ site. move ∷ []) (mover move) who (λ at. step) le
        (λ opened at enough stands. one_way move who opened from old new at step (leaf opened at enough stands))

    -- how it ended: each later image of the disk shows the site behind the move, and the values agree with that
    pub record HasMoved (opened : ℕ) (at : HeldSite) : Type 0 where
      pub shows : (f : ℕ) (bytes : List ℕ) → to ≤ f → layers.images new f who bytes → ShowsHeld who (behind move at) bytes
      pub agree : Agree layers opened to new (behind move at)

    pub leaf_done : ((opened : ℕ) (at : HeldSite) → needs ≤ opened → StandsFor layers opened from old at → HasMoved opened at)
        → Call (site_stage layers) needs from to old new alone None
    unfolding site_rules
    leaf_done moved = way_done layers needs from to old new (λ site. move ∷ []) (mover move) who (λ at. step) le
        (λ opened at enough stands. one_way move who opened from old new at step (leaf opened at enough stands))
        (λ opened at enough stands. let has = moved opened at enough stands in record { shows = has.shows; agree = has.agree })
