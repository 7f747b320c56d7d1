-- The lanes of a site as a part of it.
use Rattle.std.proofs.Common.{◌≡◌, ℕ, List, Option, sym, subst}
use Rattle.std.specs.Option.{option_map}
use Rattle.site_disk.specs.Ledger.{EraView}
use Rattle.site_disk.specs.declared.disk.Disk.{Ghosts}
use Rattle.site_headers.specs.Heads.{Head}
use Rattle.space_lane.specs.Lanes.{disk_of}
use Rattle.space_lane.specs.declared.lane.Lane.{Lane}
use Rattle.site_lanes.specs.Lanes.{MayUseEach}
use Rattle.site_lanes.specs.declared.refusals.LanesFault.{LanesFault}
use Rattle.site_model.specs.declared.disk_name.DiskName.TheVariants.{Chunk}
use Rattle.site_core.specs.Disks.{MayUseAll, may_or}
use Rattle.site_core.specs.Faults.{of_lanes}
use Rattle.site_core.specs.declared.faults.SiteFault.{SiteFault}
use Rattle.site_core.specs.declared.site.Site.{Site}
use Rattle.site_lane_opening.specs.Steps.{Coming, Opens, Stops, StopsSite}

module _ {D : Type 0} (disk : Ghosts D) (era : EraView) (old : Site D) where
  -- the disk of each lane may be used where all may
  pub lanes_may : (lanes : List (Lane D)) → lanes ≡ old.lanes.items → MayUseAll disk era old → MayUseEach disk era lanes
  lanes_may lanes same may =
      subst (λ (l : List (Lane D)). MayUseEach disk era l) (sym same)
      (λ n lane there. subst (λ (o : Option (Lane D)). may_or disk era (option_map disk_of o)) there (may (Chunk n)))

  -- what was done to the lanes as they were borrowed
  module _ (wanted : Option ℕ) (head : Head) (lanes moved items : List (Lane D)) (same : lanes ≡ old.lanes.items) (whole : items ≡ moved) where
    borrowed : (P : List (Lane D) → List (Lane D) → Type 0) → P lanes moved → P old.lanes.items items
    borrowed P is = subst (λ (l : List (Lane D)). P l items) same (subst (λ (l : List (Lane D)). P lanes l) (sym whole) is)

    pub opens_borrowed : Opens disk wanted head era lanes moved → Opens disk wanted head era old.lanes.items items
    opens_borrowed = borrowed (Opens disk wanted head era)

    pub stops_borrowed : (refused : Coming disk) (to : ℕ) (own : LanesFault) (fault : SiteFault) → fault ≡ of_lanes head.spaces own → Stops disk wanted head era refused to own lanes moved → (new : Site D) → new.lanes.items ≡ items
        → StopsSite disk wanted head era refused to fault old new
    stops_borrowed refused to own fault is stops new there = record {
      own = own;
      fault_is = is;
      stops = subst (λ (l : List (Lane D)). Stops disk wanted head era refused to own old.lanes.items l) (sym there) (borrowed (Stops disk wanted head era refused to own) stops);
    }
