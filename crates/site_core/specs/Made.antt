-- A site's values as they are made over its disks, open or not.
use Rattle.std.specs.Prelude.{◌≡◌, ℕ, List, length, slice_get, Some}
use Rattle.store_opening.specs.Disks.{IsMadeStore}
use Rattle.boot_file.specs.Boots.{IsMade as IsMadeBoot}
use Rattle.logical_log.specs.Rings.{IsMade as IsMadeLog}
use Rattle.space_lane.specs.Lanes.{space_of, IsMade as IsMadeLane}
use Rattle.space_lane.specs.declared.lane.Lane.{Lane}
use Rattle.site_core.specs.declared.site.Site.{Site}

module _ {D : Type 0} where
  -- a lane is of the space of its place
  pub record IsMadeAt (place : ℕ) (lane : Lane D) : Type 0 where
    pub made : IsMadeLane lane
    pub space : space_of lane ≡ place

  -- each of these lanes
  abbrev pub AreMade : List (Lane D) → Type 0
  AreMade lanes = (place : ℕ) (lane : Lane D) → slice_get lanes place ≡ Some lane → IsMadeAt place lane

  pub record IsMadeSite (site : Site D) : Type 0 where
    pub store : IsMadeStore site.store
    pub boot : IsMadeBoot site.boot
    pub log : IsMadeLog site.log
    pub count : length site.lanes.items ≡ 16
    pub lanes : AreMade site.lanes.items
