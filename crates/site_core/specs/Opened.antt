-- What calls over an open site ask for: its log is open, and so are the lanes of its spaces.
use Rattle.std.specs.Prelude.{◌≡◌, ℕ, ◌<◌, ◌≤◌, length, slice_get, Some}
use Rattle.logical_log.specs.Rings.{IsOpen}
use Rattle.space_lane.specs.Lanes.{space_of, IsOpen as IsOpenLane}
use Rattle.site_core.specs.declared.site.Site.{Site}

module _ {D : Type 0} where
  -- so many lanes, at most 16, each of the space of its place
  pub record IsOpenSite (count : ℕ) (site : Site D) : Type 0 where
    pub log : IsOpen site.log
    pub few : count ≤ 16
    pub enough : count ≤ length site.lanes.items
    pub lanes : (k : ℕ) → k < count → (lane : _) → slice_get site.lanes.items k ≡ Some lane → IsOpenLane lane × (space_of lane ≡ k)
