-- What contracts see of a lane.
use Rattle.std.specs.Prelude.{◌≡◌, ℕ, ◌≤◌, List, length}
use Rattle.site_disk.specs.Images.{Seen, IsSynced}
use Rattle.gated_slots.specs.Header.{StandsClosed}
use Rattle.twin_mark.specs.Marks.{Knows}
use Rattle.before_images.specs.Saved.{place_of}
use Rattle.backup_lines.specs.declared.lanes.LaneState.{LaneState}
use Rattle.lane_ways.specs.Pictures.{images_at, mark_at, pages_at}
use Rattle.lane_mark.specs.Layout.{FitsState}
use Rattle.space_lane.specs.Chunks.{HoldsState, IsSettled, KeepsNone}
use Rattle.space_lane.specs.declared.lane.Lane.{Lane}

module _ {D : Type 0} where
  -- its disk, and its space
  abbrev pub disk_of : Lane D → D
  disk_of lane = lane.disk

  abbrev pub space_of : Lane D → ℕ
  space_of lane = lane.space

  -- how many pages it has, and its state
  abbrev pub count_of : Lane D → ℕ
  count_of lane = lane.pages

  abbrev pub state_of : Lane D → LaneState
  state_of lane = lane.state

  -- nothing of it but the disk is another
  abbrev pub with_disk : Lane D → D → Lane D
  with_disk lane disk = record lane { disk = disk }

  -- its mark and its before-images are at the places that the layout gives
  pub record IsMade (lane : Lane D) : Type 0 where
    pub mark : lane.mark.base ≡ mark_at
    pub images : lane.images.base ≡ images_at

  -- it tells of so many pages and of a state
  pub record TellsOf (count : ℕ) (state : LaneState) (lane : Lane D) : Type 0 where
    pub fits : FitsState state
    pub pages_are : lane.pages ≡ count
    pub state_is : lane.state ≡ state

  -- it was opened: it tells of a state that a mark may have
  pub record IsOpen (lane : Lane D) : Type 0 where
    pub made : IsMade lane
    pub fits : FitsState lane.state

  -- It agrees with what a read gives, but for the pages: that holds the state that it tells of, and it knows which of the mark's slots is
  -- current.
  pub record Agrees (site count : ℕ) (state : LaneState) (bytes : List ℕ) (lane : Lane D) : Type 0 where
    pub made : IsMade lane
    pub tells : TellsOf count state lane
    pub knows : Knows lane.mark bytes
    pub holds : HoldsState site lane.space count state bytes

  -- It agrees with its disk: a crash in a later era leaves what a read gives, and nothing is to be put back.
  pub record Stands (site count : ℕ) (state : LaneState) (disk : Seen) (lane : Lane D) : Type 0 where
    pub agrees : Agrees site count state disk.bytes lane
    pub synced : IsSynced disk
    pub settled : IsSettled state count disk.bytes

-- The chunk was emptied behind a closed header: in every image there is no header, and nothing is kept.
pub record IsEmptied (count : ℕ) (disk : Seen) : Type 0 where
  pub closed : StandsClosed disk
  pub none : KeepsNone disk.bytes
  pub long : place_of pages_at count ≤ length disk.bytes
