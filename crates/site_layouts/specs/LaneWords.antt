-- What a lane's value says of a site: the words of `space_lane` beside those of a chunk.
use Rattle.std.specs.Prelude.{◌≡◌, ℕ, ◌<◌, ◌≤◌, List, length, Option}
use Rattle.log_history.specs.Effects.{Page}
use Rattle.site_disk.specs.declared.disk.Disk.{Ghosts}
use Rattle.site_disk.specs.Seen.{seen}
use Rattle.before_images.specs.Saved.{place_of}
use Rattle.site_headers.specs.Headers.{HasHeader}
use Rattle.backup_lines.specs.declared.lanes.LaneState.{LaneState as State}
use Rattle.backup_lines.specs.Spans.{Active}
use Rattle.lane_ways.specs.Pictures.{Stand, pages_at}
use Rattle.space_lane.specs.declared.lane.Lane.{Lane}
use Rattle.space_lane.specs.Chunks.{HasMark, chunk_tail, settled}
use Rattle.space_lane.specs.Lanes.{IsMade, Stands, disk_of, space_of}
use Rattle.site_worlds.specs.Worlds.{LaneState, stale, lost}
use Rattle.site_layouts.specs.Chunks.{NamesPast, lane_of}

-- the states that a value may tell of for a lane: the lane's own, and for a stale one any that names no restore but a past one
abbrev pub IsStateOf : ℕ → Option Active → LaneState → State → Type 0
IsStateOf number active stale state = NamesPast number active (lane_of state)
IsStateOf number active lost state = ⊥
IsStateOf number active lane state = lane_of state ≡ lane

-- a chunk that can be opened: its header and a mark are there, its pages are there, and what its mark has is of the lane
pub record IsThere (site space count number : ℕ) (active : Option Active) (lane : LaneState) (bytes : List ℕ) : Type 0 where
  pub header : HasHeader (chunk_tail site space count) bytes
  pub long : place_of pages_at count ≤ length bytes
  pub state : State
  pub mark : HasMark state bytes
  pub is : (state : State) → HasMark state bytes → IsStateOf number active lane state

-- settled for the state that the mark has, it has these pages
abbrev pub HaveSettled : (space count : ℕ) → List Page → List ℕ → Type 0
HaveSettled space count pages bytes = (state : State) → HasMark state bytes → Stand space 0 pages (settled state count bytes)

module _ {D : Type 0} (disk : Ghosts D) where
  -- the value stands on its disk in a state of the lane
  pub record StandsIn (site count number : ℕ) (active : Option Active) (lane : LaneState) (value : Lane D) : Type 0 where
    pub state : State
    pub is : IsStateOf number active lane state
    pub stands : Stands site count state (seen disk (disk_of value)) value

  abbrev pub AgreesWith : (site count number : ℕ) → Option Active → LaneState → Lane D → Type 0
  AgreesWith site count number active lost value = IsMade value
  AgreesWith site count number active lane value = StandsIn site count number active lane value

  -- A value agrees with a lane from an era on: it is of the lane's space, its disk was last used in an earlier era, and it stands on it in a
  -- state of the lane, or, if that is lost, is at the places of the layout.
  pub record LaneAgrees (from site count number : ℕ) (active : Option Active) (space : ℕ) (value : Lane D) (lane : LaneState) : Type 0 where
    pub space_is : space_of value ≡ space
    pub earlier : (disk.ledger (disk_of value)).last < from
    pub agrees : AgreesWith site count number active lane value
