-- What a chunk shows of its lane: its header, its mark, and its pages.
use Rattle.std.specs.Prelude.{◌≡◌, ℕ, ◌<◌, ◌≤◌, List, [], ◌∷◌, take, drop, fold, false, if◌then◌else◌, slice_get, Option, Some, None, length}
use Rattle.log_history.specs.History.{History}
use Rattle.log_history.specs.Effects.{Page, empty_page, page_at}
use Rattle.site_disk.specs.Bytes.{extent}
use Rattle.site_headers.specs.Heads.{Head}
use Rattle.site_headers.specs.Headers.{HasHeader}
use Rattle.before_images.specs.Saved.{place_of, restored}
use Rattle.space_pages.specs.Layout.{page_bytes}
use Rattle.space_pages.specs.Pages.{empty_pages}
use Rattle.backup_lines.specs.declared.lanes.LaneState.{LaneState as State}
use Rattle.backup_lines.specs.declared.lanes.LaneState.TheVariants.{At, Blank, Image, Replay}
use Rattle.backup_lines.specs.Lines.{Archive, Line}
use Rattle.backup_lines.specs.Spans.{Active}
use Rattle.backup_lines.specs.Views.{copies_of}
use Rattle.lane_ways.specs.Ways.{lane_pages}
use Rattle.lane_ways.specs.Pictures.{Stand, images_at, pages_at}
use Rattle.space_lane.specs.Chunks.{HoldsState, chunk_tail}
use Rattle.site_worlds.specs.Worlds.{LaneState, stands, blank, merges, replays, stale, lost}
use Rattle.site_worlds.specs.Objects.{pages_in}
use Rattle.site_worlds.specs.Lanes.{IsArchived, pages_of_space}
use Rattle.site_worlds.specs.Moves.{is_among}
use Rattle.restore_laws.specs.Merged.{merged}

-- a lane by the program's word for how far it is
abbrev pub lane_of : State → LaneState
lane_of (At upto part) = stands upto part
lane_of (Blank restore) = blank restore
lane_of (Image restore chain image entries) = merges restore (copies_of chain) image entries
lane_of (Replay restore chain upto part) = replays restore (copies_of chain) upto part

-- a chunk under a header and the mark of a lane, as long as its pages take
pub record HoldsMark (site space count : ℕ) (lane : LaneState) (bytes : List ℕ) : Type 0 where
  pub state : State
  pub is : lane_of state ≡ lane
  pub holds : HoldsState site space count state bytes

-- at a place

-- once what is kept for the place is put back, these pages stand
pub record HoldsPages (site space count : ℕ) (lane : LaneState) (upto part : ℕ) (pages : List Page) (bytes : List ℕ) : Type 0 where
  pub holds : HoldsMark site space count lane bytes
  pub stand : Stand space 0 pages (restored images_at pages_at count upto part bytes)

-- emptied

pub record HoldsNone (site space count : ℕ) (lane : LaneState) (bytes : List ℕ) : Type 0 where
  pub holds : HoldsMark site space count lane bytes
  pub pages : Stand space 0 (empty_pages count) bytes

-- among the archives of a chain

-- of each copy id the archive that has a line
abbrev pub AreArchived : List Line → ℕ → List ℕ → List Archive → Type 0
AreArchived lines space [] [] = Unit {0}
AreArchived lines space (copy ∷ chain) (archive ∷ archives) = IsArchived lines space copy archive × AreArchived lines space chain archives
AreArchived lines space chain archives = ⊥

-- the pages of the first entries of an archive, and of the 256 behind them
abbrev pub laid_entries : History → (count entries : ℕ) → Option Archive → List ℕ
laid_entries history count entries None = []
laid_entries history count entries (Some archive) = take entries (pages_in history count archive)

abbrev pub next_entries : History → (count entries : ℕ) → Option Archive → List ℕ
next_entries history count entries None = []
next_entries history count entries (Some archive) = take 256 (drop entries (pages_in history count archive))

-- a page as an archive has it
abbrev pub page_of : History → ℕ → Page → Option Archive → Page
page_of history number page None = page
page_of history number page (Some archive) = page_at history archive.at archive.space number

-- an empty page with the archives before one merged into it, and then the first entries of that one
abbrev pub merged_page : History → (count : ℕ) → List Archive → (archive entries number : ℕ) → Page
merged_page history count archives archive entries number =
    if is_among (laid_entries history count entries (slice_get archives archive)) number
    then page_of history number empty_page (slice_get archives archive)
    else fold (merged history number) empty_page (take archive archives)

-- the pages of the next 256 entries may have any bytes
pub record HoldsMerge (site space count : ℕ) (history : History) (lines : List Line) (lane : LaneState) (chain : List ℕ) (archive entries : ℕ)
    (bytes : List ℕ) : Type 0 where
  pub holds : HoldsMark site space count lane bytes
  pub archives : List Archive
  pub are : AreArchived lines space chain archives
  pub pages : (number : ℕ) → number < count → is_among (next_entries history count entries (slice_get archives archive)) number ≡ false
      → extent (place_of pages_at number) 4096 bytes ≡ page_bytes space number (merged_page history count archives archive entries number)

-- stale

-- a state that names a restore names neither the one that is under way nor one above the last number
abbrev pub IsPast : ℕ → Option Active → ℕ → Type 0
IsPast number active restore = (restore ≤ number) × ((under : Active) → active ≡ Some under → restore ≡ under.number → ⊥)

abbrev pub NamesPast : ℕ → Option Active → LaneState → Type 0
NamesPast number active (stands upto part) = Unit {0}
NamesPast number active (blank restore) = IsPast number active restore
NamesPast number active (merges restore chain archive entries) = IsPast number active restore
NamesPast number active (replays restore chain upto part) = IsPast number active restore
NamesPast number active stale = Unit {0}
NamesPast number active lost = Unit {0}

-- any pages, under a header and the mark of a lane that names no such restore
pub record HoldsStale (site space count number : ℕ) (active : Option Active) (bytes : List ℕ) : Type 0 where
  pub lane : LaneState
  pub holds : HoldsMark site space count lane bytes
  pub past : NamesPast number active lane

-- all states

-- the position of the restore that is under way
abbrev pub goal_of : Option Active → ℕ
goal_of None = 0
goal_of (Some restore) = restore.to

abbrev pub HoldsLane : (site count : ℕ) → History → List Line → ℕ → Option Active → ℕ → LaneState → List ℕ → Type 0
HoldsLane site count history lines number active space (stands upto part) bytes =
    HoldsPages site space count (stands upto part) upto part (lane_pages history (length history) space upto part count) bytes
HoldsLane site count history lines number active space (blank restore) bytes = HoldsNone site space count (blank restore) bytes
HoldsLane site count history lines number active space (merges restore chain archive entries) bytes =
    HoldsMerge site space count history lines (merges restore chain archive entries) chain archive entries bytes
HoldsLane site count history lines number active space (replays restore chain upto part) bytes =
    HoldsPages site space count (replays restore chain upto part) upto part (lane_pages history (goal_of active) space upto part count) bytes
HoldsLane site count history lines number active space stale bytes = HoldsStale site space count number active bytes
HoldsLane site count history lines number active space lost bytes = HasHeader (chunk_tail site space count) bytes → ⊥

-- a chunk without a lane shows anything
abbrev pub ShowsChunk : Head → History → List Line → ℕ → Option Active → ℕ → Option LaneState → List ℕ → Type 0
ShowsChunk head history lines number active space None bytes = Unit {0}
ShowsChunk head history lines number active space (Some lane) bytes =
    HoldsLane head.site (pages_of_space head.spaces space) history lines number active space lane bytes
