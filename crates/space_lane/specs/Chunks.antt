-- How a lane stands on its chunk: the header, the mark at 4,096, the before-images at 8,192, page k at 77,824 + 4,096 × k.
use Rattle.std.specs.Prelude.{◌≡◌, ℕ, ◌≤◌, List, ◌∷◌, ◌++◌, length, None, Some}
use Rattle.std.specs.Int.{w16, w32, to_be_bytes}
use Rattle.site_disk.specs.Bytes.{extent}
use Rattle.twin_mark.specs.Marks.{record_at}
use Rattle.before_images.specs.Saved.{place_of, restored, saved_at}
use Rattle.site_headers.specs.Headers.{HasHeader, header_tail, volume_own}
use Rattle.backup_lines.specs.declared.lanes.LaneState.{LaneState}
use Rattle.backup_lines.specs.declared.lanes.LaneState.TheVariants.{At, Blank, Image, Replay}
use Rattle.lane_ways.specs.Pictures.{images_at, mark_at, pages_at}
use Rattle.lane_mark.specs.Layout.{FitsState, spelling}

-- the header of a chunk is kind 6, with its space and 16 the count of its pages, as a volume has its blocks
abbrev pub chunk_tail : (site space count : ℕ) → List ℕ
chunk_tail site space count = header_tail 6 space site (volume_own count)

-- a chunk has 1 to 65,536 pages
pub record IsCount (count : ℕ) : Type 0 where
  pub some : 1 ≤ count
  pub few : count ≤ 65536

-- the mark has the record of this state
pub record HasMark (state : LaneState) (bytes : List ℕ) : Type 0 where
  pub fits : FitsState state
  pub stands : record_at mark_at bytes ≡ Some (spelling state)

-- a chunk under its header and the mark of a state, as long as its pages take
pub record HoldsState (site space count : ℕ) (state : LaneState) (bytes : List ℕ) : Type 0 where
  pub header : HasHeader (chunk_tail site space count) bytes
  pub mark : HasMark state bytes
  pub long : place_of pages_at count ≤ length bytes

-- pages

-- what stands behind the stamp of a page: its space, two zeros, its number
abbrev pub page_name : (space number : ℕ) → List ℕ
page_name space number = to_be_bytes w16 space ++ (0 ∷ 0 ∷ to_be_bytes w32 number)

-- the 4,096 bytes of a page
pub record IsPage (space number : ℕ) (bytes : List ℕ) : Type 0 where
  pub long : length bytes ≡ 4096
  pub named : extent 8 8 bytes ≡ page_name space number

-- a page as it stands
abbrev pub page_at : ℕ → List ℕ → List ℕ
page_at number bytes = extent (place_of pages_at number) 4096 bytes

-- all pages are as before
abbrev pub SamePages : List ℕ → List ℕ → Type 0
SamePages old new = (from len : ℕ) → pages_at ≤ from → extent from len new ≡ extent from len old

-- before-images

-- nothing is kept
pub record KeepsNone (bytes : List ℕ) : Type 0 where
  pub none : saved_at images_at bytes ≡ None

-- The bytes with what is kept for the place of a state put back. A lane that was emptied or merges images is at no place.
abbrev pub settled : LaneState → ℕ → List ℕ → List ℕ
settled (At upto part) count bytes = restored images_at pages_at count upto part bytes
settled (Blank restore) count bytes = bytes
settled (Image restore chain image entries) count bytes = bytes
settled (Replay restore chain upto part) count bytes = restored images_at pages_at count upto part bytes

-- nothing is kept for it that differs from the pages
abbrev pub IsSettled : LaneState → ℕ → List ℕ → Type 0
IsSettled state count bytes = settled state count bytes ≡ bytes
