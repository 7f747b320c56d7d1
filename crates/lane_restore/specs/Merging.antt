-- The pages of a lane while images are merged into them.
use Rattle.std.specs.Prelude.{◌≡◌, ℕ, ◌<◌, ◌≤◌, ◌==◌, List, [], ◌∷◌, length, take, drop, fold, get_or, if◌then◌else◌}
use Rattle.std.specs.List.{AllByRecursion}
use Rattle.site_disk.specs.Bytes.{Apart, extent}
use Rattle.log_history.specs.Effects.{Page, empty_page}
use Rattle.space_pages.specs.Layout.{page_bytes}
use Rattle.before_images.specs.Saved.{place_of}
use Rattle.backup_lines.specs.declared.lanes.LaneState.{LaneState}
use Rattle.backup_lines.specs.declared.lanes.LaneState.TheVariants.{At, Blank, Image, Replay}
use Rattle.lane_ways.specs.Pictures.{pages_at}
use Rattle.space_lane.specs.Chunks.{HoldsState, page_at}
use Rattle.level_archive.specs.Image.{Entry}

-- a page with an entry merged into it, and with entries one after another
abbrev pub with_entry : ℕ → Page → Entry → Page
with_entry number page e = if e.number == number then e.page else page

abbrev pub with_entries : ℕ → List Entry → Page → Page
with_entries number entries page = fold (with_entry number) page entries

-- an empty page with the first so many images merged into it, each by its entries
abbrev pub with_images : ℕ → (count : ℕ) → List (List Entry) → Page
with_images number count images = fold (λ page entries. with_entries number entries page) empty_page (take count images)

-- the entries of an image, none where there is no such image
abbrev pub entries_of : List (List Entry) → ℕ → List Entry
entries_of images image = get_or images image []

-- a page amid an image: the images before it are merged, and the first of its entries
abbrev pub page_amid : List (List Entry) → (image entries number : ℕ) → Page
page_amid images image entries number = with_entries number (take entries (entries_of images image)) (with_images number image images)

-- the entries of an image that the next step merges
abbrev pub next_entries : List (List Entry) → (image entries : ℕ) → List Entry
next_entries images image entries = take 256 (drop entries (entries_of images image))

-- a page isn't among those of entries
abbrev pub IsApartFrom : List Entry → ℕ → Type 0
IsApartFrom entries number = AllByRecursion (λ e. e.number ≡ number → ⊥) entries

-- the first pages are these, but for those of some entries
abbrev pub ArePages : (space count : ℕ) → (ℕ → Page) → List Entry → List ℕ → Type 0
ArePages space count pages loose bytes =
    (number : ℕ) → number < count → IsApartFrom loose number → page_at number bytes ≡ page_bytes space number (pages number)

-- a chunk amid an image; the pages of some entries may hold any bytes
pub record HoldsAmid (site space count : ℕ) (state : LaneState) (images : List (List Entry)) (image entries : ℕ) (loose : List Entry) (bytes : List ℕ) : Type 0 where
  pub holds : HoldsState site space count state bytes
  pub pages : ArePages space count (page_amid images image entries) loose bytes

-- What a chunk shows of a lane on its way among the images of its chain: emptied, amid one of them, where the pages of the next 256 entries
-- may hold any bytes, or right behind them all.
abbrev pub HoldsMerged : (site space count : ℕ) → List (List Entry) → LaneState → List ℕ → Type 0
HoldsMerged site space count images (At upto part) bytes = ⊥
HoldsMerged site space count images (Blank restore) bytes = HoldsAmid site space count (Blank restore) images 0 0 [] bytes
HoldsMerged site space count images (Image restore chain image entries) bytes =
    HoldsAmid site space count (Image restore chain image entries) images image entries (next_entries images image entries) bytes
HoldsMerged site space count images (Replay restore chain upto part) bytes = HoldsAmid site space count (Replay restore chain upto part) images chain.len 0 [] bytes

-- pages of entries hold any bytes, and nothing else has changed but the length, which doesn't fall

abbrev pub LieApart : List Entry → (from len : ℕ) → Type 0
LieApart [] from len = Unit {0}
LieApart (e ∷ es) from len = Apart (place_of pages_at e.number) 4096 from len × LieApart es from len

pub record WritesOnly (entries : List Entry) (old new : List ℕ) : Type 0 where
  pub elsewhere : (from len : ℕ) → LieApart entries from len → extent from len new ≡ extent from len old
  pub no_shorter : length old ≤ length new
