-- Before-images: pages of a disk kept in a region of it, and put back from there.
--
-- The region has 69,632 bytes. Byte 0 is its gate. The list of the pages stands in its first 4,096 bytes, and the i-th page's image, counted
-- from 0, at 4,096 × (i + 1).
use Rattle.std.specs.Prelude.{◌≡◌, ◌⊎◌, ℕ, zero, suc, ◌+◌, ◌-◌, ◌*◌, ◌<◌, ◌≤◌, max, List, [], ◌∷◌, ◌++◌, length, take, drop, replicate, Bool, true, false, ◌&&◌, ◌||◌, not, if◌then◌else◌, nat_eq, nat_le, nat_lt, Option, None, Some, get_or}
use Rattle.std.specs.Int.{w32, w64, to_be_bytes, from_be_bytes}
use Rattle.site_disk.specs.Bytes.{extent, written, filled, Apart, Torn}
use Rattle.site_disk.specs.Gates.{behind, shut, MayFill}

-- what is kept: the place of the work before its step, the pages, and their images one behind another
pub record Saved : Type 0 where
  pub upto : ℕ
  pub part : ℕ
  pub pages : List ℕ
  pub images : List ℕ

-- the list of the pages, its gate's byte taken as 0

-- numbers of eight and of four bytes at a place
unfoldable pub u64_at : ℕ → List ℕ → ℕ
u64_at at head = from_be_bytes w64 (extent at 8 head)

unfoldable pub u32_at : ℕ → List ℕ → ℕ
u32_at at head = from_be_bytes w32 (extent at 4 head)

-- the number of pages
abbrev pub count_in : List ℕ → ℕ
count_in head = u32_at 28 head

-- n page numbers from the i-th on
unfoldable pub numbers : ℕ → ℕ → List ℕ → List ℕ
numbers i zero head = []
numbers i (suc n) head = u32_at (32 + 4 * i) head ∷ numbers (i + 1) n head

abbrev pub pages_in : List ℕ → List ℕ
pages_in head = numbers 0 (count_in head) head

unfoldable pub all_zero : List ℕ → Bool
all_zero [] = true
all_zero (zero ∷ bytes) = all_zero bytes
all_zero (suc byte ∷ bytes) = false

unfoldable pub is_among : ℕ → List ℕ → Bool
is_among page [] = false
is_among page (other ∷ pages) = nat_eq page other || is_among page pages

-- no page is named twice
unfoldable pub are_distinct : List ℕ → Bool
are_distinct [] = true
are_distinct (page ∷ pages) = not (is_among page pages) && are_distinct pages

unfoldable pub are_below : ℕ → List ℕ → Bool
are_below limit [] = true
are_below limit (page ∷ pages) = nat_lt page limit && are_below limit pages

-- zero bytes before the place and behind the pages, and each page once
abbrev pub is_sound : ℕ → List ℕ → Bool
is_sound count head = all_zero (take 16 head) && all_zero (drop (32 + 4 * count) head) && are_distinct (numbers 0 count head)

-- The list is there whole and in the grammar: zero bytes, the place at byte 16, the count, 1 to 16, at byte 28, the pages at byte 32, each
-- once, and zero bytes behind them.
unfoldable pub is_list : List ℕ → Bool
is_list head = nat_eq (length head) 4096 && nat_le 1 (count_in head) && nat_le (count_in head) 16 && is_sound (count_in head) head

-- the number of pages of a list that is in the grammar
abbrev pub list_len : List ℕ → Option ℕ
list_len head = if is_list head then Some (count_in head) else None

-- a list as it is written
unfoldable pub page_bytes : List ℕ → List ℕ
page_bytes [] = []
page_bytes (page ∷ pages) = to_be_bytes w32 page ++ page_bytes pages

unfoldable pub front_bytes : ℕ → ℕ → ℕ → List ℕ
front_bytes upto part count = replicate 16 0 ++ to_be_bytes w64 upto ++ to_be_bytes w32 part ++ to_be_bytes w32 count

abbrev pub spelled : ℕ → ℕ → List ℕ → List ℕ
spelled upto part pages = front_bytes upto part (length pages) ++ page_bytes pages ++ replicate (4064 - 4 * length pages) 0

-- the list is in the grammar, and none of its images is cut off
abbrev pub is_whole : List ℕ → List ℕ → Bool
is_whole head images = is_list head && nat_le (4096 * count_in head) (length images)

-- what a list and the images behind it say
abbrev pub saved_by : List ℕ → List ℕ → Option Saved
saved_by head images =
    if is_whole head images then Some (record { upto = u64_at 16 head; part = u32_at 24 head; pages = pages_in head; images = take (4096 * count_in head) images })
    else None

-- What a region keeps: nothing where its gate is closed, its list isn't in the grammar, or the disk ends within the images.
abbrev pub saved_in : List ℕ → Option Saved
saved_in region = behind (extent 0 1 region) (saved_by (0 ∷ extent 1 4095 region) (extent 4096 65536 region))

-- so many pages for a place, by the region's bytes
abbrev pub listed : ℕ → ℕ → ℕ → List ℕ → Saved
listed upto part count region = record { upto = upto; part = part; pages = numbers 0 count (take 4096 region); images = extent 4096 (4096 * count) region }

-- and the region at a place of a disk
abbrev pub saved_at : ℕ → List ℕ → Option Saved
saved_at base bytes = saved_in (extent base 69632 bytes)

-- pages

-- where a page stands
abbrev pub place_of : ℕ → ℕ → ℕ
place_of pages_at page = pages_at + 4096 * page

-- a page as it stands, with zero bytes for those that the disk doesn't have
abbrev pub page_of : ℕ → ℕ → List ℕ → List ℕ
page_of pages_at page bytes = filled 4096 (extent (place_of pages_at page) 4096 bytes)

-- some pages as they stand, one behind another
unfoldable pub present : ℕ → List ℕ → List ℕ → List ℕ
present pages_at [] bytes = []
present pages_at (page ∷ pages) bytes = page_of pages_at page bytes ++ present pages_at pages bytes

-- the bytes with images laid over the pages
unfoldable pub laid : ℕ → List ℕ → List ℕ → List ℕ → List ℕ
laid pages_at [] images bytes = bytes
laid pages_at (page ∷ pages) images bytes = laid pages_at pages (drop 4096 images) (written (place_of pages_at page) (take 4096 images) bytes)

-- what is kept is of this place, and all of its pages are below a limit
abbrev pub applies : ℕ → ℕ → ℕ → Option Saved → Bool
applies limit upto part None = false
applies limit upto part (Some saved) = nat_eq saved.upto upto && nat_eq saved.part part && are_below limit saved.pages

-- the bytes with what is kept put back, where it applies
abbrev pub put_back : ℕ → ℕ → ℕ → ℕ → Option Saved → List ℕ → List ℕ
put_back pages_at limit upto part None bytes = bytes
put_back pages_at limit upto part (Some saved) bytes =
    if applies limit upto part (Some saved) then laid pages_at saved.pages saved.images bytes else bytes

-- the bytes with what their region keeps put back
unfoldable pub restored : ℕ → ℕ → ℕ → ℕ → ℕ → List ℕ → List ℕ
restored base pages_at limit upto part bytes = put_back pages_at limit upto part (saved_at base bytes) bytes

-- steps

-- each page lies within the bytes
abbrev pub Lie : ℕ → List ℕ → List ℕ → Type 0
Lie pages_at pages bytes = (k : ℕ) → k < length pages → place_of pages_at (get_or pages k 0) + 4096 ≤ length bytes

-- what is kept of pages as they stand, for a place of the work
abbrev pub kept : ℕ → ℕ → ℕ → List ℕ → List ℕ → Saved
kept pages_at upto part pages bytes = record { upto = upto; part = part; pages = pages; images = present pages_at pages bytes }

-- all ranges apart from the region are as before
abbrev pub Elsewhere : ℕ → List ℕ → List ℕ → Type 0
Elsewhere base old new = (from len : ℕ) → Apart base 69632 from len → extent from len new ≡ extent from len old

-- the region keeps the pages as they stood, and nothing else has changed
pub record Saves (base pages_at upto part : ℕ) (pages old new : List ℕ) : Type 0 where
  pub saved : saved_at base new ≡ Some (kept pages_at upto part pages old)
  pub elsewhere : Elsewhere base old new
  pub no_shorter : length old ≤ length new

-- it keeps what it kept, nothing, or the pages as they stood, and nothing else has changed
pub record MaySave (base pages_at upto part : ℕ) (pages old new : List ℕ) : Type 0 where
  pub saved : (saved_at base new ≡ saved_at base old) ⊎ (saved_at base new ≡ None) ⊎ (saved_at base new ≡ Some (kept pages_at upto part pages old))
  pub elsewhere : Elsewhere base old new
  pub no_shorter : length old ≤ length new

-- a region's list and images as they are written
abbrev pub region_of : ℕ → ℕ → ℕ → List ℕ → List ℕ → List ℕ
region_of pages_at upto part pages bytes = spelled upto part pages ++ present pages_at pages bytes

-- the bytes with a region written behind its closed gate
abbrev pub filled_region : ℕ → List ℕ → List ℕ → List ℕ
filled_region base region bytes = written (base + 1) (drop 1 region) (shut base bytes)

-- What a stop within the saving leaves of the region: its gate, then all behind it, then its gate. By the last of them the disk is known.
abbrev pub MayFillAndOpen : ℕ → List ℕ → List ℕ → List ℕ → List ℕ → Type 0
MayFillAndOpen base region bytes old new = MayFill base (base + 1) 69631 old new ⊎ ((old ≡ bytes) × Torn base 1 (filled_region base region bytes) new)

-- it keeps what it kept or nothing
pub record MayDrop (base : ℕ) (old new : List ℕ) : Type 0 where
  pub saved : (saved_at base new ≡ saved_at base old) ⊎ (saved_at base new ≡ None)
  pub elsewhere : Elsewhere base old new
  pub no_shorter : length old ≤ length new

-- these pages hold any bytes, and nothing else has changed but the length, up to the end of all pages below a limit
pub record Within (pages_at limit : ℕ) (pages old new : List ℕ) : Type 0 where
  pub elsewhere : (from len : ℕ) → ((k : ℕ) → k < length pages → Apart (place_of pages_at (get_or pages k 0)) 4096 from len) → extent from len new ≡ extent from len old
  pub no_shorter : length old ≤ length new
  pub no_longer : length new ≤ max (length old) (place_of pages_at limit)

-- what is kept, put back, is the same as before, and nothing has changed but pages below the limit
pub record MayPutBack (base pages_at limit upto part : ℕ) (old new : List ℕ) : Type 0 where
  pub back : restored base pages_at limit upto part new ≡ restored base pages_at limit upto part old
  pub elsewhere : (from len : ℕ) → Apart pages_at (4096 * limit) from len → extent from len new ≡ extent from len old
  pub no_shorter : length old ≤ length new

-- in every image of later eras the region is what a read gives, and the pages below the limit lie within the bytes
pub record Stands (base pages_at limit last : ℕ) (bytes : List ℕ) (images : ℕ → List ℕ → Type 0) : Type 0 where
  pub now : place_of pages_at limit ≤ length bytes
  pub region : (f : ℕ) (c : List ℕ) → last < f → images f c → extent base 69632 c ≡ extent base 69632 bytes
  pub long : (f : ℕ) (c : List ℕ) → last < f → images f c → place_of pages_at limit ≤ length c

-- nothing is kept, and nothing else has changed
pub record Drops (base : ℕ) (old new : List ℕ) : Type 0 where
  pub saved : saved_at base new ≡ None
  pub elsewhere : Elsewhere base old new
  pub no_shorter : length old ≤ length new

-- what contracts see of a value over a region: where it begins
pub record ImagesView : Type 0 where
  pub base : ℕ

-- laws

-- saved pages come back: once they are saved, whatever these pages hold since, putting back gives the bytes as they were then
abbrev pub ComesBack : ℕ → ℕ → ℕ → ℕ → ℕ → List ℕ → List ℕ → List ℕ → List ℕ → Type 0
ComesBack base pages_at limit upto part pages old saved since =
    base + 69632 ≤ pages_at → are_below limit pages ≡ true → place_of pages_at limit ≤ length old → Saves base pages_at upto part pages old saved → Within pages_at limit pages saved since
    → restored base pages_at limit upto part since ≡ saved

-- a torn write of one of the pages more stays within them
abbrev pub StaysWithin : ℕ → ℕ → ℕ → List ℕ → List ℕ → List ℕ → List ℕ → Type 0
StaysWithin pages_at limit k pages old mid new =
    k < length pages → are_below limit pages ≡ true → Within pages_at limit pages old mid → Torn (place_of pages_at (get_or pages k 0)) 4096 mid new
    → Within pages_at limit pages old new

-- files that keep the same and have the same pages below the limit have the same pages once they are put back
abbrev pub SameRestored : ℕ → ℕ → ℕ → ℕ → ℕ → List ℕ → List ℕ → Type 0
SameRestored base pages_at limit upto part c d =
    saved_at base c ≡ saved_at base d → place_of pages_at limit ≤ length c → place_of pages_at limit ≤ length d
    → extent pages_at (4096 * limit) c ≡ extent pages_at (4096 * limit) d
    → extent pages_at (4096 * limit) (restored base pages_at limit upto part c) ≡ extent pages_at (4096 * limit) (restored base pages_at limit upto part d)

-- putting back changes nothing but pages below the limit
pub record OnlyPages (pages_at limit : ℕ) (bytes back : List ℕ) : Type 0 where
  pub elsewhere : (from len : ℕ) → Apart pages_at (4096 * limit) from len → extent from len back ≡ extent from len bytes
  pub long : length back ≡ length bytes

-- what is kept for another place isn't put back
abbrev pub StaysAtOther : ℕ → ℕ → ℕ → ℕ → ℕ → Saved → List ℕ → Type 0
StaysAtOther base pages_at limit upto part saved bytes =
    saved_at base bytes ≡ Some saved → (saved.upto ≡ upto → saved.part ≡ part → ⊥) → restored base pages_at limit upto part bytes ≡ bytes
