-- A chunk that rests at a place, and a step that brings it to another.
use Rattle.std.specs.Prelude.{◌≡◌, ◌≤◌, ◌+◌, ◌*◌, ℕ, List, length, true}
use Rattle.std.specs.List.{AllByRecursion}
use Rattle.site_disk.specs.Bytes.{Elsewhere}
use Rattle.site_disk.specs.Images.{Seen, IsSynced}
use Rattle.log_history.specs.Effects.{Change, Page}
use Rattle.twin_mark.specs.Marks.{MarkView, Knows}
use Rattle.before_images.specs.Saved.{is_among, restored}
use Rattle.space_pages.specs.Pages.{LieWithin, brought}
use Rattle.lane_ways.specs.Pictures.{MayMove, Picture, Shows, Stand, images_at, mark_at, pages_at}
use Rattle.lane_steps.specs.Choices.{is_own}

-- what a chunk shows at a place: its header, the record of its mark, the space, the place, and the pages there
abbrev pub standing : (header content : List ℕ) → (space upto part : ℕ) → List Page → Picture
standing header content space upto part pages = record { header = header; record_there = content; space = space; upto = upto; part = part; pages = pages }

-- The chunk shows this, nothing is to be put back, a crash in a later era leaves what a read gives, and the mark's value knows which of its
-- slots is current. So it stands between all calls.
pub record Rests (picture : Picture) (mark : MarkView) (disk : Seen) : Type 0 where
  pub shows : Shows picture disk.bytes
  pub settled : restored images_at pages_at (length picture.pages) picture.upto picture.part disk.bytes ≡ disk.bytes
  pub plain : Stand picture.space 0 picture.pages disk.bytes
  pub knows : Knows mark disk.bytes
  pub synced : IsSynced disk

-- The bytes of each change lie within a page, and those of the space's own pages lie in these pages.
pub record Lays (space count : ℕ) (pages : List ℕ) (changes : List Change) : Type 0 where
  pub lie : LieWithin changes
  pub among : AllByRecursion (λ change. is_own space count change ≡ true → is_among change.patch.page pages ≡ true) changes

-- changes in these pages bring the lane from a place to another one
pub record CanMove (space count : ℕ) (pages : List ℕ) (changes : List Change) (from_upto from_part upto part : ℕ) : Type 0 where
  pub lays : Lays space count pages changes
  pub other : upto ≡ from_upto → part ≡ from_part → ⊥

-- what the chunk shows behind the step: another record and place, and the pages with the changes laid into them
abbrev pub moved : Picture → (content : List ℕ) → (upto part : ℕ) → List Change → Picture
moved picture content upto part changes = standing picture.header content picture.space upto part (brought picture.space 0 changes picture.pages)

-- and what it shows at another place with the same pages
abbrev pub placed : Picture → (content : List ℕ) → (upto part : ℕ) → Picture
placed picture content upto part = standing picture.header content picture.space upto part picture.pages

-- whatever it was before, the chunk shows the place before the step or the one behind it
abbrev pub Moves : Picture → Picture → List ℕ → List ℕ → Type 0
Moves first second old new = MayMove first second new

-- nothing has changed but the mark, what is kept, and pages below an end
pub record WritesOnly (count : ℕ) (old new : List ℕ) : Type 0 where
  pub elsewhere : Elsewhere mark_at (73728 + 4096 * count) old new
  pub no_shorter : length old ≤ length new
