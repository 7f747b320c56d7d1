-- The blocks of an image on a volume, and what of them a reader takes.
use Rattle.std.specs.Prelude.{◌≡◌, ℕ, zero, suc, ◌+◌, ◌-◌, ◌*◌, ◌/◌, ◌^◌, ◌<◌, ◌≤◌, List, [], ◌∷◌, length, min}
use Rattle.std.specs.List.{AllByRecursion, flat_map}
use Rattle.site_disk.specs.Bytes.{written}
use Rattle.before_images.specs.Saved.{place_of}
use Rattle.lane_ways.specs.Pictures.{pages_at}
use Rattle.object_volume.specs.Objects.{object, object_part}
use Rattle.level_archive.specs.declared.head.ImageHead.{ImageHead}
use Rattle.level_archive.specs.Image.{Entry, IsImageSize, entry_bytes, head_bytes, image_blocks}
use Rattle.level_archive.specs.Reading.{HasEntry, MayFollow, MayStand, Reading, with_entry}
use Rattle.lane_restore.specs.declared.job.ImageJob.{ImageJob}

-- the block from a byte of the object on; it is short where the object or the volume ends
abbrev pub block_from : ImageJob → ℕ → List ℕ → List ℕ
block_from image at bytes = object_part image.runs.items image.size at 4096 bytes

-- where the block of an entry begins: the head's comes before them
abbrev pub entry_place : ℕ → ℕ
entry_place entry = 4096 * (entry + 1)

-- how many entries an image of a size has, how many a step merges behind so many, and how many blocks it reads for that
abbrev pub entries_in : ℕ → ℕ
entries_in size = size / 4096 - 1

abbrev pub step_len : (size entries : ℕ) → ℕ
step_len size entries = min 256 (entries_in size - entries)

-- The head is read before the first entry, and never again.
abbrev pub heads_read : ℕ → ℕ
heads_read zero = 1
heads_read (suc entries) = 0

abbrev pub blocks_read : (size entries : ℕ) → ℕ
blocks_read size entries = step_len size entries + heads_read entries

-- a whole block is that of an entry with this number, which may come next
pub record TakesBlock (head : ImageHead) (pages from : ℕ) (block : List ℕ) (number : ℕ) : Type 0 where
  pub whole : length block ≡ 4096
  pub has : HasEntry head pages from block number

-- so many blocks from an entry's on are those of entries one behind another, the first of which may have a number
abbrev pub TakesBlocks : ImageJob → (pages from entry count : ℕ) → List ℕ → Type 0
TakesBlocks image pages from entry zero bytes = Unit {0}
TakesBlocks image pages from entry (suc count) bytes =
    (number : ℕ) × TakesBlock image.head pages from (block_from image (entry_place entry) bytes) number × TakesBlocks image pages (number + 1) (entry + 1) count bytes

-- What one turn does: a block is taken, and stands in the place of its page.
pub record TakesOne (image : ImageJob) (at : ℕ) (volume : List ℕ) (old new : Reading) (chunk_old chunk_new : List ℕ) : Type 0 where
  pub number : ℕ
  pub takes : TakesBlock image.head old.pages old.from (block_from image at volume) number
  pub given : new ≡ with_entry number old
  pub stands : place_of pages_at number ≤ length chunk_old → chunk_new ≡ written (place_of pages_at number) (block_from image at volume) chunk_old

-- it goes on with the same image
pub record ReadsOn (old new : Reading) : Type 0 where
  pub begun : new.is_begun ≡ old.is_begun
  pub head : new.head ≡ old.head
  pub pages : new.pages ≡ old.pages

-- before the first entry the head stands
abbrev pub HasHead : ImageJob → ℕ → List ℕ → Type 0
HasHead image zero bytes = block_from image 0 bytes ≡ head_bytes image.head
HasHead image (suc entries) bytes = Unit {0}

-- All blocks that a step reads of an image, behind so many entries, are taken.
pub record IsTaken (image : ImageJob) (pages entries : ℕ) (bytes : List ℕ) : Type 0 where
  pub size : IsImageSize pages image.size
  pub head : HasHead image entries bytes
  pub blocks : TakesBlocks image pages 0 entries (step_len image.size entries) bytes

-- the object has the bytes of the image of these entries
pub record HasImage (pages : ℕ) (image : ImageJob) (entries : List Entry) (bytes : List ℕ) : Type 0 where
  pub size : image.size ≡ 4096 * (length entries + 1)
  pub position : image.head.at < 2 ^ 64
  pub whole : AllByRecursion (λ e. length e.page.payload ≡ 4080) entries
  pub follow : MayFollow image.head pages 0 entries
  pub reads : object image.runs.items image.size bytes ≡ flat_map (λ block. block) (image_blocks image.head entries)

-- a block is that of this entry of an image
pub record IsEntry (head : ImageHead) (pages : ℕ) (e : Entry) (block : List ℕ) : Type 0 where
  pub whole : length block ≡ 4096
  pub fits : e.page.stamp < 2 ^ 64
  pub block_is : block ≡ entry_bytes head.space e
  pub stands : MayStand head pages 0 e.number e.page.stamp

-- the blocks from an entry's on are those of these entries
abbrev pub AreEntries : ImageJob → (pages entry : ℕ) → List Entry → List ℕ → Type 0
AreEntries image pages entry [] bytes = Unit {0}
AreEntries image pages entry (e ∷ es) bytes = IsEntry image.head pages e (block_from image (entry_place entry) bytes) × AreEntries image pages (entry + 1) es bytes
