-- The image of an archive: a head, and then the pages of a space with a stamp above a base. All numbers are big-endian.
use Rattle.std.specs.Prelude.{◌≡◌, ℕ, ◌+◌, ◌*◌, ◌%◌, ◌^◌, ◌<◌, ◌≤◌, List, [], ◌∷◌, ◌++◌, map, replicate, slice_index, nat_lt, if◌then◌else◌, codes}
use Rattle.std.specs.Int.{w16, w64, to_be_bytes}
use Rattle.byte_fields.specs.Fields.{field, number_at}
use Rattle.log_history.specs.Effects.{Page}
use Rattle.space_pages.specs.Layout.{page_bytes}
use Rattle.level_archive.specs.declared.head.ImageHead.{ImageHead}

-- a level is at most 2, positions are at most 2^48, and level 0 has base 0
pub record IsImageHead (head : ImageHead) : Type 0 where
  pub site : head.site < 2 ^ 64
  pub space : head.space < 2 ^ 16
  pub level : head.level ≤ 2
  pub at : head.at ≤ 2 ^ 48
  pub base : head.base ≤ 2 ^ 48
  pub whole : head.level ≡ 0 → head.base ≡ 0

-- `OBIM`, version 1, 5 level, 6 space, 8 site, 16 position, 24 base
unfoldable pub front : ImageHead → List ℕ
front head =
    codes "OBIM" ++ 1 ∷ head.level ∷ [] ++ to_be_bytes w16 head.space ++ to_be_bytes w64 head.site ++ to_be_bytes w64 head.at ++ to_be_bytes w64 head.base

-- the head block: these 32 bytes, and zeros to 4,096
unfoldable pub head_bytes : ImageHead → List ℕ
head_bytes head = front head ++ replicate 4064 0

-- the fields that stand in a block
unfoldable pub head_at : List ℕ → ImageHead
head_at block = record {
  site = number_at w64 8 block;
  space = number_at w16 6 block;
  level = slice_index block 5;
  at = number_at w64 16 block;
  base = number_at w64 24 block;
}

-- an entry of an image: a page, and its number
pub record Entry : Type 0 where
  pub number : ℕ
  pub page : Page

abbrev pub entry : ℕ → Page → Entry
entry number page = record { number = number; page = page }

-- of pages that stand one behind another from a number on, those with a stamp above the base
abbrev pub entries_from : ℕ → ℕ → List Page → List Entry
entries_from base number [] = []
entries_from base number (page ∷ pages) =
    if nat_lt base page.stamp then entry number page ∷ entries_from base (number + 1) pages else entries_from base (number + 1) pages

-- the block of an entry
abbrev pub entry_bytes : ℕ → Entry → List ℕ
entry_bytes space e = page_bytes space e.number e.page

-- the head of a block is that of a page of this space, whatever its number and stamp
pub record IsPageOf (space : ℕ) (block : List ℕ) : Type 0 where
  pub space_stands : field 8 2 block ≡ to_be_bytes w16 space
  pub zeros : field 10 2 block ≡ 0 ∷ 0 ∷ []

-- the blocks of an image: the head, and then a page an entry
abbrev pub image_blocks : ImageHead → List Entry → List (List ℕ)
image_blocks head entries = head_bytes head ∷ map (entry_bytes head.space) entries

-- a size is that of an image of a space with so many pages: whole blocks, one for the head and at most one for each page
pub record IsImageSize (pages size : ℕ) : Type 0 where
  pub whole : size % 4096 ≡ 0
  pub some : 4096 ≤ size
  pub few : size ≤ 4096 * (pages + 1)
