-- What an image's maker is at, and what is left for it to make.
use Rattle.std.specs.Prelude.{◌≡◌, ℕ, ◌+◌, List, map, drop, Bool, true, false, if◌then◌else◌}
use Rattle.log_history.specs.Effects.{Page}
use Rattle.level_archive.specs.declared.head.ImageHead.{ImageHead}
use Rattle.level_archive.specs.Image.{Entry, entries_from, entry_bytes, image_blocks}

-- the image that is made, of a space with so many pages; whether its head was given, how many entries were, and the first page that wasn't
-- looked at
pub record Making : Type 0 where
  pub head : ImageHead
  pub pages : ℕ
  pub is_begun : Bool
  pub entries : ℕ
  pub from : ℕ

abbrev pub new_making : ImageHead → ℕ → Making
new_making head pages = record { head = head; pages = pages; is_begun = false; entries = 0; from = 0 }

abbrev pub with_head : Making → Making
with_head making = record making { is_begun = true }

-- an entry more, of the page with this number
abbrev pub with_entry : ℕ → Making → Making
with_entry number making = record making { entries = making.entries + 1; from = number + 1 }

-- the entries of these pages of the space that are left
abbrev pub entries_left : List Page → Making → List Entry
entries_left pages making = entries_from making.head.base making.from (drop making.from pages)

-- the blocks that are left
abbrev pub blocks_left : List Page → Making → List (List ℕ)
blocks_left pages making =
    if making.is_begun then map (entry_bytes making.head.space) (entries_left pages making) else image_blocks making.head (entries_left pages making)

-- none of the pages before a number that weren't looked at is an entry
abbrev pub Reaches : List Page → Making → ℕ → Type 0
Reaches pages making number = entries_left pages making ≡ entries_from making.head.base number (drop number pages)
