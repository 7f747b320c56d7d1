-- What an image's reader is at, and what a block is to it.
use Rattle.std.specs.Prelude.{◌≡◌, ℕ, ◌+◌, ◌^◌, ◌<◌, ◌≤◌, List, [], ◌∷◌, length, Bool, true, false}
use Rattle.level_archive.specs.declared.head.ImageHead.{ImageHead}
use Rattle.level_archive.specs.declared.reader.ImageFault.{ImageFault}
use Rattle.level_archive.specs.declared.reader.ImageFault.TheVariants.{BadHead, BadEntry}
use Rattle.level_archive.specs.Image.{Entry, IsImageSize, entry_bytes, head_bytes}

-- the image that is read, of a space with so many pages, and its bytes; whether its head was read, how many entries were given, and the
-- least number that the next one may have
pub record Reading : Type 0 where
  pub head : ImageHead
  pub pages : ℕ
  pub size : ℕ
  pub is_begun : Bool
  pub entries : ℕ
  pub from : ℕ

abbrev pub new_reading : ImageHead → (pages size : ℕ) → Reading
new_reading head pages size = record { head = head; pages = pages; size = size; is_begun = false; entries = 0; from = 0 }

abbrev pub with_head : Reading → Reading
with_head reading = record reading { is_begun = true }

-- an entry more, of the page with this number
abbrev pub with_entry : ℕ → Reading → Reading
with_entry number reading = record reading { entries = reading.entries + 1; from = number + 1 }

-- A page with this number and stamp may stand in an image where the numbers go on: its number isn't below them and is one of the space's,
-- and its stamp is above the base and at most the position of the archive.
pub record MayStand (head : ImageHead) (pages from number stamp : ℕ) : Type 0 where
  pub ascending : from ≤ number
  pub within : number < pages
  pub above : head.base < stamp
  pub up_to : stamp ≤ head.at

-- entries may stand in an image, one behind another
abbrev pub MayFollow : ImageHead → (pages from : ℕ) → List Entry → Type 0
MayFollow head pages from [] = Unit {0}
MayFollow head pages from (e ∷ rest) = MayStand head pages from e.number e.page.stamp × MayFollow head pages (e.number + 1) rest

-- the block is that of an entry with this number, which may come next
pub record HasEntry (head : ImageHead) (pages from : ℕ) (block : List ℕ) (number : ℕ) : Type 0 where
  pub e : Entry
  pub fits : e.page.stamp < 2 ^ 64
  pub number_is : e.number ≡ number
  pub block_is : block ≡ entry_bytes head.space e
  pub stands : MayStand head pages from e.number e.page.stamp

-- the block is this head's, and the size is that of an image
pub record IsFirst (head : ImageHead) (pages size : ℕ) (block : List ℕ) : Type 0 where
  pub block_is : block ≡ head_bytes head
  pub size_is : IsImageSize pages size

-- the first block is taken
pub record Begins (old : Reading) (block : List ℕ) (new : Reading) : Type 0 where
  pub first : old.is_begun ≡ false
  pub is_head : IsFirst old.head old.pages old.size block
  pub begun : new ≡ with_head old

-- a later block is taken, and the page with this number is given
pub record Gives (old : Reading) (block : List ℕ) (number : ℕ) (new : Reading) : Type 0 where
  pub later : old.is_begun ≡ true
  pub has : HasEntry old.head old.pages old.from block number
  pub given : new ≡ with_entry number old

-- the first block isn't this head, or the size isn't that of an image
pub record RefusesHead (reading : Reading) (block : List ℕ) : Type 0 where
  pub first : reading.is_begun ≡ false
  pub other : IsFirst reading.head reading.pages reading.size block → ⊥

-- a later block isn't that of an entry that may come next
pub record RefusesEntry (reading : Reading) (block : List ℕ) : Type 0 where
  pub later : reading.is_begun ≡ true
  pub other : (number : ℕ) → HasEntry reading.head reading.pages reading.from block number → ⊥

-- why a block is refused; an entry counts from 0
abbrev pub Refuses : Reading → List ℕ → ImageFault → Type 0
Refuses reading block BadHead = RefusesHead reading block
Refuses reading block (BadEntry number) = (number ≡ reading.entries) × RefusesEntry reading block

-- the number behind the last of these entries, the first of which may have a number
abbrev pub number_behind : ℕ → List Entry → ℕ
number_behind from [] = from
number_behind from (e ∷ rest) = number_behind (e.number + 1) rest

-- a reader that was fed the head and the blocks of these entries of an image
pub record HasRead (head : ImageHead) (pages size : ℕ) (given : List Entry) (reading : Reading) : Type 0 where
  pub size_is : IsImageSize pages size
  pub follow : MayFollow head pages 0 given
  pub is : reading ≡ record { head = head; pages = pages; size = size; is_begun = true; entries = length given; from = number_behind 0 given }
