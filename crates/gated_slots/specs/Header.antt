-- The first page of a disk: its header, whose first byte is its gate.
use Rattle.std.specs.Prelude.{◌≡◌, ◌≢◌, ℕ, ◌<◌, ◌≤◌, List, length, drop, slice_index}
use Rattle.site_disk.specs.Bytes.{extent, Torn}
use Rattle.site_disk.specs.Images.{Seen}

-- the page is there and its gate isn't closed
pub record IsHeader (bytes : List ℕ) : Type 0 where
  pub long : 4096 ≤ length bytes
  pub gate : slice_index bytes 0 ≢ 0

-- the first byte is there and is 0: the gate at 0 is closed
pub record IsClosed (bytes : List ℕ) : Type 0 where
  pub some : 1 ≤ length bytes
  pub gate : slice_index bytes 0 ≡ 0

-- every image of later eras is closed
abbrev pub ClosedAfter : Seen → Type 0
ClosedAfter disk = (f : ℕ) (c : List ℕ) → disk.last < f → disk.images f c → IsClosed c

-- closed in what a read gives, and in every image of later eras
pub record StandsClosed (disk : Seen) : Type 0 where
  pub now : IsClosed disk.bytes
  pub later : ClosedAfter disk

-- what a stop within the closing leaves: any gate, the same behind it, and no header where there was no whole page
pub record MayClose (old new : List ℕ) : Type 0 where
  pub torn : Torn 0 1 old new
  pub none : length old < 4096 → IsHeader new → ⊥

-- what a stop within the opening leaves: no header, or one with all of the page behind its gate
pub record MayOpen (page old new : List ℕ) : Type 0 where
  pub header : IsHeader new → extent 1 4095 new ≡ drop 1 page
  pub elsewhere : (from len : ℕ) → 4096 ≤ from → extent from len new ≡ extent from len old
  pub no_shorter : length old ≤ length new
