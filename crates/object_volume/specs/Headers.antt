-- The header of a volume, and lists of live objects that don't fit it.
use Rattle.std.specs.Prelude.{◌≡◌, ◌⊎◌, ℕ, ◌≤◌, Bool, IsTrue, List, length}
use Rattle.site_disk.specs.Bytes.{extent}
use Rattle.gated_slots.specs.Header.{IsHeader}
use Rattle.site_headers.specs.Headers.{volume_tail, IsVolumeSize, HasHeader}
use Rattle.block_chain.specs.Blocks.{RefusesFirst}

-- the volume of a site with this number has a header that names so many blocks
pub record HasVolume (number site blocks : ℕ) (file : List ℕ) : Type 0 where
  pub size : IsVolumeSize blocks
  pub header : HasHeader (volume_tail number site blocks) file

-- the site's volume with this number has no valid header: it is blank
abbrev pub HasNoVolume : ℕ → ℕ → List ℕ → Type 0
HasNoVolume number site file = (blocks : ℕ) → HasVolume number site blocks file → ⊥

-- what a stop within the formatting leaves: no header, the one that is written, or the one that was there; the same behind the page
pub record MayFormat (tail old new : List ℕ) : Type 0 where
  pub header : IsHeader new → (extent 1 4095 new ≡ tail) ⊎ (IsHeader old × (extent 1 4095 new ≡ extent 1 4095 old))
  pub elsewhere : (from len : ℕ) → 4096 ≤ from → extent from len new ≡ extent from len old
  pub no_shorter : length old ≤ length new

-- the block is the first of the lists that stands a second time, or that the volume doesn't have by its header
pub record Overlaps (tells : Bool) (number site : ℕ) (file lists : List ℕ) (block : ℕ) : Type 0 where
  pub blocks : ℕ
  pub header : IsTrue tells → HasVolume number site blocks file
  pub refused : RefusesFirst blocks lists block
