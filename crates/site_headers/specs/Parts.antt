-- Where the parts of a header stand.
use Rattle.std.specs.Prelude.{◌≡◌, ℕ, ◌+◌, ◌*◌, ◌<◌, ◌≤◌, List, [], ◌∷◌, ◌++◌, length, take, replicate, codes, drop, All, IsTrue}
use Rattle.std.specs.List.{AllByRecursion, flat_map}
use Rattle.std.specs.Int.{w16, w32, w64, to_be_bytes}
use Rattle.byte_fields.specs.Fields.{padded, HasNumber}
use Rattle.onbar_grammar.specs.Script.{Space}
use Rattle.onbar_grammar.specs.Numbers.{is_name}
use Rattle.site_disk.specs.Bytes.{extent}
use Rattle.site_headers.specs.Heads.{IsSpace, IsFresh, AreDistinct}
use Rattle.site_headers.specs.Headers.{space_bytes}
use Rattle.site_headers.specs.declared.sizes.Sizes.{Sizes}

-- bytes 0 to 15 of an open header
pub record HasFront (kind number : ℕ) (page : List ℕ) (site : ℕ) : Type 0 where
  pub gate : ℕ
  pub is_open : 0 < gate
  pub gate_stands : extent 0 1 page ≡ gate ∷ []
  pub named : extent 1 5 page ≡ codes "OBS" ++ kind ∷ 1 ∷ []
  pub number_stands : extent 6 2 page ≡ to_be_bytes w16 number
  pub site_stands : HasNumber w64 8 page site

-- bytes 16 to 31 of the catalogue's header: the count of spaces and the blocks of a volume, each within its limits
pub record HasSizes (page : List ℕ) (sizes : Sizes) : Type 0 where
  pub some : 1 ≤ sizes.spaces
  pub few : sizes.spaces ≤ 16
  pub some_blocks : 1 ≤ sizes.blocks
  pub few_blocks : sizes.blocks ≤ 1048576
  pub spaces_stand : HasNumber w16 16 page sizes.spaces
  pub zeros : extent 18 6 page ≡ replicate 6 0
  pub blocks_stand : HasNumber w32 24 page sizes.blocks
  pub more_zeros : extent 28 4 page ≡ replicate 4 0

-- bytes 16 on of a volume's header: its blocks, within the limits, and zeros
pub record HasVolumeSize (page : List ℕ) (blocks : ℕ) : Type 0 where
  pub some : 1 ≤ blocks
  pub few : blocks ≤ 1048576
  pub blocks_stand : HasNumber w32 16 page blocks
  pub zeros : All (λ byte. byte ≡ 0) (drop 20 page)

-- a name stands at this place, with zeros behind it up to 20 bytes
pub record HasName (at : ℕ) (bytes name : List ℕ) : Type 0 where
  pub named : IsTrue (is_name name)
  pub stands : extent at 20 bytes ≡ padded 20 name

-- the 24 bytes at this place are those of a space
pub record HasSpace (at : ℕ) (bytes : List ℕ) (space : Space) : Type 0 where
  pub name_stands : HasName at bytes space.name
  pub some : 1 ≤ space.pages
  pub few : space.pages ≤ 65536
  pub pages_stand : HasNumber w32 (at + 20) bytes space.pages

-- a space that has none of the names before it
pub record HasNewSpace (at : ℕ) (bytes : List ℕ) (before : List Space) (space : Space) : Type 0 where
  pub has_space : HasSpace at bytes space
  pub is_fresh : IsFresh space.name before

-- the bytes begin with these spaces
pub record BeginsWithSpaces (bytes : List ℕ) (spaces : List Space) : Type 0 where
  pub each : AllByRecursion IsSpace spaces
  pub distinct : AreDistinct spaces
  pub stands : take (24 * length spaces) bytes ≡ flat_map space_bytes spaces
