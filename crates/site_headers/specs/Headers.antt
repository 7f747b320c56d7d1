-- The header page with which every disk of a site begins. All numbers are big-endian; bytes not named are 0.
use Rattle.std.specs.Prelude.{◌≡◌, ℕ, ◌-◌, ◌*◌, ◌<◌, ◌≤◌, List, [], ◌∷◌, ◌++◌, length, replicate, codes}
use Rattle.std.specs.List.{flat_map}
use Rattle.std.specs.Int.{w16, w32, w64, to_be_bytes}
use Rattle.onbar_grammar.specs.Script.{Space}
use Rattle.site_disk.specs.Bytes.{extent}
use Rattle.site_headers.specs.Heads.{Head}

-- Bytes 1 to 4,095 of a header: `OBS`, the kind of disk, version 1, the number of the volume or space, the site's id, and
-- from byte 16 on what the kind has of its own.
unfoldable pub header_tail : ℕ → ℕ → ℕ → List ℕ → List ℕ
header_tail kind number site own = codes "OBS" ++ kind ∷ 1 ∷ [] ++ to_be_bytes w16 number ++ to_be_bytes w64 site ++ own

-- a space in 24 bytes: its name in 20 bytes padded with zeros, its pages
unfoldable pub space_bytes : Space → List ℕ
space_bytes space = space.name ++ replicate (20 - length space.name) 0 ++ to_be_bytes w32 space.pages

-- the catalogue's own bytes: 16 the count of spaces, 24 the blocks of a volume, 32 the spaces
unfoldable pub catalogue_own : Head → List ℕ
catalogue_own head =
    to_be_bytes w16 (length head.spaces) ++ replicate 6 0 ++ to_be_bytes w32 head.blocks ++ replicate 4 0
    ++ flat_map space_bytes head.spaces ++ replicate (4064 - 24 * length head.spaces) 0

-- no bytes of its own
unfoldable pub no_own : List ℕ
no_own = replicate 4080 0

-- the catalogue is kind 1
abbrev pub catalogue_tail : Head → List ℕ
catalogue_tail head = header_tail 1 0 head.site (catalogue_own head)

-- a disk of this kind that has no bytes of its own
abbrev pub plain_tail : ℕ → ℕ → List ℕ
plain_tail kind site = header_tail kind 0 site no_own

-- the log is kind 4
abbrev pub log_tail : ℕ → List ℕ
log_tail site = plain_tail 4 site

-- the spare disk is kind 2
abbrev pub spare_tail : ℕ → List ℕ
spare_tail site = plain_tail 2 site

-- a volume's own bytes: 16 its blocks
unfoldable pub volume_own : ℕ → List ℕ
volume_own blocks = to_be_bytes w32 blocks ++ replicate 4076 0

-- a volume is kind 5, with its number
abbrev pub volume_tail : ℕ → ℕ → ℕ → List ℕ
volume_tail number site blocks = header_tail 5 number site (volume_own blocks)

-- a volume has 1 to 1,048,576 blocks
pub record IsVolumeSize (blocks : ℕ) : Type 0 where
  pub some : 1 ≤ blocks
  pub few : blocks ≤ 1048576

-- a header is valid where its gate, byte 0, is open, which is any byte but 0, and the other bytes are these
pub record HasHeader (tail file : List ℕ) : Type 0 where
  pub gate : ℕ
  pub is_open : 0 < gate
  pub gate_stands : extent 0 1 file ≡ gate ∷ []
  pub tail_stands : extent 1 4095 file ≡ tail
