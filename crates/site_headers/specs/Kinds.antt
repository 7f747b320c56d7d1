-- The bytes of the kinds of disks.
use Rattle.std.specs.Prelude.{ℕ}
use Rattle.site_headers.specs.declared.kinds.DiskKind.{DiskKind}
use Rattle.site_headers.specs.declared.kinds.DiskKind.TheVariants.{Catalogue, Spare, Boot, Log, Volume, Chunk}

abbrev pub kind_code : DiskKind → ℕ
kind_code Catalogue = 1
kind_code Spare = 2
kind_code Boot = 3
kind_code Log = 4
kind_code Volume = 5
kind_code Chunk = 6
