-- What the opening of a site asks, and what it finds.
use Rattle.std.specs.Prelude.{◌≡◌, ℕ, ◌+◌, ◌*◌, List, [], ◌∷◌, Option, None, Some, Result, Ok, Err}
use Rattle.log_history.specs.Transactions.{Table, table_of}
use Rattle.backup_lines.specs.Spans.{Active}
use Rattle.site_disk.specs.declared.disk.Disk.{Ghosts}
use Rattle.site_headers.specs.Heads.{Head}
use Rattle.boot_file.specs.Boots.{lines_in, number_in, restore_in}
use Rattle.boot_file.specs.Places.{HoldsBoot}
use Rattle.site_model.specs.declared.disk_name.DiskName.{DiskName}
use Rattle.site_model.specs.declared.disk_name.DiskName.TheVariants.{Cat, Spare, Boot, Log, Volume, Chunk}
use Rattle.site_worlds.specs.Allowed.{HasRing}
use Rattle.site_layouts.specs.Stages.{HeldSite, StandsFor}
use Rattle.site_openings.specs.Openings.{Check, formatted_site, good_catalogue, good_boot, good_volumes, good_log, records_in_order}
use Rattle.site_core.specs.declared.faults.SiteFault.{SiteFault}
use Rattle.site_core.specs.declared.faults.SiteFault.TheVariants.{NeedsRestart}
use Rattle.site_core.specs.declared.site.Site.{Site}
use Rattle.site_core.specs.Disks.{contents_of}
use Rattle.site_core.specs.Layers.{layers}

-- the catalogue with its spare disk, the boot file, the volumes
abbrev pub store_checks : List Check
store_checks = formatted_site ∷ good_catalogue ∷ good_boot ∷ good_volumes ∷ []

-- the log, and the order of its records
abbrev pub log_checks : List Check
log_checks = good_log ∷ records_in_order ∷ []

-- at most so many bytes are read of each disk when the store and the boot file are opened
abbrev pub store_bytes : DiskName → ℕ
store_bytes Cat = 4864 + 4097 * 65536
store_bytes Spare = 4096
store_bytes Boot = 8459008
store_bytes Log = 0
store_bytes (Volume n) = 4096
store_bytes (Chunk n) = 0

-- and when the log is
abbrev pub log_bytes : DiskName → ℕ
log_bytes Cat = 0
log_bytes Spare = 0
log_bytes Boot = 0
log_bytes Log = 531200
log_bytes (Volume n) = 0
log_bytes (Chunk n) = 0

-- the boot file tells what its disk holds, for a site with this head
abbrev pub TellsBoot : {D : Type 0} → Ghosts D → Head → Site D → Type 0
TellsBoot disk head site = HoldsBoot head.site (lines_in site.boot) (number_in site.boot) (restore_in site.boot) (contents_of disk site Boot)

-- a restore under way is refused
abbrev pub restoring : Option Active → Result Unit SiteFault
restoring None = Ok tt
restoring (Some active) = Err (NeedsRestart active.number)

-- The log of a site was opened in an era, and the values stand for the site. With no restore under way its records tell all transactions
-- that are open at its end.
pub record FindsLog {D : Type 0} (disk : Ghosts D) (era : ℕ) (running : Table) (at : HeldSite) (site : Site D) : Type 0 where
  pub has : HasRing at.site
  pub table : at.site.active ≡ None → running ≡ table_of at.site.history
  pub stands : StandsFor (layers disk) 2 (era + 1) site at
