-- When the values of a site's boot file and log agree, from an era on, with their disks and with their parts of a site.
use Rattle.std.specs.Prelude.{◌≡◌, ℕ, ◌<◌, List, Option, Some}
use Rattle.site_disk.specs.declared.disk.Disk.{Ghosts}
use Rattle.site_disk.specs.Seen.{seen}
use Rattle.log_history.specs.History.{History}
use Rattle.backup_lines.specs.Lines.{Line}
use Rattle.backup_lines.specs.Spans.{Active}
use Rattle.boot_file.specs.Boots.{disk_of as boot_disk, Stands as BootStands}
use Rattle.boot_file.specs.declared.boot.Boot.{Boot}
use Rattle.logical_log.specs.Rings.{disk_of as log_disk, IsMade, Stands as LogStands}
use Rattle.logical_log.specs.declared.ring.LogRing.{LogRing}
use Rattle.ring_laws.specs.Rings.{files_of}
use Rattle.site_worlds.specs.Worlds.{Ring}

module _ {D : Type 0} (disk : Ghosts D) where
  -- it tells what the boot file has
  pub record BootAgrees (from site : ℕ) (lines : List Line) (number : ℕ) (active : Option Active) (boot : Boot D) : Type 0 where
    pub last : (disk.ledger (boot_disk boot)).last < from
    pub stands : BootStands site lines number active (seen disk (boot_disk boot)) boot

  -- it tells of the files that the log holds, unless that is lost
  pub record LogAgrees (from site : ℕ) (starts : List ℕ) (history : History) (ring : Option Ring) (log : LogRing D) : Type 0 where
    pub last : (disk.ledger (log_disk log)).last < from
    pub made : IsMade log
    pub stands : (there : Ring) → ring ≡ Some there → LogStands site (files_of starts history there) (seen disk (log_disk log)) log
