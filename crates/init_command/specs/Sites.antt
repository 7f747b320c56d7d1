-- What looking at a site's catalogue does to the site.
use Rattle.std.specs.Prelude.{ℕ}
use Rattle.site_disk.specs.Causes.{Rose}
use Rattle.site_disk.specs.declared.disk.Disk.{Ghosts}
use Rattle.catalogue_journal.specs.declared.catalogue.Catalogue.{Catalogue}
use Rattle.site_model.specs.declared.disk_name.DiskName.{DiskName}
use Rattle.site_model.specs.declared.disk_name.DiskName.TheVariants.{Cat, Spare}
use Rattle.site_model.specs.declared.status.Status.{Status}
use Rattle.site_model.specs.declared.status.Status.TheVariants.{OutOfMemory, DiskFault}
use Rattle.site_core.specs.declared.site.Site.{Site}
use Rattle.site_core.specs.Disks.{faults_on}

-- how many bytes of each disk are read
abbrev pub reads_of : DiskName → ℕ
reads_of Cat = 268505856
reads_of Spare = 4096
reads_of name = 0

module _ {D : Type 0} where
  -- nothing but the catalogue is another
  abbrev pub with_catalogue : Site D → Catalogue D → Site D
  with_catalogue site cat = record site { store = record site.store { cat = cat } }

  -- memory was wanting, or the disk that is named failed: its count of faults rose
  abbrev pub HasFailedOn : Ghosts D → Site D → Site D → Status → Type 0
  HasFailedOn disk old new OutOfMemory = Unit {0}
  HasFailedOn disk old new (DiskFault name) = Rose (faults_on disk old name) (faults_on disk new name)
  HasFailedOn disk old new status = ⊥
