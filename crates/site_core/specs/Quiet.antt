-- Calls that write nothing.
use Rattle.std.specs.Prelude.{◌≡◌, ℕ, ◌+◌, ◌≤◌, List, Option, None, Some}
use Rattle.site_disk.specs.declared.disk.Disk.{Ghosts}
use Rattle.site_disk.specs.Ledger.{EraView}
use Rattle.site_model.specs.declared.disk_name.DiskName.{DiskName}
use Rattle.site_core.specs.declared.site.Site.{Site}
use Rattle.site_core.specs.Disks.{disk_named, images_of, contents_of, faults_on, MayUseAll}

module _ {D : Type 0} (disk : Ghosts D) where
  abbrev pub written_or : Option D → ℕ
  written_or None = 0
  written_or (Some it) = (disk.ledger it).written

  -- how many bytes were written on each disk so far
  abbrev pub written_on : Site D → DiskName → ℕ
  written_on site name = written_or (disk_named site name)

  abbrev pub read_or : Option D → ℕ
  read_or None = 0
  read_or (Some it) = (disk.ledger it).read

  -- and how many were read
  abbrev pub read_on : Site D → DiskName → ℕ
  read_on site name = read_or (disk_named site name)

  -- nothing was written on any disk, and a crash leaves no more of one; one that failed may read otherwise
  pub record IsQuiet (old new : Site D) : Type 0 where
    pub images : (f : ℕ) (name : DiskName) (bytes : List ℕ) → images_of disk new f name bytes → images_of disk old f name bytes
    pub written : (name : DiskName) → written_on new name ≤ written_on old name

  -- what a read of each disk gives is as before
  abbrev pub ReadsSame : Site D → Site D → Type 0
  ReadsSame old new = (name : DiskName) → contents_of disk new name ≡ contents_of disk old name

  -- counts of failures don't fall
  abbrev pub FaultsLater : Site D → Site D → Type 0
  FaultsLater old new = (name : DiskName) → faults_on disk old name ≤ faults_on disk new name

  -- A call writes nothing, and reads at most so many bytes of each disk. All disks may be used in its era still.
  pub record OnlyReads (era : EraView) (most : DiskName → ℕ) (old new : Site D) : Type 0 where
    pub quiet : IsQuiet old new
    pub read : (name : DiskName) → read_on new name ≤ read_on old name + most name
    pub later : FaultsLater old new
    pub may : MayUseAll disk era new
