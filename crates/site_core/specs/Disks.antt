-- The disks of a site, by name.
use Rattle.std.specs.Prelude.{◌≡◌, ℕ, List, [], slice_get, Option, None, Some}
use Rattle.std.specs.Option.{option_map}
use Rattle.site_disk.specs.declared.disk.Disk.{Ghosts}
use Rattle.site_disk.specs.Ledger.{EraView, MayUse}
use Rattle.walks.specs.Follows.{Images}
use Rattle.catalogue_journal.specs.Catalogues.{cat_of, spare_of}
use Rattle.object_volume.specs.Volumes.{disk_of as volume_disk}
use Rattle.boot_file.specs.Boots.{disk_of as boot_disk}
use Rattle.logical_log.specs.Rings.{disk_of as log_disk}
use Rattle.space_lane.specs.Lanes.{disk_of as lane_disk}
use Rattle.site_model.specs.declared.disk_name.DiskName.{DiskName}
use Rattle.site_model.specs.declared.disk_name.DiskName.TheVariants.{Cat, Spare, Boot, Log, Volume, Chunk}
use Rattle.site_core.specs.declared.site.Site.{Site}
use Rattle.site_core.specs.declared.site.SiteDisks.{SiteDisks}

module _ {D : Type 0} where
  -- the disk with a name; none where there is no such volume or chunk
  abbrev pub disk_named : Site D → DiskName → Option D
  disk_named site Cat = Some (cat_of site.store.cat)
  disk_named site Spare = Some (spare_of site.store.cat)
  disk_named site Boot = Some (boot_disk site.boot)
  disk_named site Log = Some (log_disk site.log)
  disk_named site (Volume n) = option_map volume_disk (slice_get site.store.volumes.items n)
  disk_named site (Chunk n) = option_map lane_disk (slice_get site.lanes.items n)

  -- and among disks that no values work on yet
  abbrev pub disk_given : SiteDisks D → DiskName → Option D
  disk_given disks Cat = Some disks.cat
  disk_given disks Spare = Some disks.spare
  disk_given disks Boot = Some disks.boot
  disk_given disks Log = Some disks.log
  disk_given disks (Volume n) = slice_get disks.volumes.items n
  disk_given disks (Chunk n) = slice_get disks.chunks.items n

  abbrev pub bytes_or : Ghosts D → Option D → List ℕ
  bytes_or disk None = []
  bytes_or disk (Some it) = disk.bytes it

  abbrev pub image_or : Ghosts D → Option D → ℕ → List ℕ → Type 0
  image_or disk None f bytes = bytes ≡ []
  image_or disk (Some it) f bytes = disk.image it f bytes

  -- what a read of each disk gives; a disk that isn't there has no bytes
  abbrev pub contents_of : Ghosts D → Site D → DiskName → List ℕ
  contents_of disk site name = bytes_or disk (disk_named site name)

  -- what a crash in an era may leave of each
  abbrev pub images_of : Ghosts D → Site D → Images DiskName
  images_of disk site f name bytes = image_or disk (disk_named site name) f bytes

  abbrev pub may_or : Ghosts D → EraView → Option D → Type 0
  may_or disk era None = Unit {0}
  may_or disk era (Some it) = MayUse era (disk.ledger it)

  -- all disks have the era's key, and none has used a later era
  abbrev pub MayUseAll : Ghosts D → EraView → Site D → Type 0
  MayUseAll disk era site = (name : DiskName) → may_or disk era (disk_named site name)

  abbrev pub faults_or : Ghosts D → Option D → ℕ
  faults_or disk None = 0
  faults_or disk (Some it) = (disk.ledger it).faults

  -- how often each has failed
  abbrev pub faults_on : Ghosts D → Site D → DiskName → ℕ
  faults_on disk site name = faults_or disk (disk_named site name)
