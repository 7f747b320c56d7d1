-- Objects that are read from their volumes.
use Rattle.std.specs.Prelude.{◌≡◌, ℕ, Bool, true, false, List, [], slice_get, slice_set, Option, Some, None}
use Rattle.site_disk.specs.Bytes.{Same}
use Rattle.site_disk.specs.Causes.{Rose}
use Rattle.site_disk.specs.Images.{Leaves, Unchanged}
use Rattle.site_disk.specs.Ledger.{EraView, Uses}
use Rattle.site_disk.specs.declared.disk.Disk.{Ghosts}
use Rattle.catalogue_slots.specs.Records.{Object}
use Rattle.object_volume.specs.Objects.{object, object_part}
use Rattle.object_volume.specs.Volumes.{disk_of, with_disk}
use Rattle.object_volume.specs.declared.volume.Volume.{Volume}

module _ {D : Type 0} where
  -- what a volume, if there is one, has of an object, and of so many of its bytes from a place on
  abbrev pub read_by : (D → List ℕ) → Object → Option (Volume D) → List ℕ
  read_by bytes kept None = []
  read_by bytes kept (Some volume) = object kept.runs kept.size (bytes (disk_of volume))

  abbrev pub part_by : (D → List ℕ) → ℕ → Object → ℕ → Option (Volume D) → List ℕ
  part_by bytes n kept at None = []
  part_by bytes n kept at (Some volume) = object_part kept.runs kept.size at n (bytes (disk_of volume))

  -- what an object reads as on its volume, and so many of its bytes from a place on
  abbrev pub reads_on : (D → List ℕ) → List (Volume D) → Object → List ℕ
  reads_on bytes volumes kept = read_by bytes kept (slice_get volumes kept.volume)

  abbrev pub part_on : (D → List ℕ) → List (Volume D) → ℕ → Object → ℕ → List ℕ
  part_on bytes volumes n kept at = part_by bytes n kept at (slice_get volumes kept.volume)

  -- of these volumes the one at this place has become another, and all others are as they were
  pub record ChangesOne (P : Volume D → Volume D → Type 0) (place : ℕ) (old new : List (Volume D)) : Type 0 where
    pub was : Volume D
    pub is : Volume D
    pub there : slice_get old place ≡ Some was
    pub changed : new ≡ slice_set old place is
    pub by : P was is

  -- A volume was read, and up to so many bytes of it: nothing of it but its disk has changed, whose images gain none. Where the disk
  -- didn't fail, its bytes and images stay.
  pub record IsRead (disk : Ghosts D) (era : EraView) (most : ℕ) (failed : Bool) (was is : Volume D) : Type 0 where
    pub volume : is ≡ with_disk was (disk_of is)
    pub bytes : failed ≡ false → disk.bytes (disk_of is) ≡ disk.bytes (disk_of was)
    pub images : failed ≡ false → Unchanged (disk.image (disk_of was)) (disk.image (disk_of is))
    pub crash : Leaves era.number Same (disk.image (disk_of was)) (disk.image (disk_of is))
    pub ledger : Uses era most 0 (disk.ledger (disk_of was)) (disk.ledger (disk_of is))
    pub cause : failed ≡ true → Rose (disk.ledger (disk_of was)).faults (disk.ledger (disk_of is)).faults
