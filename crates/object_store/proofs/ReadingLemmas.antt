-- One of some volumes that is read.
use Rattle.std.proofs.Common.{◌≡◌, ℕ, ◌<◌, true, false, List, length, get_or, slice_set, Result, Ok, Err, refl, subst}
use Rattle.std.proofs.lemmas.Option.{slice_get-get_or}
use Rattle.std.specs.Prelude.{OnOk, OnErr}
use Rattle.std.specs.Result.{is_err}
use Rattle.site_disk.specs.Bytes.{Same}
use Rattle.site_disk.specs.Causes.{HasCause}
use Rattle.site_disk.specs.Images.{Leaves, Unchanged}
use Rattle.site_disk.specs.Ledger.{EraView, Uses}
use Rattle.site_disk.specs.declared.disk.Disk.{Ghosts}
use Rattle.site_disk.specs.declared.faults.Failed.{Failed}
use Rattle.object_volume.specs.Volumes.{disk_of, with_disk}
use Rattle.object_volume.specs.declared.volume.Volume.{Volume}
use Rattle.object_store.specs.Reading.{ChangesOne, IsRead}

module _ {T E : Type 0} where
  when_ok : {P : Type 0} (result : Result T E) → OnOk result P → is_err result ≡ false → P
  when_ok (Ok x) is none = is
  when_ok (Err e) is none = cc

  when_err : {P : Type 0} (result : Result T E) → OnErr result P → is_err result ≡ true → P
  when_err (Ok x) is some = cc
  when_err (Err e) is some = is

-- what a call says of the volume that it reads
module _ {D T : Type 0} (disk : Ghosts D) (era : EraView) (most : ℕ) (result : Result T Failed) (was is : Volume D) where
  pub is_read : is ≡ with_disk was (disk_of is) → OnOk result (disk.bytes (disk_of is) ≡ disk.bytes (disk_of was))
      → OnOk result (Unchanged (disk.image (disk_of was)) (disk.image (disk_of is))) → Leaves era.number Same (disk.image (disk_of was)) (disk.image (disk_of is))
      → Uses era most 0 (disk.ledger (disk_of was)) (disk.ledger (disk_of is)) → HasCause (disk.ledger (disk_of was)).faults (disk.ledger (disk_of is)).faults result
      → IsRead disk era most (is_err result) was is
  is_read volume bytes images crash ledger cause = record {
    volume = volume;
    bytes = when_ok result bytes;
    images = when_ok result images;
    crash = crash;
    ledger = ledger;
    cause = when_err result cause.failed;
  }

-- the volume at a place of a list becomes another
module _ {D : Type 0} (P : Volume D → Volume D → Type 0) where
  pub changes_one : (volumes : List (Volume D)) (place at : ℕ) (d is : Volume D) → place ≡ at → place < length volumes → P (get_or volumes place d) is
      → ChangesOne P at volumes (slice_set volumes place is)
  changes_one volumes place at d is same lt by =
      subst (λ (n : ℕ). ChangesOne P n volumes (slice_set volumes place is)) same
      (record { was = get_or volumes place d; is = is; there = slice_get-get_or volumes place d lt; changed = refl; by = by })
