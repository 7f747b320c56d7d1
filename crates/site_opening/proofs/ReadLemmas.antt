-- Calls that read the disks of a site, disk by disk.
use Rattle.std.proofs.Common.{◌≡◌, ℕ, ◌+◌, ◌<◌, ◌≤◌, List, Option, None, Some, refl, arith}
use Rattle.std.specs.Prelude.{slice_get}
use Rattle.std.specs.Option.{option_map}
use Rattle.std.proofs.lemmas.Option.{slice_get_within}
use Rattle.site_disk.specs.Bytes.{Same}
use Rattle.site_disk.specs.CallsLaws.{uses_again, uses_nothing, uses_more, may_use_again, then_same}
use Rattle.site_disk.specs.ImagesLaws.{begins, no_more_of}
use Rattle.site_disk.specs.Ledger.{EraView, MayUse}
use Rattle.site_disk.specs.declared.disk.Disk.{Ghosts}
use Rattle.object_volume.specs.Volumes.{disk_of as volume_disk}
use Rattle.object_volume.specs.declared.volume.Volume.{Volume}
use Rattle.object_store.proofs.ReturnLemmas.{get-within}
use Rattle.store_opening.specs.Disks.{EachFrom}
use Rattle.site_model.specs.declared.disk_name.DiskName.{DiskName}
use Rattle.site_model.specs.declared.disk_name.DiskName.TheVariants.{Cat, Spare, Boot, Log, Volume as TheVolume, Chunk}
use Rattle.site_core.specs.declared.site.Site.{Site}
use Rattle.site_core.specs.Disks.{disk_named, image_or, may_or, faults_or, MayUseAll}
use Rattle.site_core.specs.Quiet.{written_or, read_or, OnlyReads}
use Rattle.site_opening.specs.Steps.{ReadsDisk}

module _ {D : Type 0} (disk : Ghosts D) (era : EraView) where
  -- of a disk that may not be there
  abbrev pub ReadsOr : ℕ → Option D → Option D → Type 0
  ReadsOr most None None = Unit {0}
  ReadsOr most None (Some is) = ⊥
  ReadsOr most (Some was) None = ⊥
  ReadsOr most (Some was) (Some is) = ReadsDisk disk era most was is

  pub reads_none : (most : ℕ) (it : D) → MayUse era (disk.ledger it) → ReadsDisk disk era most it it
  reads_none most it may = record {
    crash = begins Same Same era.number (disk.image it) (disk.image it) (disk.image it) (λ c. refl);
    ledger = uses_more (uses_nothing may) (omega arith) (omega arith);
  }

  pub reads_or_none : (most : ℕ) (it : Option D) → may_or disk era it → ReadsOr most it it
  reads_or_none most None may = tt
  reads_or_none most (Some it) may = reads_none most it may

  -- one call after another
  pub reads_again : (some more most : ℕ) (was mid is : D) → ReadsDisk disk era some was mid → ReadsDisk disk era more mid is → some + more ≤ most → ReadsDisk disk era most was is
  reads_again some more most was mid is first second le = record {
    crash = then_same Same era.number (disk.image was) (disk.image mid) (disk.image is) first.crash second.crash;
    ledger = uses_again first.ledger second.ledger le;
  }

  -- ---- what that leaves

  written_still : (most : ℕ) (was is : Option D) → ReadsOr most was is → written_or disk is ≤ written_or disk was
  written_still most None None reads = omega arith
  written_still most None (Some is) reads = absurd reads
  written_still most (Some was) None reads = absurd reads
  written_still most (Some was) (Some is) reads = omega (arith, reads.ledger.written)

  read_most : (most : ℕ) (was is : Option D) → ReadsOr most was is → read_or disk is ≤ read_or disk was + most
  read_most most None None reads = omega arith
  read_most most None (Some is) reads = absurd reads
  read_most most (Some was) None reads = absurd reads
  read_most most (Some was) (Some is) reads = reads.ledger.read

  faults_later : (most : ℕ) (was is : Option D) → ReadsOr most was is → faults_or disk was ≤ faults_or disk is
  faults_later most None None reads = omega arith
  faults_later most None (Some is) reads = absurd reads
  faults_later most (Some was) None reads = absurd reads
  faults_later most (Some was) (Some is) reads = reads.ledger.faults

  may_still : (most : ℕ) (was is : Option D) → may_or disk era was → ReadsOr most was is → may_or disk era is
  may_still most None None may reads = tt
  may_still most None (Some is) may reads = absurd reads
  may_still most (Some was) None may reads = absurd reads
  may_still most (Some was) (Some is) may reads = may_use_again may reads.ledger

  module _ (counts : (it : D) (f g : ℕ) (c : List ℕ) → (disk.ledger it).last ≤ f → (disk.ledger it).last < g → disk.image it g c → disk.image it f c) where
    no_more : (most : ℕ) (was is : Option D) (f : ℕ) (bytes : List ℕ) → may_or disk era was → ReadsOr most was is → image_or disk is f bytes → image_or disk was f bytes
    no_more most None None f bytes may reads image = image
    no_more most None (Some is) f bytes may reads image = absurd reads
    no_more most (Some was) None f bytes may reads image = absurd reads
    no_more most (Some was) (Some is) f bytes may reads image =
        no_more_of era.number (disk.image was) (disk.image is) reads.crash
        (λ c later. counts was era.number (era.number + 1) c may.not_past (omega (arith, may.not_past)) later) f bytes image

    pub only_reads : (most : DiskName → ℕ) (old new : Site D) → MayUseAll disk era old → ((name : DiskName) → ReadsOr (most name) (disk_named old name) (disk_named new name))
        → OnlyReads disk era most old new
    only_reads most old new may reads = record {
      quiet = record {
        images = λ f name bytes image. no_more (most name) (disk_named old name) (disk_named new name) f bytes (may name) (reads name) image;
        written = λ name. written_still (most name) (disk_named old name) (disk_named new name) (reads name);
      };
      read = λ name. read_most (most name) (disk_named old name) (disk_named new name) (reads name);
      later = λ name. faults_later (most name) (disk_named old name) (disk_named new name) (reads name);
      may = λ name. may_still (most name) (disk_named old name) (disk_named new name) (may name) (reads name);
    }

-- ---- by name

module _ {D : Type 0} where
  -- what holds of the volumes at each place holds of the disks there
  pub each_by : (Q : Option D → Option D → Type 0) (P : ℕ → Volume D → Volume D → Type 0) (old new : List (Volume D)) → EachFrom P old new → Q None None
      → ((place : ℕ) (was is : Volume D) → slice_get old place ≡ Some was → P place was is → Q (Some (volume_disk was)) (Some (volume_disk is)))
      → (n : ℕ) → Q (option_map volume_disk (slice_get old n)) (option_map volume_disk (slice_get new n))
  each_by Q P old new from none means n = by (slice_get old n) (slice_get new n) refl refl
    where
      missing : {X : Type 0} (o : Option X) (x : X) → o ≡ None → o ≡ Some x → ⊥
      missing o x first second = cc

      by : (a b : Option (Volume D)) → slice_get old n ≡ a → slice_get new n ≡ b → Q (option_map volume_disk a) (option_map volume_disk b)
      by None None first second = none
      by None (Some is) first second =
          let there = get-within old n (omega (arith, slice_get_within new n is second, from.count)) in absurd (missing (slice_get old n) there.0 first there.1)
      by (Some was) None first second =
          let there = get-within new n (omega (arith, slice_get_within old n was first, from.count)) in absurd (missing (slice_get new n) there.0 second there.1)
      by (Some was) (Some is) first second = means n was is first (from.each n was is first second)

  pub by_name : (Q : DiskName → Option D → Option D → Type 0) (old new : Site D) → Q Cat (disk_named old Cat) (disk_named new Cat) → Q Spare (disk_named old Spare) (disk_named new Spare)
      → Q Boot (disk_named old Boot) (disk_named new Boot) → Q Log (disk_named old Log) (disk_named new Log)
      → ((n : ℕ) → Q (TheVolume n) (disk_named old (TheVolume n)) (disk_named new (TheVolume n))) → ((n : ℕ) → Q (Chunk n) (disk_named old (Chunk n)) (disk_named new (Chunk n)))
      → (name : DiskName) → Q name (disk_named old name) (disk_named new name)
  by_name Q old new cat spare boot log volumes chunks Cat = cat
  by_name Q old new cat spare boot log volumes chunks Spare = spare
  by_name Q old new cat spare boot log volumes chunks Boot = boot
  by_name Q old new cat spare boot log volumes chunks Log = log
  by_name Q old new cat spare boot log volumes chunks (TheVolume n) = volumes n
  by_name Q old new cat spare boot log volumes chunks (Chunk n) = chunks n
