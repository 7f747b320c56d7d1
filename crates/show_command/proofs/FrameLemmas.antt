-- What stays of a site of which one lane became another.
use Rattle.std.proofs.Common.{◌≡◌, ◌∙◌, ℕ, ◌≤◌, List, length, slice_set, true, false, ◌==◌, Option, Some, refl, sym, ap, subst, arith, ⊎_elim, inl, inr}
use Rattle.std.specs.Prelude.{slice_get}
use Rattle.std.specs.Option.{option_map}
use Rattle.std.proofs.lemmas.Bool.{cases_Bool, cases_eq, false≢true}
use Rattle.std.proofs.lemmas.Bool.Decides.{nat_tests}
use Rattle.std.proofs.lemmas.Option.{slice_get_within, same_Some}
use Rattle.site_disk.specs.Causes.{Rose}
use Rattle.site_disk.specs.Ledger.{EraView, MayUse}
use Rattle.site_disk.specs.declared.disk.Disk.{Ghosts}
use Rattle.catalogue_journal.specs.Catalogues.{cat_of, spare_of}
use Rattle.object_volume.specs.Volumes.{disk_of as volume_disk}
use Rattle.logical_log.specs.Rings.{disk_of as log_disk, IsMade as IsMadeLog}
use Rattle.boot_file.specs.Boots.{disk_of as boot_disk, IsMade as IsMadeBoot}
use Rattle.store_opening.specs.Disks.{IsMadeStore}
use Rattle.space_lane.specs.Lanes.{count_of, disk_of}
use Rattle.space_lane.specs.declared.lane.Lane.{Lane}
use Rattle.site_lanes.specs.Lanes.{MayUseEach, OfEach}
use Rattle.site_model.specs.declared.disk_name.DiskName.{DiskName}
use Rattle.site_model.specs.declared.disk_name.DiskName.TheVariants.{Cat, Spare, Boot, Log, Volume, Chunk}
use Rattle.site_core.specs.declared.site.Site.{Site}
use Rattle.site_core.specs.Disks.{MayUseAll, faults_on, faults_or, image_or, images_of, may_or}
use Rattle.site_core.specs.Made.{IsMadeAt, IsMadeSite}
use Rattle.site_core.specs.Quiet.{IsQuiet, written_on, written_or}
use Rattle.show_command.specs.Bringing.{is_chunk_of}
use Rattle.show_command.proofs.WayLemmas.{get_other, get_set, set_length}

module _ {D : Type 0} (disk : Ghosts D) where
  -- the disk of each lane may be used
  pub may_each : (era : EraView) (site : Site D) → MayUseAll disk era site → MayUseEach disk era site.lanes.items
  may_each era site may n lane there = subst (λ (o : Option (Lane D)). may_or disk era (option_map disk_of o)) there (may (Chunk n))

  module _ (space : ℕ) (old new : Site D) (others : new ≡ record old { lanes = new.lanes }) (was is : Lane D) (there : slice_get old.lanes.items space ≡ Some was)
      (changed : new.lanes.items ≡ slice_set old.lanes.items space is) where
    pub is_there : slice_get new.lanes.items space ≡ Some is
    is_there = ap (λ (l : List (Lane D)). slice_get l space) changed ∙ get_set old.lanes.items space is (slice_get_within old.lanes.items space was there)

    other_there : (n : ℕ) → (n ≡ space → ⊥) → slice_get new.lanes.items n ≡ slice_get old.lanes.items n
    other_there n other = ap (λ (l : List (Lane D)). slice_get l n) changed ∙ get_other old.lanes.items n space is other

    pub as_many : length new.lanes.items ≡ length old.lanes.items
    as_many = ap (λ (l : List (Lane D)). length l) changed ∙ set_length old.lanes.items space is

    other_of : (n : ℕ) → is_chunk_of space (Chunk n) ≡ false → n ≡ space → ⊥
    other_of n isnt same = false≢true (sym isnt ∙ (let here : (n == space) ≡ true = grind (arith, nat_tests, same) in here))

    pub rest_images : (f : ℕ) (name : DiskName) (bytes : List ℕ) → is_chunk_of space name ≡ false → images_of disk new f name bytes → images_of disk old f name bytes
    rest_images f Cat bytes isnt image = subst (λ (s : Site D). images_of disk s f Cat bytes) others image
    rest_images f Spare bytes isnt image = subst (λ (s : Site D). images_of disk s f Spare bytes) others image
    rest_images f Boot bytes isnt image = subst (λ (s : Site D). images_of disk s f Boot bytes) others image
    rest_images f Log bytes isnt image = subst (λ (s : Site D). images_of disk s f Log bytes) others image
    rest_images f (Volume n) bytes isnt image = subst (λ (s : Site D). images_of disk s f (Volume n) bytes) others image
    rest_images f (Chunk n) bytes isnt image =
        subst (λ (o : Option (Lane D)). image_or disk (option_map disk_of o) f bytes) (other_there n (other_of n isnt)) image

    pub rest_written : (name : DiskName) → is_chunk_of space name ≡ false → written_on disk new name ≤ written_on disk old name
    rest_written Cat isnt = subst (λ (s : Site D). written_on disk s Cat ≤ written_on disk old Cat) (sym others) (omega arith)
    rest_written Spare isnt = subst (λ (s : Site D). written_on disk s Spare ≤ written_on disk old Spare) (sym others) (omega arith)
    rest_written Boot isnt = subst (λ (s : Site D). written_on disk s Boot ≤ written_on disk old Boot) (sym others) (omega arith)
    rest_written Log isnt = subst (λ (s : Site D). written_on disk s Log ≤ written_on disk old Log) (sym others) (omega arith)
    rest_written (Volume n) isnt = subst (λ (s : Site D). written_on disk s (Volume n) ≤ written_on disk old (Volume n)) (sym others) (omega arith)
    rest_written (Chunk n) isnt =
        subst (λ (o : Option (Lane D)). written_or disk (option_map disk_of o) ≤ written_on disk old (Chunk n)) (sym (other_there n (other_of n isnt))) (omega arith)

    -- no count of faults falls
    pub later_one : (disk.ledger (disk_of was)).faults ≤ (disk.ledger (disk_of is)).faults → (name : DiskName) → faults_on disk old name ≤ faults_on disk new name
    later_one le Cat = subst (λ (s : Site D). faults_on disk old Cat ≤ faults_on disk s Cat) (sym others) (omega arith)
    later_one le Spare = subst (λ (s : Site D). faults_on disk old Spare ≤ faults_on disk s Spare) (sym others) (omega arith)
    later_one le Boot = subst (λ (s : Site D). faults_on disk old Boot ≤ faults_on disk s Boot) (sym others) (omega arith)
    later_one le Log = subst (λ (s : Site D). faults_on disk old Log ≤ faults_on disk s Log) (sym others) (omega arith)
    later_one le (Volume n) = subst (λ (s : Site D). faults_on disk old (Volume n) ≤ faults_on disk s (Volume n)) (sym others) (omega arith)
    later_one le (Chunk n) = ⊎_elim
        (λ same. subst (λ (k : ℕ). faults_on disk old (Chunk k) ≤ faults_on disk new (Chunk k)) (sym same)
        (subst (λ (o : Option (Lane D)). faults_or disk (option_map disk_of o) ≤ faults_on disk new (Chunk space)) (sym there)
        (subst (λ (o : Option (Lane D)). (disk.ledger (disk_of was)).faults ≤ faults_or disk (option_map disk_of o)) (sym is_there) le)))
        (λ other. subst (λ (o : Option (Lane D)). faults_on disk old (Chunk n) ≤ faults_or disk (option_map disk_of o)) (sym (other_there n other)) (omega arith))
        (cases_eq n space)

    -- the one that is told as failed rose
    pub rose_one : Rose (disk.ledger (disk_of was)).faults (disk.ledger (disk_of is)).faults → Rose (faults_on disk old (Chunk space)) (faults_on disk new (Chunk space))
    rose_one rose =
        subst (λ (o : Option (Lane D)). Rose (faults_or disk (option_map disk_of o)) (faults_on disk new (Chunk space))) (sym there)
        (subst (λ (o : Option (Lane D)). Rose (disk.ledger (disk_of was)).faults (faults_or disk (option_map disk_of o))) (sym is_there) rose)

    -- all disks may be used in the era still
    pub may_one : (era : EraView) → MayUse era (disk.ledger (disk_of is)) → MayUseAll disk era old → MayUseAll disk era new
    may_one era used may Cat = subst (λ (s : Site D). MayUse era (disk.ledger (cat_of s.store.cat))) (sym others) (may Cat)
    may_one era used may Spare = subst (λ (s : Site D). MayUse era (disk.ledger (spare_of s.store.cat))) (sym others) (may Spare)
    may_one era used may Boot = subst (λ (s : Site D). MayUse era (disk.ledger (boot_disk s.boot))) (sym others) (may Boot)
    may_one era used may Log = subst (λ (s : Site D). MayUse era (disk.ledger (log_disk s.log))) (sym others) (may Log)
    may_one era used may (Volume n) = subst (λ (s : Site D). may_or disk era (option_map volume_disk (slice_get s.store.volumes.items n))) (sym others) (may (Volume n))
    may_one era used may (Chunk n) = ⊎_elim
        (λ same. subst (λ (k : ℕ). may_or disk era (option_map disk_of (slice_get new.lanes.items k))) (sym same)
        (subst (λ (o : Option (Lane D)). may_or disk era (option_map disk_of o)) (sym is_there) used))
        (λ other. subst (λ (o : Option (Lane D)). may_or disk era (option_map disk_of o)) (sym (other_there n other)) (may (Chunk n)))
        (cases_eq n space)

    -- the values are made as they were
    pub made_one : (IsMadeAt space was → IsMadeAt space is) → IsMadeSite old → IsMadeSite new
    made_one own made = record {
      store = subst (λ (s : Site D). IsMadeStore s.store) (sym others) made.store;
      boot = subst (λ (s : Site D). IsMadeBoot s.boot) (sym others) made.boot;
      log = subst (λ (s : Site D). IsMadeLog s.log) (sym others) made.log;
      count = as_many ∙ made.count;
      lanes = λ n lane here. ⊎_elim
          (λ same. subst (λ (k : ℕ). IsMadeAt k lane) (sym same)
          (subst (IsMadeAt space) (same_Some is lane (sym is_there ∙ ap (slice_get new.lanes.items) (sym same) ∙ here)) (own (made.lanes space was there))))
          (λ other. made.lanes n lane (sym (other_there n other) ∙ here))
          (cases_eq n space);
    }

    pub counted_one : count_of is ≡ count_of was → (count : ℕ) → OfEach (λ place lane. place ≡ space → count_of lane ≡ count) old.lanes.items
        → OfEach (λ place lane. place ≡ space → count_of lane ≡ count) new.lanes.items
    counted_one same count each n lane here at =
        ap count_of (same_Some lane is (sym here ∙ ap (slice_get new.lanes.items) at ∙ is_there)) ∙ same ∙ each space was there refl

    named_one : (name : DiskName) → is_chunk_of space name ≡ true → name ≡ Chunk space
    named_one Cat here = absurd (false≢true here)
    named_one Spare here = absurd (false≢true here)
    named_one Boot here = absurd (false≢true here)
    named_one Log here = absurd (false≢true here)
    named_one (Volume n) here = absurd (false≢true here)
    named_one (Chunk n) here = let same : n ≡ space = grind (arith, nat_tests, here) in ap Chunk same

    -- where nothing is written on its disk, nothing is
    pub quiet_one : ((f : ℕ) (bytes : List ℕ) → disk.image (disk_of is) f bytes → disk.image (disk_of was) f bytes)
        → (disk.ledger (disk_of is)).written ≤ (disk.ledger (disk_of was)).written → IsQuiet disk old new
    quiet_one none le = record {
      images = λ f name bytes image. elim (cases_Bool (is_chunk_of space name)) [
        | inr isnt ↦
            rest_images f name bytes isnt image
        | inl here ↦
            let same = named_one name here in
            subst (λ (n : DiskName). images_of disk old f n bytes) (sym same)
            (subst (λ (o : Option (Lane D)). image_or disk (option_map disk_of o) f bytes) (sym there)
            (none f bytes (subst (λ (o : Option (Lane D)). image_or disk (option_map disk_of o) f bytes) is_there (subst (λ (n : DiskName). images_of disk new f n bytes) same image))))
      ];
      written = λ name. elim (cases_Bool (is_chunk_of space name)) [
        | inr isnt ↦
            rest_written name isnt
        | inl here ↦
            subst (λ (n : DiskName). written_on disk new n ≤ written_on disk old n) (sym (named_one name here))
            (subst (λ (o : Option (Lane D)). written_on disk new (Chunk space) ≤ written_or disk (option_map disk_of o)) (sym there)
            (subst (λ (o : Option (Lane D)). written_or disk (option_map disk_of o) ≤ (disk.ledger (disk_of was)).written) (sym is_there) le))
      ];
    }
