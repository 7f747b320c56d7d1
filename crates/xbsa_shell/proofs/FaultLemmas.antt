-- Which disk of a store failed.
use Rattle.std.specs.Prelude.{slice_get, IfErr, MatchResult}
use Rattle.std.specs.Option.{option_map}
use Rattle.std.proofs.Common.{◌≡◌, ◌≢◌, ◌⊎◌, ℕ, ◌+◌, ◌<◌, ◌≤◌, Bool, true, false, List, length, Option, None, Some, Result, Ok, Err, inl, inr, refl, sym, ap, ◌∙◌, subst, arith}
use Rattle.std.proofs.lemmas.Bool.{cases_eq}
use Rattle.std.proofs.lemmas.Option.{slice_get_within}
use Rattle.site_disk.specs.Causes.{Rose}
use Rattle.site_disk.specs.Ledger.{EraView, Ledger, Uses}
use Rattle.site_disk.specs.declared.disk.Disk.{Ghosts}
use Rattle.catalogue_journal.specs.Catalogues.{cat_of, spare_of}
use Rattle.catalogue_journal.specs.declared.catalogue.Catalogue.{Catalogue}
use Rattle.object_volume.specs.Volumes.{disk_of}
use Rattle.object_volume.specs.declared.volume.Volume.{Volume as VolumeOf}
use Rattle.object_store.specs.Reading.{ChangesOne}
use Rattle.object_store.specs.declared.store.Store.{Store}
use Rattle.object_store.proofs.ReturnLemmas.{slice_get-set_same, slice_get-set_other}
use Rattle.site_model.specs.declared.disk_name.DiskName.{DiskName}
use Rattle.site_model.specs.declared.disk_name.DiskName.TheVariants.{Cat, Spare, Boot, Log, Volume, Chunk}
use Rattle.xbsa_shell.specs.Faults.{disk_in, faults_in, faults_or, HasFailed, NoneFalls}

module _ {D : Type 0} (disk : Ghosts D) where
  abbrev volume_faults : Option (VolumeOf D) → ℕ
  volume_faults volume = faults_or disk (option_map (λ (v : VolumeOf D). disk_of v) volume)

  pub falls_none : (store : Store D) → NoneFalls disk store store
  falls_none store name = omega arith

  pub falls_both : (a b c : Store D) → NoneFalls disk a b → NoneFalls disk b c → NoneFalls disk a c
  falls_both a b c first second name = let x = first name in let y = second name in omega (arith, x, y)

  -- what rose over a part of the calls rose over all
  pub rose_later : (a b c : Store D) (name : DiskName) → NoneFalls disk a b → Rose (faults_in disk b name) (faults_in disk c name)
      → Rose (faults_in disk a name) (faults_in disk c name)
  rose_later a b c name first rose = let x = first name in omega (arith, x, rose)

  pub rose_sooner : (a b c : Store D) (name : DiskName) → Rose (faults_in disk a name) (faults_in disk b name) → NoneFalls disk b c
      → Rose (faults_in disk a name) (faults_in disk c name)
  rose_sooner a b c name rose second = let x = second name in omega (arith, x, rose)

  -- a call that leaves the catalogue alone, and works on one volume
  module _ (P : VolumeOf D → VolumeOf D → Type 0) (at : ℕ) (old new : Store D) (same : new.cat ≡ old.cat) (one : ChangesOne P at old.volumes.items new.volumes.items) where
    was_there : slice_get old.volumes.items at ≡ Some one.was
    was_there = one.there

    is_there : slice_get new.volumes.items at ≡ Some one.is
    is_there = ap (λ (l : List (VolumeOf D)). slice_get l at) one.changed
        ∙ slice_get-set_same old.volumes.items at one.is (slice_get_within old.volumes.items at one.was one.there)

    elsewhere : (n : ℕ) → n ≢ at → slice_get new.volumes.items n ≡ slice_get old.volumes.items n
    elsewhere n other = ap (λ (l : List (VolumeOf D)). slice_get l n) one.changed ∙ slice_get-set_other old.volumes.items n at one.is other

    pub one_falls : (P one.was one.is → (disk.ledger (disk_of one.was)).faults ≤ (disk.ledger (disk_of one.is)).faults) → NoneFalls disk old new
    one_falls kept Cat = let e = ap (λ (c : Catalogue D). (disk.ledger (cat_of c)).faults) same in omega (arith, e)
    one_falls kept Spare = let e = ap (λ (c : Catalogue D). (disk.ledger (spare_of c)).faults) same in omega (arith, e)
    one_falls kept Boot = omega arith
    one_falls kept Log = omega arith
    one_falls kept (Volume n) = elim (cases_eq n at) [
      | inl is ↦
          let before : faults_in disk old (Volume n) ≡ (disk.ledger (disk_of one.was)).faults = ap volume_faults (ap (slice_get old.volumes.items) is ∙ was_there) in
          let behind : faults_in disk new (Volume n) ≡ (disk.ledger (disk_of one.is)).faults = ap volume_faults (ap (slice_get new.volumes.items) is ∙ is_there) in
          let le = kept one.by in
          omega (arith, before, behind, le)
      | inr other ↦
          let e : faults_in disk new (Volume n) ≡ faults_in disk old (Volume n) = ap volume_faults (elsewhere n other) in
          omega (arith, e)
    ]
    one_falls kept (Chunk n) = omega arith

    pub one_rose : Rose (disk.ledger (disk_of one.was)).faults (disk.ledger (disk_of one.is)).faults → Rose (faults_in disk old (Volume at)) (faults_in disk new (Volume at))
    one_rose rose =
        let before : faults_in disk old (Volume at) ≡ (disk.ledger (disk_of one.was)).faults = ap volume_faults was_there in
        let behind : faults_in disk new (Volume at) ≡ (disk.ledger (disk_of one.is)).faults = ap volume_faults is_there in
        omega (arith, before, behind, rose)
