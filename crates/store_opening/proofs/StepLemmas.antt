-- A call over the catalogue, then over all volumes.
use Rattle.std.proofs.Common.{◌≡◌, ℕ, List, Result, Ok, Err, refl, sym, subst, arith}
use Rattle.std.specs.Prelude.{MatchResult, OnOk, IfErr}
use Rattle.site_disk.specs.Bytes.{Same}
use Rattle.site_disk.specs.CallsLaws.{uses_nothing, uses_more}
use Rattle.site_disk.specs.Causes.{Rose}
use Rattle.site_disk.specs.ImagesLaws.{begins}
use Rattle.site_disk.specs.Ledger.{EraView, Ledger, MayUse, Uses}
use Rattle.object_volume.specs.Volumes.{disk_of}
use Rattle.object_volume.specs.declared.volume.Volume.{Volume}
use Rattle.object_store.specs.Stores.{OfEach}
use Rattle.catalogue_journal.specs.Catalogues.{cat_of, spare_of}
use Rattle.catalogue_journal.specs.declared.catalogue.Catalogue.{Catalogue}
use Rattle.object_store.specs.declared.store.Store.{Store}
use Rattle.store_opening.specs.Disks.{EachDisk, EachFrom, OneFrom, StopsAt, HasRisen, UsesStore, WritesNothing}
use Rattle.store_opening.specs.declared.faults.StoreDisk.TheVariants.{Volume as VolumeOf}
use Rattle.store_opening.specs.declared.faults.StoreFault.TheVariants.{DiskFault}
use Rattle.store_opening.specs.declared.faults.StoreFault.{StoreFault}
use Rattle.store_opening.proofs.LoopLemmas.{each_means, stops_each}

-- ---- results

pub on_ok_of : {T E A P : Type 0} (B : E → Type 0) (result : Result T E) → MatchResult result (λ _. A) B → (A → P) → OnOk result P
on_ok_of B (Ok x) is means = means is
on_ok_of B (Err e) is means = tt

pub if_err_of : {T E : Type 0} (A : Type 0) {B : E → Type 0} {Q : E → Type 0} (result : Result T E) → MatchResult result (λ _. A) B → ((e : E) → B e → Q e) → IfErr result Q
if_err_of A (Ok x) is means = tt
if_err_of A (Err e) is means = means e is

module _ {T E A : Type 0} {B : E → Type 0} where
  pub either_of : {W : Type 0} (result : Result T E) → MatchResult result (λ _. A) B → (A → W) → ((e : E) → B e → W) → W
  either_of (Ok x) is means other = means is
  either_of (Err e) is means other = other e is

  pub match_means : {C : Type 0} {F : E → Type 0} (result : Result T E) → MatchResult result (λ _. A) B → (A → C) → ((e : E) → B e → F e) → MatchResult result (λ _. C) F
  match_means (Ok x) is means other = means is
  match_means (Err e) is means other = other e is

-- ---- volumes

module _ {D : Type 0} where
  -- what is true of each volume that was gone over, of the one where it stopped, and of each that wasn't gone over
  pub each_or_stops : {T : Type 0} (P : ℕ → Volume D → Volume D → Type 0) (Q : ℕ → StoreFault → Volume D → Volume D → Type 0) (W : ℕ → Volume D → Volume D → Type 0)
      (old new : List (Volume D)) (result : Result T StoreFault) → MatchResult result (λ _. EachFrom P old new) (λ fault. StopsAt P Q fault old new)
      → ((place : ℕ) (was is : Volume D) → P place was is → W place was is) → ((fault : StoreFault) (place : ℕ) (was is : Volume D) → Q place fault was is → W place was is)
      → OfEach (λ place volume. W place volume volume) old → EachFrom W old new
  each_or_stops P Q W old new result is done missed same =
      either_of result is (λ (from : EachFrom P old new). each_means P W old new done from)
      (λ (fault : StoreFault) (stopped : StopsAt P Q fault old new). stops_each P Q fault old new stopped W done (missed fault) same)

  pub one_means : (P R : Volume D → Volume D → Type 0) (place : ℕ) (old new : List (Volume D)) → ((was is : Volume D) → P was is → R was is) → OneFrom P place old new → OneFrom R place old new
  one_means P R place old new means one = record { was = one.was; is = one.is; there = one.there; behind = one.behind; by = means one.was one.is one.by }

  -- a disk that isn't used
  pub writes_nothing : (image : D → ℕ → List ℕ → Type 0) (era : EraView) (disk : D) → WritesNothing image era disk disk
  writes_nothing image era disk = begins Same Same era.number (image disk) (image disk) (image disk) (λ c. refl)

  pub uses_none : (ledger : D → Ledger) (era : EraView) (reads writes : ℕ) (disk : D) → MayUse era (ledger disk) → Uses era reads writes (ledger disk) (ledger disk)
  uses_none ledger era reads writes disk may = uses_more (uses_nothing may) (omega arith) (omega arith)

  -- ---- the store

  module _ (old new : Store D) (mid : Catalogue D) (same : new.cat ≡ mid) where
    pub each_disk : (P : D → D → Type 0) → P (cat_of old.cat) (cat_of mid) → P (spare_of old.cat) (spare_of mid)
        → EachFrom (λ place was is. P (disk_of was) (disk_of is)) old.volumes.items new.volumes.items → EachDisk P old new
    each_disk P cat spare volumes = record {
      cat = subst (λ (k : Catalogue D). P (cat_of old.cat) (cat_of k)) (sym same) cat;
      spare = subst (λ (k : Catalogue D). P (spare_of old.cat) (spare_of k)) (sym same) spare;
      volumes = volumes;
    }

    pub uses_store : (ledger : D → Ledger) (era : EraView) (a b c d e f : ℕ) → Uses era a b (ledger (cat_of old.cat)) (ledger (cat_of mid)) → Uses era c d (ledger (spare_of old.cat)) (ledger (spare_of mid))
        → EachFrom (λ place was is. Uses era e f (ledger (disk_of was)) (ledger (disk_of is))) old.volumes.items new.volumes.items → UsesStore ledger era a b c d e f old new
    uses_store ledger era a b c d e f cat spare volumes = record {
      cat = subst (λ (k : Catalogue D). Uses era a b (ledger (cat_of old.cat)) (ledger (cat_of k))) (sym same) cat;
      spare = subst (λ (k : Catalogue D). Uses era c d (ledger (spare_of old.cat)) (ledger (spare_of k))) (sym same) spare;
      volumes = volumes;
    }

  -- the failure of a volume
  pub risen_at : (ledger : D → Ledger) (old new : Store D) (number : ℕ) (fault : StoreFault) → fault ≡ DiskFault (VolumeOf number)
      → OneFrom (λ was is. Rose (ledger (disk_of was)).faults (ledger (disk_of is)).faults) number old.volumes.items new.volumes.items → HasRisen ledger old new fault
  risen_at ledger old new number fault own one = subst (HasRisen ledger old new) (sym own) one
