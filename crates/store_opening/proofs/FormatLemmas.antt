-- A store that is formatted.
use Rattle.std.proofs.Common.{◌≡◌, ℕ, IsTrue, List, inr, refl, sym, ap, subst, ◌∙◌, arith}
use Rattle.site_disk.specs.ImagesLaws.{begins}
use Rattle.site_disk.specs.Ledger.{EraView}
use Rattle.site_disk.specs.declared.disk.Disk.{Ghosts}
use Rattle.site_disk.specs.Images.{OnlyAfter}
use Rattle.site_disk.specs.Seen.{seen}
use Rattle.gated_slots.specs.Header.{StandsClosed}
use Rattle.gated_slots.specs.Slots.{used}
use Rattle.site_headers.specs.Areas.{slot_count}
use Rattle.site_headers.specs.Heads.{Head}
use Rattle.site_headers.specs.Headers.{volume_tail, spare_tail, HasHeader}
use Rattle.catalogue_replay.specs.Contents.{empty}
use Rattle.catalogue_replay.specs.Places.{area_of, NamesArea, Journals}
use Rattle.catalogue_journal.specs.Catalogues.{cat_of, spare_of, capacity_of, IsMade}
use Rattle.catalogue_journal.specs.declared.catalogue.Catalogue.{Catalogue}
use Rattle.object_volume.specs.Headers.{HasVolume, MayFormat}
use Rattle.object_volume.specs.Volumes.{disk_of, with_disk, number_of}
use Rattle.object_volume.specs.declared.volume.Volume.{Volume}
use Rattle.object_store.specs.Stores.{OfEach}
use Rattle.object_store.specs.declared.store.Store.{Store}
use Rattle.store_opening.specs.Disks.{EachFrom, IsDurable, IsMadeStore}
use Rattle.store_opening.specs.Formatting.{MayFormatVolume, FormatsVolume, IsFormattedStore}
use Rattle.store_opening.proofs.LoopLemmas.{each_now}

-- nothing is written yet
may_format_same : (tail bytes : List ℕ) → MayFormat tail bytes bytes
may_format_same tail bytes = record { header = λ is. inr (is, refl); elsewhere = λ from len le. refl; no_shorter = omega arith }

module _ {D : Type 0} where
  pub not_formatted : (disk : Ghosts D) (era : EraView) (number site blocks : ℕ) (was : D) → MayFormatVolume disk era number site blocks was was
  not_formatted disk era number site blocks was tells =
      let tail = volume_tail number site blocks in
      begins (MayFormat tail) (MayFormat tail) era.number (disk.image was) (disk.image was) (disk.image was) (may_format_same tail)

  -- volumes keep their numbers
  pub numbers_stay : (P : ℕ → Volume D → Volume D → Type 0) (old new : List (Volume D)) → EachFrom P old new → ((place : ℕ) (was is : Volume D) → P place was is → number_of is ≡ number_of was)
      → OfEach (λ place volume. number_of volume ≡ place) old → OfEach (λ place volume. number_of volume ≡ place) new
  numbers_stay P old new from same numbers = each_now P (λ place volume. number_of volume ≡ place) old new from (λ place was is there by. same place was is by ∙ numbers place was there)

  pub same_number : (was is : Volume D) → is ≡ with_disk was (disk_of is) → number_of is ≡ number_of was
  same_number was is value = ap (λ (v : Volume D). number_of v) value

  module _ (old new : Store D) (mid : Catalogue D) (same : new.cat ≡ mid) where
    pub made_still : IsMade mid → capacity_of mid ≡ capacity_of old.cat → EachFrom (λ place was is. number_of is ≡ number_of was) old.volumes.items new.volumes.items → IsMadeStore old → IsMadeStore new
    made_still made capacity from was = record {
      cat = subst IsMade (sym same) made;
      capacity = ap (λ (k : Catalogue D). capacity_of k) same ∙ capacity ∙ was.capacity;
      count = from.count ∙ was.count;
      numbers = numbers_stay (λ (place : ℕ) (was is : Volume D). number_of is ≡ number_of was) old.volumes.items new.volumes.items from (λ place was is by. by) was.numbers;
    }

    pub is_durable : (disk : Ghosts D) (era : EraView) → OnlyAfter era.number (disk.bytes (cat_of mid)) (disk.image (cat_of mid)) → OnlyAfter era.number (disk.bytes (spare_of mid)) (disk.image (spare_of mid))
        → OfEach (λ place volume. OnlyAfter era.number (disk.bytes (disk_of volume)) (disk.image (disk_of volume))) new.volumes.items → IsDurable disk era new
    is_durable disk era cat spare volumes = record {
      cat = subst (λ (k : Catalogue D). OnlyAfter era.number (disk.bytes (cat_of k)) (disk.image (cat_of k))) (sym same) cat;
      spare = subst (λ (k : Catalogue D). OnlyAfter era.number (disk.bytes (spare_of k)) (disk.image (spare_of k))) (sym same) spare;
      volumes = volumes;
    }

    pub formats : (disk : Ghosts D) (era : EraView) (head : Head) → IsTrue disk.is_modelled → capacity_of old.cat ≡ slot_count → StandsClosed (seen disk (cat_of mid)) → NamesArea (disk.bytes (cat_of mid))
        → Journals (area_of (capacity_of old.cat)) empty (disk.bytes (cat_of mid)) → used (area_of (capacity_of old.cat)) (disk.bytes (cat_of mid)) ≡ 0
        → HasHeader (spare_tail head.site) (disk.bytes (spare_of mid))
        → EachFrom (FormatsVolume disk era head.site head.blocks) old.volumes.items new.volumes.items → IsFormattedStore disk head new
    formats disk era head tells capacity closed mark journal none spare from = record {
      closed = subst (λ (k : Catalogue D). StandsClosed (seen disk (cat_of k))) (sym same) closed;
      mark = subst (λ (k : Catalogue D). NamesArea (disk.bytes (cat_of k))) (sym same) mark;
      journal = subst (λ (k : Catalogue D). Journals (area_of slot_count) empty (disk.bytes (cat_of k))) (sym same)
          (subst (λ (n : ℕ). Journals (area_of n) empty (disk.bytes (cat_of mid))) capacity journal);
      used = subst (λ (k : Catalogue D). used (area_of slot_count) (disk.bytes (cat_of k)) ≡ 0) (sym same)
          (subst (λ (n : ℕ). used (area_of n) (disk.bytes (cat_of mid)) ≡ 0) capacity none);
      spare = subst (λ (k : Catalogue D). HasHeader (spare_tail head.site) (disk.bytes (spare_of k))) (sym same) spare;
      volumes = each_now (FormatsVolume disk era head.site head.blocks) (λ place volume. HasVolume place head.site head.blocks (disk.bytes (disk_of volume))) old.volumes.items new.volumes.items from
          (λ place was is there by. by.header tells);
    }
