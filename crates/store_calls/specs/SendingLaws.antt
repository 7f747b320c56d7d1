-- Sends one after another in an era, and what stands behind them.
use Rattle.std.specs.Prelude.{◌≡◌, ℕ, ◌<◌, ◌≤◌, List, [], ◌∷◌, length, slice_get, Some}
use Rattle.std.specs.List.{AllByRecursion}
use Rattle.std.proofs.Common.{arith, sym, ap, subst, ◌∙◌}
use Rattle.site_disk.specs.Images.{OnlyAfter}
use Rattle.site_disk.specs.ImagesLaws.{goes_on}
use Rattle.site_disk.specs.declared.disk.Disk.{Ghosts}
use Rattle.block_chain.specs.Blocks.{times}
use Rattle.catalogue_journal.specs.Transactions.{Addition, object_with}
use Rattle.object_volume.specs.Objects.{Spares, object}
use Rattle.object_volume.specs.Volumes.{disk_of, open_blocks}
use Rattle.object_volume.specs.declared.volume.Volume.{Volume}
use Rattle.object_store.specs.Stores.{OfEach}
use Rattle.site_layouts.specs.VolumeLaws.{IsSentTo}
use Rattle.bsa_session.specs.Sessions.{LeavesOpen}
use Rattle.store_calls.specs.Transactions.{WritesFree}

-- each of these blocks is one of those
abbrev AreAmong : List ℕ → List ℕ → Type 0
AreAmong blocks others = (block : ℕ) → 0 < times block blocks → 0 < times block others

spares_again : (blocks more : List ℕ) (limit long : ℕ) (old mid new : List ℕ) → AreAmong more blocks → limit ≤ long → Spares blocks limit old mid → Spares more long mid new
    → Spares blocks limit old new
spares_again blocks more limit long old mid new among le first second = record {
  kept = λ at lt away. second.kept at (omega (arith, lt, le)) (λ block some. away block (among block some)) ∙ first.kept at lt away;
  no_shorter = (let a = first.no_shorter in let b = second.no_shorter in omega arith);
}

module _ {D : Type 0} (disk : Ghosts D) where
  -- So sends one after another in an era write what was free before the first.
  pub writes_again : (from : ℕ) (was mid is : Volume D) → LeavesOpen disk.bytes was mid → WritesFree disk from was mid → WritesFree disk from mid is → WritesFree disk from was is
  writes_again from was mid is leaves first second =
      goes_on (Spares (open_blocks was) (length (disk.bytes (disk_of was)))) (Spares (open_blocks mid) (length (disk.bytes (disk_of mid)))) from
      (disk.image (disk_of was)) (disk.image (disk_of mid)) (disk.image (disk_of is)) first second
      (λ f d c lt image step. let before = first.later f d lt image in (
        before.0,
        before.1,
        spares_again (open_blocks was) (open_blocks mid) (length (disk.bytes (disk_of was))) (length (disk.bytes (disk_of mid))) before.0 d c
            leaves.among leaves.no_shorter before.2 step,
      ))

  -- An object that was ended in an era, and reads as its bytes, does so in each image of later eras, of the volume that it stands on.
  pub one_is_sent : (from e copy : ℕ) (addition : Addition) (message : List ℕ) (volumes : List (Volume D)) → from < e
      → ((volume : Volume D) → slice_get volumes addition.volume ≡ Some volume
      → (object addition.runs addition.size (disk.bytes (disk_of volume)) ≡ message) × OnlyAfter from (disk.bytes (disk_of volume)) (disk.image (disk_of volume)))
      → OfEach (λ place volume. (f : ℕ) (bytes : List ℕ) → e ≤ f → disk.image (disk_of volume) f bytes
      → AllByRecursion (IsSentTo place bytes) (record { object = object_with copy addition; bytes = message } ∷ [])) volumes
  one_is_sent from e copy addition message volumes lt reads place volume there f bytes le image = (
    λ here. let it = reads volume (subst (λ (n : ℕ). slice_get volumes n ≡ Some volume) (sym here) there) in
        ap (λ (b : List ℕ). object addition.runs addition.size b) (it.1 f bytes (omega (arith, lt, le)) image) ∙ it.0,
    tt,
  )
