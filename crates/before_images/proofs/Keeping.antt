-- What a stop within `save` leaves, by what it leaves of the region's parts.
use Rattle.std.proofs.Common.{◌+◌, ◌≤◌, ℕ, List, length, arith, ap, ◌∙◌, refl, inl}
use Rattle.site_disk.specs.Images.{Leaves, Unchanged}
use Rattle.site_disk.specs.ImagesLaws.{weaker}
use Rattle.site_disk.specs.BytesLaws.{length-extent}
use Rattle.site_disk.specs.Gates.{GateStands}
use Rattle.before_images.specs.Saved.{Lie, MaySave, region_of, MayFillAndOpen, Within}
use Rattle.before_images.specs.RegionLaws.{Fits, may_save}

-- pages that lie within the bytes stand behind the whole region
pub within : (base pages_at : ℕ) (pages bytes : List ℕ) → 1 ≤ length pages → base + 69632 ≤ pages_at → Lie pages_at pages bytes → base + 69632 ≤ length bytes
within base pages_at pages bytes some apart lie = omega (arith, lie 0 (omega (arith, some)), apart)

pub crash : (base pages_at upto part e last : ℕ) (pages bytes : List ℕ) (old new : ℕ → List ℕ → Type 0) → Fits upto part pages → base + 69632 ≤ length bytes → last ≤ e
    → GateStands base last bytes old → Leaves e (MayFillAndOpen base (region_of pages_at upto part pages bytes) bytes) old new → Leaves e (MaySave base pages_at upto part pages) old new
crash base pages_at upto part e last pages bytes old new fit within le stands l =
    weaker (MaySave base pages_at upto part pages) (MayFillAndOpen base (region_of pages_at upto part pages bytes) bytes) e old old new l
    (λ f d c lt image may. may_save base pages_at upto part pages d
    (ap (λ (l : List ℕ). length l) (stands f d (omega (arith, le, lt)) image) ∙ length-extent base 1 bytes (omega (arith, within))) bytes c fit within may)

-- a call that changed no image
pub nothing_left : (R : List ℕ → List ℕ → Type 0) (e : ℕ) (old new : ℕ → List ℕ → Type 0) → Unchanged old new → ((c : List ℕ) → R c c) → Leaves e R old new
nothing_left R e old new same reflexive = record {
  earlier = λ f c lt image. same.back f c image;
  during = λ c image. inl (same.back e c image);
  later = λ f c lt image. (c, same.back f c image, reflexive c);
}

pub within_same : (pages_at limit : ℕ) (pages bytes : List ℕ) → Within pages_at limit pages bytes bytes
within_same pages_at limit pages bytes = record { elsewhere = λ from len out. refl; no_shorter = omega arith; no_longer = omega arith }
