-- Laws of disks that grow.
use Rattle.std.specs.Prelude.{◌≡◌, ℕ, ◌+◌, ◌-◌, ◌≤◌, min, List, length}
use Rattle.std.proofs.Common.{arith, inl, inr, refl, sym, subst, ⊎_elim}
use Rattle.std.proofs.lemmas.Bool.{cases_order}
use Rattle.site_disk.specs.Bytes.{Same, Torn}
use Rattle.site_disk.specs.Images.{Leaves}
use Rattle.site_disk.specs.ImagesLaws.{begins}
use Rattle.walk_trials.specs.Trials.{Grows, IsBetween}

-- a disk on which nothing was done yet
pub grows_still : (era n goal : ℕ) (images : ℕ → List ℕ → Type 0) → Grows era n goal images images
grows_still era n goal images = record {
  earlier = λ f bytes lt image. image;
  between = λ all f bytes le image. let is = all f bytes le image in record { no_lower = omega (arith, is); no_higher = omega (arith, is) };
}

-- a call that makes steps after one in which the disk has grown
pub grows_on : (era n goal : ℕ) (step : List ℕ → List ℕ → Type 0) (old mid new : ℕ → List ℕ → Type 0)
    → Grows era n goal old mid → Leaves era step mid new
    → ((before bytes : List ℕ) → IsBetween n goal (length before) → step before bytes → IsBetween n goal (length bytes))
    → Grows era n goal old new
grows_on era n goal step old mid new first leaves steps = record {
  earlier = λ f bytes lt image. first.earlier f bytes lt (leaves.earlier f bytes lt image);
  between = λ all f bytes le image. elim (cases_order era f) [
    | inl same ↦ at_era all bytes (subst (λ (g : ℕ). new g bytes) (sym same) image)
    | inr (inl later) ↦ let from = leaves.later f bytes later image in steps from.0 bytes (first.between all f from.0 le from.1) from.2
    | inr (inr earlier) ↦ absurd (omega (arith, le, earlier))
  ];
}
  where
    at_era : ((f : ℕ) (bytes : List ℕ) → era ≤ f → old f bytes → length bytes ≡ n) → (bytes : List ℕ) → new era bytes → IsBetween n goal (length bytes)
    at_era all bytes image = ⊎_elim
        (λ was. first.between all era bytes (omega arith) was)
        (λ from. steps from.0 bytes (first.between all (era + 1) from.0 (omega arith) from.1) from.2)
        (leaves.during bytes image)

-- a sync
pub grows_synced : (era n goal : ℕ) (old mid new : ℕ → List ℕ → Type 0) → Grows era n goal old mid → Leaves era Same mid new → Grows era n goal old new
grows_synced era n goal old mid new first leaves =
    grows_on era n goal Same old mid new first leaves (λ before bytes is same. subst (λ (l : List ℕ). IsBetween n goal (length l)) (sym same) is)

-- nothing was written
pub stays_still : (era : ℕ) (images : ℕ → List ℕ → Type 0) → Leaves era Same images images
stays_still era images = begins Same Same era images images images (λ bytes. refl)

-- a write up to the goal
pub grows_written : (era n goal : ℕ) (old new : ℕ → List ℕ → Type 0) → Leaves era (Torn (min goal n) (goal - min goal n)) old new → Grows era n goal old new
grows_written era n goal old new leaves =
    grows_on era n goal (Torn (min goal n) (goal - min goal n)) old old new (grows_still era n goal old) leaves
    (λ before bytes is torn. record { no_lower = omega (arith, is.no_lower, torn.no_shorter); no_higher = omega (arith, is.no_higher, torn.no_longer) })
