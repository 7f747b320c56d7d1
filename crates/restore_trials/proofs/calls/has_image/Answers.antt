use Rattle.std.specs.Prelude.{◌==◌, if◌then◌else◌, Some, IsSome}
use Rattle.std.proofs.Common.{◌≡◌, ℕ, zero, suc, ◌<◌, List, [], ◌∷◌, length, get_or, Bool, true, false, refl, arith, ap, sym, ◌∙◌}
use Rattle.lane_restore.specs.declared.job.ImageJob.{ImageJob}
use Rattle.lane_restore.specs.Jobs.{image_of}
use Rattle.restore_trials.proofs.calls.has_image.Goals as goal

-- where one is of a level, there is a first
some_at : (level : ℕ) (images : List ImageJob) (i : ℕ) (d : ImageJob) → i < length images → (get_or images i d).head.level ≡ level → IsSome (image_of level images)
some_at level [] i d lt is = absurd (omega (arith, lt))
some_at level (image ∷ images) zero d lt is = by (image.head.level == level) (grind (arith, is))
  where
    by : (b : Bool) → b ≡ true → IsSome (if b then Some image else image_of level images)
    by true is = refl
    by false is = absurd (let no : ⊥ = cc in no)
some_at level (image ∷ images) (suc i) d lt is = by (some_at level images i d (omega (arith, lt)) is) (image.head.level == level)
  where
    by : IsSome (image_of level images) → (b : Bool) → IsSome (if b then Some image else image_of level images)
    by rest true = refl
    by rest false = rest

pub returns-then-image-level : goal.returns-then-image-level
returns-then-image-level c test =
    some_at c.args.level c.args.images.now c.loop-image.image-index c.image-item.result c.loop-image-test.true (ap (λ (i : ImageJob). i.head.level) (sym c.image-item.is) ∙ c.if-image-level.true)
