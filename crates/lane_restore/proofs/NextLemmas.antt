-- The image of a job that is merged next.
use Rattle.std.specs.Prelude.{◌==◌, if◌then◌else◌, None, Some}
use Rattle.std.proofs.Common.{◌≡◌, ℕ, zero, suc, ◌<◌, List, [], ◌∷◌, get_or, Bool, true, false, refl, arith, ap, sym, subst, ◌∙◌}
use Rattle.std.proofs.lemmas.Bool.Decides.{nat_tests}
use Rattle.std.proofs.lemmas.Option.{same_Some}
use Rattle.backup_lines.specs.declared.lanes.Chain.{Chain}
use Rattle.backup_lines.specs.declared.lanes.LaneState.{LaneState}
use Rattle.backup_lines.specs.declared.lanes.LaneState.TheVariants.{At, Blank, Image, Replay}
use Rattle.lane_mark.specs.Layout.{FitsChain, FitsState}
use Rattle.lane_restore.specs.declared.job.ImageJob.{ImageJob}
use Rattle.lane_restore.specs.Jobs.{HasNone, IsFirstAt, IsNext, IsOf, amid, amid_of, image_of}
use Rattle.lane_restore.proofs.StepLemmas.{same_amid}

image_here : (level : ℕ) (image : ImageJob) (images : List ImageJob) → image.head.level ≡ level → image_of level (image ∷ images) ≡ Some image
image_here level image images is = by (image.head.level == level) (grind (arith, nat_tests, is))
  where
    by : (b : Bool) → b ≡ true → (if b then Some image else image_of level images) ≡ Some image
    by true is = refl
    by false is = absurd (let no : ⊥ = cc in no)

image_later : (level : ℕ) (image : ImageJob) (images : List ImageJob) → (image.head.level ≡ level → ⊥) → image_of level (image ∷ images) ≡ image_of level images
image_later level image images isnt = by (image.head.level == level) (grind (arith, nat_tests, isnt))
  where
    by : (b : Bool) → b ≡ false → (if b then Some image else image_of level images) ≡ image_of level images
    by true is = absurd (let no : ⊥ = cc in no)
    by false is = refl

-- the first of a level is found at its place
pub first_is : (level : ℕ) (images : List ImageJob) (place : ℕ) (d : ImageJob) → IsFirstAt level images place → image_of level images ≡ Some (get_or images place d)
first_is level [] place d is = absurd (omega (arith, is.0))
first_is level (image ∷ images) zero d is = image_here level image images (is.1 d)
first_is level (image ∷ images) (suc place) d is =
    image_later level image images (is.2 0 d (omega arith))
    ∙ first_is level images place d (omega (arith, is.0), (λ e. is.1 e), (λ k e lt. is.2 (suc k) e (omega (arith, lt))))

pub none_is : (level : ℕ) (images : List ImageJob) → HasNone level images → image_of level images ≡ None
none_is level [] none = refl
none_is level (image ∷ images) none =
    image_later level image images (none 0 image (omega arith)) ∙ none_is level images (λ k d lt. none (suc k) d (omega (arith, lt)))

-- it is one of the chain's
pub level_below : (restore : ℕ) (chain : Chain) (state : LaneState) (level entries : ℕ) → amid_of state ≡ Some (amid level entries) → IsOf restore chain state → FitsState state
    → FitsChain chain → level < chain.len
level_below restore chain (At upto part) level entries is of fits has = absurd of
level_below restore chain (Blank number) level entries is of fits has = omega (arith, (same_amid 0 0 level entries is).0, has.some)
level_below restore chain (Image number other image n) level entries is of fits has =
    omega (arith, (same_amid image n level entries is).0, fits.2.within, ap (λ (c : Chain). c.len) of.1)
level_below restore chain (Replay number other upto part) level entries is of fits has = absurd (let no : ⊥ = cc in no)

-- what holds of the next image holds of each that is next
pub of_next : (state : LaneState) (images : List ImageJob) (own : ImageJob) (at begun : ℕ) (P : ImageJob → (level entries : ℕ) → Type 0) → amid_of state ≡ Some (amid at begun)
    → image_of at images ≡ Some own → P own at begun → (level entries : ℕ) (image : ImageJob) → IsNext state images level entries image → P image level entries
of_next state images own at begun P is chosen holds level entries image next =
    let same = same_amid at begun level entries (sym is ∙ next.place) in
    let found : own ≡ image = same_Some own image (sym chosen ∙ ap (λ (l : ℕ). image_of l images) same.0 ∙ next.chosen) in
    subst (λ (n : ℕ). P image level n) same.1 (subst (λ (l : ℕ). P image l begun) same.0 (subst (λ (i : ImageJob). P i at begun) found holds))
