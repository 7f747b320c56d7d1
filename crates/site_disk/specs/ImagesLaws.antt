-- Laws of crash images, for the layers above.
use Rattle.std.specs.Prelude.{ℕ, ◌+◌, ◌<◌, List}
use mathlib.Core.Logic.{inl, inr}
use Rattle.std.proofs.Common.{arith, subst, sym, ⊎_elim}
use Rattle.std.proofs.lemmas.Bool.{cases_order}
use Rattle.site_disk.specs.Bytes.{Same}
use Rattle.site_disk.specs.Images.{Leaves}

module _ (R T : List ℕ → List ℕ → Type 0) (e : ℕ) (old mid new : ℕ → List ℕ → Type 0) where
  -- a call that has done nothing yet
  pub begins : ((c : List ℕ) → R c c) → Leaves e R old old
  begins reflexive = record {
    earlier = λ f c lt image. image;
    during = λ c image. inl image;
    later = λ f c lt image. (c, image, reflexive c);
  }

  -- a step that means less
  pub weaker : Leaves e T old new → ((f : ℕ) (d c : List ℕ) → e < f → old f d → T d c → R d c) → Leaves e R old new
  weaker l means = record {
    earlier = l.earlier;
    during = λ c image. ⊎_elim (λ was. inl was) (λ step. inr (step.0, step.1, means (e + 1) step.0 c (omega arith) step.1 step.2)) (l.during c image);
    later = λ f c lt image. let from = l.later f c lt image in (from.0, from.1, means f from.0 c lt from.1 from.2);
  }

  -- one call after another in the same era
  pub goes_on : Leaves e R old mid → Leaves e T mid new
      → ((f : ℕ) (d c : List ℕ) → e < f → mid f d → T d c → (b : List ℕ) × old f b × R b c) → Leaves e R old new
  goes_on first second joined = record {
    earlier = λ f c lt image. first.earlier f c lt (second.earlier f c lt image);
    during = λ c image. ⊎_elim (λ was. first.during c was) (λ step. inr (joined (e + 1) step.0 c (omega arith) step.1 step.2)) (second.during c image);
    later = λ f c lt image. let from = second.later f c lt image in joined f from.0 c lt from.1 from.2;
  }

-- A call that writes nothing leaves no image that wasn't one, where what is pending is an image of the present era.
pub no_more_of : (e : ℕ) (old new : ℕ → List ℕ → Type 0) → Leaves e Same old new → ((c : List ℕ) → old (e + 1) c → old e c)
    → (f : ℕ) (c : List ℕ) → new f c → old f c
no_more_of e old new l pending f c image = elim (cases_order f e) [
  | inl same ↦ subst (λ (g : ℕ). old g c) (sym same) (at_e (subst (λ (g : ℕ). new g c) same image))
  | inr (inl before) ↦ l.earlier f c before image
  | inr (inr after) ↦ let from = l.later f c after image in subst (λ (b : List ℕ). old f b) (sym from.2) from.1
]
  where
    at_e : new e c → old e c
    at_e now = ⊎_elim (λ was. was) (λ step. pending c (subst (λ (b : List ℕ). old (e + 1) b) (sym step.2) step.1)) (l.during c now)
