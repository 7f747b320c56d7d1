-- Laws of gates, for the layers above.
use Rattle.std.specs.Prelude.{◌≡◌, ◌⊎◌, ℕ, zero, suc, ◌≤◌, List, [], ◌∷◌, length, Option, None, refl}
use mathlib.Core.Logic.{inl, inr}
use Rattle.std.proofs.Common.{arith, ap, sym, subst, ◌∙◌}
use Rattle.site_disk.specs.Bytes.{extent, Torn, Same}
use Rattle.site_disk.specs.BytesLaws.{torn_none, extent-written, written-same}
use Rattle.site_disk.specs.Gates.{IsShut, behind, shut, GateIsSynced, MayShut, ComeShut, MayFill}
use Rattle.site_disk.specs.Images.{Seen, IsSynced, Leaves, Unchanged}
use Rattle.site_disk.specs.ImagesLaws.{weaker, goes_on}

-- a closed gate that is closed
pub shut-closed : (gate : ℕ) (bytes : List ℕ) → IsShut gate bytes → shut gate bytes ≡ bytes
shut-closed gate bytes closed = written-same gate (0 ∷ []) bytes closed

pub is_shut : (gate : ℕ) (bytes : List ℕ) → gate ≤ length bytes → IsShut gate (shut gate bytes)
is_shut gate bytes within = extent-written gate (0 ∷ []) bytes within

-- after a sync each later image has the gate that a read gives
pub gate_synced : (gate : ℕ) (disk : Seen) → IsSynced disk → GateIsSynced gate disk
gate_synced gate disk synced = λ f c lt image. ap (λ (l : List ℕ). extent gate 1 l) (synced f c lt image)

-- and reads leave it so
pub gate_still : (gate : ℕ) (old new : Seen) → old.last ≤ new.last → GateIsSynced gate old → new.bytes ≡ old.bytes → Unchanged old.images new.images → GateIsSynced gate new
gate_still gate old new le stands same images =
    λ f c lt image. stands f c (omega (arith, le, lt)) (images.back f c image) ∙ ap (λ (l : List ℕ). extent gate 1 l) (sym same)

-- nothing done yet
pub may_shut_same : (gate : ℕ) (old new : List ℕ) → Same old new → MayShut gate old new
may_shut_same gate old new same = record { torn = subst (λ (l : List ℕ). Torn gate 1 old l) (sym same) (torn_none gate 1 old); kept = λ closed. same }

-- the closing, and then writes in a range
pub fills : (gate at n e : ℕ) (old mid new : ℕ → List ℕ → Type 0) → Leaves e (MayShut gate) old mid → ComeShut gate e old mid
    → Leaves e (Torn at n) mid new → Leaves e (MayFill gate at n) old new
fills gate at n e old mid new first come second =
    goes_on (MayFill gate at n) (Torn at n) e old mid new (weaker (MayFill gate at n) (MayShut gate) e old old mid first (λ f d c lt image may. inl may)) second
    (λ f d c lt image torn. let was = come f d lt image in (was.0, was.1, inr (subst (λ (l : List ℕ). Torn at n l c) was.2 torn)))

-- whatever the gate's byte, all counts or nothing
pub behind_any : {A : Type 0} (gate : List ℕ) (it : Option A) → (behind gate it ≡ None) ⊎ (behind gate it ≡ it)
behind_any [] it = inl refl
behind_any (zero ∷ more) it = inl refl
behind_any (suc gate ∷ more) it = inr refl

-- another byte as a gate that may be torn only where it isn't closed
pub behind_torn : {A : Type 0} (was gate : List ℕ) (it : Option A) → length was ≡ 1 → (was ≡ 0 ∷ [] → gate ≡ was) → (behind gate it ≡ None) ⊎ (behind gate it ≡ behind was it)
behind_torn [] gate it one kept = absurd (omega (arith, one))
behind_torn (zero ∷ []) gate it one kept = inr (ap (λ (g : List ℕ). behind g it) (kept refl))
behind_torn (zero ∷ more ∷ rest) gate it one kept = absurd (omega (arith, one))
behind_torn (suc was ∷ more) gate it one kept = behind_any gate it
