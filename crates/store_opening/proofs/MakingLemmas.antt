-- Volumes that are made one after another.
use Rattle.std.proofs.Common.{◌≡◌, ℕ, zero, suc, List, [], ◌∷◌, ◌++◌, length, Some, subst}
use Rattle.std.specs.Prelude.{slice_get}
use Rattle.object_volume.specs.declared.volume.Volume.{Volume}
use Rattle.object_store.specs.Stores.{OfEach}

module _ {D : Type 0} where
  -- one more behind the others
  pub each_push : (R : ℕ → Volume D → Type 0) (xs : List (Volume D)) (x : Volume D) → OfEach R xs → R (length xs) x → OfEach R (xs ++ x ∷ [])
  each_push R [] x each is zero v there = let e : x ≡ v = cc in subst (R 0) e is
  each_push R [] x each is (suc place) v there = absurd (nothing there)
    where
      nothing : slice_get [] place ≡ Some v → ⊥
      nothing there = cc
  each_push R (y ∷ xs) x each is zero v there = each zero v there
  each_push R (y ∷ xs) x each is (suc place) v there = each_push (λ (p : ℕ) (w : Volume D). R (suc p) w) xs x (λ p w at. each (suc p) w at) is place v there
