-- Sums over a list, of which one place changes.
use Rattle.std.proofs.Common.{◌≡◌, ◌≢◌, ℕ, zero, suc, ◌+◌, ◌<◌, ◌≤◌, if◌then◌else◌, List, [], ◌∷◌, ◌++◌, length, set, sym, refl, ap, subst, ⊎_elim, eq-eqb, ne_eqb, arith}
use mathlib.Core.Option.{none, some, some-injective, some-ne-none}
use lib.ListN.{get_elem?}
use Rattle.atomic_table.proofs.Lists.{at_set}
use Rattle.stream_board.specs.Views.{total, Each, once}

pub once_same : (i j : ℕ) → i ≡ j → once i j ≡ 1
once_same i j e = ap (λ b. if b then 1 else 0) (eq-eqb i j e)

pub once_other : (i j : ℕ) → i ≢ j → once i j ≡ 0
once_other i j n = ap (λ b. if b then 1 else 0) (ne_eqb i j n)

module _ {A : Type 0} where
  pub inside : (l : List A) (i : ℕ) (v : A) → get_elem? l i ≡ some v → i < length l
  inside [] i v e = absurd (some-ne-none v (sym e))
  inside (x ∷ xs) zero v e = omega arith
  inside (x ∷ xs) (suc i) v e = let h = inside xs i v e in omega arith

  pub outside : (l : List A) (i : ℕ) → get_elem? l i ≡ none → length l ≤ i
  outside [] i e = omega arith
  outside (x ∷ xs) zero e = absurd (some-ne-none x e)
  outside (x ∷ xs) (suc i) e = let h = outside xs i e in omega arith

  pub past : (l : List A) (i : ℕ) → length l ≤ i → get_elem? l i ≡ none
  past [] i h = refl
  past (x ∷ xs) zero h = absurd (omega arith)
  past (x ∷ xs) (suc i) h = past xs i (omega arith)

  pub there : (l : List A) (i : ℕ) → i < length l → (v : A) × (get_elem? l i ≡ some v)
  there [] i h = absurd (omega arith)
  there (x ∷ xs) zero h = (x, refl)
  there (x ∷ xs) (suc i) h = there xs i (omega arith)

  pub total-set : (f : A → ℕ) (l : List A) (i : ℕ) (v w : A) → get_elem? l i ≡ some v → total f (set l i w) + f v ≡ total f l + f w
  total-set f [] i v w e = absurd (some-ne-none v (sym e))
  total-set f (x ∷ xs) zero v w e = let h : f x ≡ f v = ap f (some-injective x v e) in omega arith
  total-set f (x ∷ xs) (suc i) v w e = let h = total-set f xs i v w e in omega arith

  pub total-append : (f : A → ℕ) (xs ys : List A) → total f (xs ++ ys) ≡ total f xs + total f ys
  total-append f [] ys = omega arith
  total-append f (x ∷ xs) ys = let h = total-append f xs ys in omega arith

  pub total-snoc : (f : A → ℕ) (xs : List A) (y : A) → total f (xs ++ y ∷ []) ≡ total f xs + f y
  total-snoc f [] y = omega arith
  total-snoc f (x ∷ xs) y = let h = total-snoc f xs y in omega arith

  pub total_least : (f : A → ℕ) (l : List A) (i : ℕ) (v : A) → get_elem? l i ≡ some v → f v ≤ total f l
  total_least f [] i v e = absurd (some-ne-none v (sym e))
  total_least f (x ∷ xs) zero v e = let h : f x ≡ f v = ap f (some-injective x v e) in omega arith
  total_least f (x ∷ xs) (suc i) v e = let h = total_least f xs i v e in omega arith

  pub total_under : (f g : A → ℕ) (l : List A) → ((k : ℕ) (u : A) → get_elem? l k ≡ some u → f u ≤ g u) → total f l ≤ total g l
  total_under f g [] h = omega arith
  total_under f g (x ∷ xs) h = let a = h 0 x refl in let b = total_under f g xs (λ k u e. h (suc k) u e) in omega arith

  pub total_most : (f : A → ℕ) (l : List A) → ((u : A) → f u ≤ 1) → total f l ≤ length l
  total_most f [] h = omega arith
  total_most f (x ∷ xs) h = let a = h x in let b = total_most f xs h in omega arith

  pub total_nothing : (f : A → ℕ) (l : List A) → ((k : ℕ) (u : A) → get_elem? l k ≡ some u → f u ≡ 0) → total f l ≡ 0
  total_nothing f [] h = refl
  total_nothing f (x ∷ xs) h = let a = h 0 x refl in let b = total_nothing f xs (λ k u e. h (suc k) u e) in omega arith

  pub total_zero : (f g : A → ℕ) (l : List A) → total g l ≡ 0 → ((k : ℕ) (u : A) → get_elem? l k ≡ some u → g u ≡ 0 → f u ≡ 0) → total f l ≡ 0
  total_zero f g [] z h = refl
  total_zero f g (x ∷ xs) z h = let a = h 0 x refl (omega arith) in let b = total_zero f g xs (omega arith) (λ k u e. h (suc k) u e) in omega arith

  -- one element has all of g, and an element that has nothing of g has nothing of f
  pub total_alone : (f g : A → ℕ) (l : List A) (i : ℕ) (v : A) → get_elem? l i ≡ some v → total g l ≡ g v
      → ((k : ℕ) (u : A) → get_elem? l k ≡ some u → g u ≡ 0 → f u ≡ 0) → total f l ≡ f v
  total_alone f g [] i v e all h = absurd (some-ne-none v (sym e))
  total_alone f g (x ∷ xs) zero v e all h =
      let a : g x ≡ g v = ap g (some-injective x v e) in
      let b : f x ≡ f v = ap f (some-injective x v e) in
      let c = total_zero f g xs (omega arith) (λ k u e. h (suc k) u e) in omega arith
  total_alone f g (x ∷ xs) (suc i) v e all h =
      let m = total_least g xs i v e in
      let a = h 0 x refl (omega arith) in
      let b = total_alone f g xs i v e (omega arith) (λ k u e. h (suc k) u e) in omega arith

  pub others_none : (g : A → ℕ) (l : List A) (i : ℕ) (v : A) → get_elem? l i ≡ some v → total g l ≡ g v
      → (k : ℕ) (u : A) → k ≢ i → get_elem? l k ≡ some u → g u ≡ 0
  others_none g [] i v e all k u n at = absurd (some-ne-none v (sym e))
  others_none g (x ∷ xs) zero v e all zero u n at = absurd (n refl)
  others_none g (x ∷ xs) zero v e all (suc k) u n at =
      let a : g x ≡ g v = ap g (some-injective x v e) in
      let b = total_least g xs k u at in omega arith
  others_none g (x ∷ xs) (suc i) v e all zero u n at =
      let a : g x ≡ g u = ap g (some-injective x u at) in
      let b = total_least g xs i v e in omega arith
  others_none g (x ∷ xs) (suc i) v e all (suc k) u n at =
      let m = total_least g xs i v e in
      others_none g xs i v e (omega arith) k u (λ q. n (ap suc q)) at

  pub each_set : (Q : A → Type 0) (l : List A) (i : ℕ) (w : A) → Q w → ((k : ℕ) (u : A) → k ≢ i → get_elem? l k ≡ some u → Q u)
      → (k : ℕ) (u : A) → get_elem? (set l i w) k ≡ some u → Q u
  each_set Q l i w mine others k u e =
      ⊎_elim (λ (t : (k ≡ i) × (w ≡ u)). subst Q t.1 mine) (λ (t : (k ≢ i) × (get_elem? l k ≡ some u)). others k u t.0 t.1) (at_set l i k w u e)

  pub Each-append : (P : A → Type 0) (xs ys : List A) → Each P xs → Each P ys → Each P (xs ++ ys)
  Each-append P [] ys a b = b
  Each-append P (x ∷ xs) ys a b = (a.0, Each-append P xs ys a.1 b)

  pub Each-map : (P Q : A → Type 0) (xs : List A) → ((x : A) → P x → Q x) → Each P xs → Each Q xs
  Each-map P Q [] f a = tt
  Each-map P Q (x ∷ xs) f a = (f x a.0, Each-map P Q xs f a.1)
