-- Laws of what holds of each element of a list.
use Rattle.std.specs.Prelude.{◌≡◌, ◌⊎◌, zero, suc, List, [], ◌∷◌, ◌++◌, filter, Bool, true, false, if◌then◌else◌, Some, None, Contains}
use Rattle.std.specs.List.{AllByRecursion}
use mathlib.Core.Logic.{inl, inr}
use Rattle.std.proofs.Common.{arith, refl, subst}

module _ {X : Type 0} where
  pub all_weaker : (P Q : X → Type 0) (xs : List X) → ((x : X) → P x → Q x) → AllByRecursion P xs → AllByRecursion Q xs
  all_weaker P Q [] means all = tt
  all_weaker P Q (x ∷ xs) means all = (means x all.0, all_weaker P Q xs means all.1)

  pub all_append : (P : X → Type 0) (xs ys : List X) → AllByRecursion P xs → AllByRecursion P ys → AllByRecursion P (xs ++ ys)
  all_append P [] ys all rest = rest
  all_append P (x ∷ xs) ys all rest = (all.0, all_append P xs ys all.1 rest)

  pub all_filter : (P : X → Type 0) (test : X → Bool) (xs : List X) → AllByRecursion P xs → AllByRecursion P (filter test xs)
  all_filter P test [] all = tt
  all_filter P test (x ∷ xs) all = by (test x) (all_filter P test xs all.1)
    where
      by : (b : Bool) → AllByRecursion P (filter test xs) → AllByRecursion P (if b then x ∷ filter test xs else filter test xs)
      by true rest = (all.0, rest)
      by false rest = rest

  pub contains_here : (x : X) (xs : List X) → Contains (x ∷ xs) x
  contains_here x xs = (0, omega arith, refl)

  pub contains_later : (x y : X) (xs : List X) → Contains xs x → Contains (y ∷ xs) x
  contains_later x y xs is = (suc is.0, omega (arith, is.1), is.2)

  pub contains_cases : (x y : X) (xs : List X) → Contains (y ∷ xs) x → (y ≡ x) ⊎ Contains xs x
  contains_cases x y xs (zero, lt, is) = inl is
  contains_cases x y xs (suc k, lt, is) = inr (k, omega (arith, lt), is)

  pub contains_none : (x : X) → Contains [] x → ⊥
  contains_none x is = omega (arith, is.1)

  pub all_of : (P : X → Type 0) (xs : List X) (x : X) → AllByRecursion P xs → Contains xs x → P x
  all_of P [] x all is = absurd (contains_none x is)
  all_of P (y ∷ xs) x all is = by (contains_cases x y xs is) (all_of P xs x all.1)
    where
      by : (y ≡ x) ⊎ Contains xs x → (Contains xs x → P x) → P x
      by (inl same) rest = subst P same all.0
      by (inr later) rest = rest later

  pub all_from : (P : X → Type 0) (xs : List X) → ((x : X) → Contains xs x → P x) → AllByRecursion P xs
  all_from P [] each = tt
  all_from P (x ∷ xs) each = (each x (contains_here x xs), all_from P xs (λ y is. each y (contains_later y x xs is)))

  pub contains_filter : (test : X → Bool) (xs : List X) (x : X) → Contains (filter test xs) x → Contains xs x
  contains_filter test [] x is = is
  contains_filter test (y ∷ xs) x is = by (test y) is (contains_filter test xs x)
    where
      by : (b : Bool) → Contains (if b then y ∷ filter test xs else filter test xs) x → (Contains (filter test xs) x → Contains xs x) → Contains (y ∷ xs) x
      by true is rest = first (contains_cases x y (filter test xs) is) rest
        where
          first : (y ≡ x) ⊎ Contains (filter test xs) x → (Contains (filter test xs) x → Contains xs x) → Contains (y ∷ xs) x
          first (inl same) rest = (0, omega arith, same)
          first (inr later) rest = contains_later x y xs (rest later)
      by false is rest = contains_later x y xs (rest is)

pub some_same : {A : Type 0} {x y : A} → Some x ≡ Some y → x ≡ y
some_same {A} {x} {y} is = cc

pub none_some : {A : Type 0} {x : A} → None ≡ Some x → ⊥
none_some {A} {x} is = cc
