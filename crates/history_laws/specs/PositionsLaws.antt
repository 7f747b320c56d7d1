-- Laws of the positions that pass a test.
use Rattle.std.specs.Prelude.{◌≡◌, ℕ, suc, zero, ◌≤◌, ◌&&◌, List, [], ◌∷◌, ◌++◌, filter, Bool, true, false, nat_le, nat_lt, if◌then◌else◌}
use Rattle.std.proofs.Common.{arith, refl, sym, ap, ◌∙◌, append_assoc}
use Rattle.std.proofs.lemmas.Bool.Decides.{nat_tests}
use Rattle.std.proofs.lemmas.List.{append-nil}
use Rattle.std.proofs.lemmas.List.Elements.{filter-append}
use Rattle.log_history.specs.History.{positions}

one_agrees : (p q : ℕ → Bool) (x : ℕ) → p x ≡ q x → filter p (x ∷ []) ≡ filter q (x ∷ [])
one_agrees p q x is = ap (λ (c : Bool). if c then x ∷ [] else []) is

one_none : (p : ℕ → Bool) (x : ℕ) → p x ≡ false → filter p (x ∷ []) ≡ []
one_none p x is = ap (λ (b : Bool). if b then x ∷ [] else []) is

joined_low : (low high one_low one_high one : List ℕ) → high ≡ [] → one_low ≡ one → one_high ≡ [] → (low ++ high) ++ one ≡ (low ++ one_low) ++ (high ++ one_high)
joined_low low high one_low one_high one none here empty = grind (arith, append-nil, none, here, empty)

joined_high : (low high one_low one_high one : List ℕ) → one_low ≡ [] → one_high ≡ one → (low ++ high) ++ one ≡ (low ++ one_low) ++ (high ++ one_high)
joined_high low high one_low one_high one none here = append_assoc low high one ∙ grind (arith, append-nil, none, here)

-- tests that agree up to n
pub positions_agree : (p q : ℕ → Bool) (n : ℕ) → ((x : ℕ) → x ≤ n → p x ≡ q x) → filter p (positions n) ≡ filter q (positions n)
positions_agree p q zero same = refl
positions_agree p q (suc n) same =
    filter-append p (positions n) (suc n ∷ [])
    ∙ ap (λ (front : List ℕ). front ++ filter p (suc n ∷ [])) (positions_agree p q n (λ x le. same x (omega (arith, le))))
    ∙ ap (λ (last : List ℕ). filter q (positions n) ++ last) (one_agrees p q (suc n) (same (suc n) (omega arith)))
    ∙ sym (filter-append q (positions n) (suc n ∷ []))

-- a test that no position up to n passes
pub positions_none : (p : ℕ → Bool) (n : ℕ) → ((x : ℕ) → x ≤ n → p x ≡ false) → filter p (positions n) ≡ []
positions_none p zero none = refl
positions_none p (suc n) none =
    filter-append p (positions n) (suc n ∷ [])
    ∙ ap (λ (front : List ℕ). front ++ filter p (suc n ∷ [])) (positions_none p n (λ x le. none x (omega (arith, le))))
    ∙ ap (λ (b : Bool). if b then suc n ∷ [] else []) (none (suc n) (omega arith))

module _ (p : ℕ → Bool) (a n : ℕ) where
  abbrev low : ℕ → Bool
  low x = p x && nat_le x a

  abbrev high : ℕ → Bool
  high x = p x && nat_lt a x

  abbrev one : (test : ℕ → Bool) → List ℕ
  one test = filter test (suc n ∷ [])

  none_high : nat_le (suc n) a ≡ true → filter high (positions n) ≡ []
  none_high le = positions_none high n (λ x within. grind (arith, nat_tests, le, within))

  low_here : nat_le (suc n) a ≡ true → one low ≡ one p
  low_here le = one_agrees low p (suc n) (grind (arith, nat_tests, le))

  high_none : nat_le (suc n) a ≡ true → one high ≡ []
  high_none le = one_none high (suc n) (grind (arith, nat_tests, le))

  low_none : nat_le (suc n) a ≡ false → one low ≡ []
  low_none gt = one_none low (suc n) (grind (arith, nat_tests, gt))

  high_here : nat_le (suc n) a ≡ false → one high ≡ one p
  high_here gt = one_agrees high p (suc n) (grind (arith, nat_tests, gt))

  part_next : filter p (positions n) ≡ filter low (positions n) ++ filter high (positions n)
      → filter p (positions (suc n)) ≡ filter low (positions (suc n)) ++ filter high (positions (suc n))
  part_next before = by (nat_le (suc n) a) refl
    where
      both : filter p (positions (suc n)) ≡ (filter low (positions n) ++ filter high (positions n)) ++ one p
      both = filter-append p (positions n) (suc n ∷ []) ∙ ap (λ (front : List ℕ). front ++ one p) before

      apart : filter low (positions (suc n)) ++ filter high (positions (suc n)) ≡ (filter low (positions n) ++ one low) ++ (filter high (positions n) ++ one high)
      apart = ap (λ (l : List ℕ). l ++ filter high (positions (suc n))) (filter-append low (positions n) (suc n ∷ []))
          ∙ ap (λ (l : List ℕ). (filter low (positions n) ++ one low) ++ l) (filter-append high (positions n) (suc n ∷ []))

      by : (b : Bool) → nat_le (suc n) a ≡ b → filter p (positions (suc n)) ≡ filter low (positions (suc n)) ++ filter high (positions (suc n))
      by true le = both ∙ joined_low (filter low (positions n)) (filter high (positions n)) (one low) (one high) (one p) (none_high le) (low_here le) (high_none le) ∙ sym apart
      by false gt = both ∙ joined_high (filter low (positions n)) (filter high (positions n)) (one low) (one high) (one p) (low_none gt) (high_here gt) ∙ sym apart

-- the positions that pass up to a, and those that pass above it
pub positions_part : (p : ℕ → Bool) (a n : ℕ) → filter p (positions n)
    ≡ filter (λ x. p x && nat_le x a) (positions n) ++ filter (λ x. p x && nat_lt a x) (positions n)
positions_part p a zero = refl
positions_part p a (suc n) = part_next p a n (positions_part p a n)
