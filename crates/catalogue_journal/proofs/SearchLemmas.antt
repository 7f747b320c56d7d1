-- A binary search among objects whose copy ids rise.
use Rattle.std.proofs.Common.{◌≡◌, ℕ, zero, suc, ◌<◌, ◌≤◌, false, nat_eq, List, [], ◌∷◌, length, map, get_or, Result, Ok, Err, refl, sym, ap, ◌∙◌, arith, ne_eqb, ⊎_elim}
use Rattle.std.proofs.lemmas.Bool.{cases_lt}
use Rattle.std.specs.List.{HoldsAt}
use Rattle.std.specs.Prelude.{IfSome, IsNone}
use Rattle.std.specs.Result.{result_ok}
use Rattle.std.specs.List.Sorted.{IsNonDecreasingBy, IsPartitionPoint, IsBinarySearchResult}
use Rattle.std.specs.Ordering.{nat_cmp, ordering_index}
use Rattle.std.specs.declared.cmp.Ordering.TheVariants.{Less, Equal, Greater}
use Rattle.std.proofs.lemmas.Cmp.{ranked}
use Rattle.std.proofs.lemmas.Bool.Decides.{nat_tests}
use Rattle.catalogue_slots.specs.Views.{object_of}
use Rattle.catalogue_slots.specs.declared.entry.ObjectEntry.{ObjectEntry}
use Rattle.catalogue_replay.specs.Contents.{has_copy, AreRising}

-- copy ids that rise are above what they rise from, and don't fall
above : (below : ℕ) (xs : List ObjectEntry) (j : ℕ) (d : ObjectEntry) → AreRising below (map object_of xs) → j < length xs → below < (get_or xs j d).copy
above below [] j d rising lt = absurd (omega arith)
above below (x ∷ xs) zero d rising lt = rising.0
above below (x ∷ xs) (suc j) d rising lt = let next : x.copy < (get_or xs j d).copy = above x.copy xs j d rising.1 (omega arith) in omega (arith, next, rising.0)

no_fall : (below : ℕ) (xs : List ObjectEntry) (i j : ℕ) (d : ObjectEntry) → AreRising below (map object_of xs) → i ≤ j → j < length xs → (get_or xs i d).copy ≤ (get_or xs j d).copy
no_fall below [] i j d rising le lt = absurd (omega arith)
no_fall below (x ∷ xs) zero zero d rising le lt = omega arith
no_fall below (x ∷ xs) zero (suc j) d rising le lt = let next : x.copy < (get_or xs j d).copy = above x.copy xs j d rising.1 (omega arith) in omega (arith, next)
no_fall below (x ∷ xs) (suc i) zero d rising le lt = absurd (omega arith)
no_fall below (x ∷ xs) (suc i) (suc j) d rising le lt = no_fall x.copy xs i j d rising.1 (omega arith) (omega arith)

no_copy : (copy : ℕ) (xs : List ObjectEntry) → ((k : ℕ) (d : ObjectEntry) → k < length xs → (get_or xs k d).copy ≡ copy → ⊥) → has_copy copy (map object_of xs) ≡ false
no_copy copy [] none = refl
no_copy copy (x ∷ xs) none =
    let other : nat_eq x.copy copy ≡ false = ne_eqb x.copy copy (none 0 x (omega arith)) in
    rw other (no_copy copy xs (λ (k : ℕ) (d : ObjectEntry) (lt : k < length xs). none (suc k) d (omega arith)))

index_no_fall : (a b copy : ℕ) → a ≤ b → ordering_index (nat_cmp a copy) ≤ ordering_index (nat_cmp b copy)
index_no_fall a b copy le = grind (arith, nat_tests)

module _ (xs : List ObjectEntry) (copy : ℕ) where
  pub compared_rise : AreRising 0 (map object_of xs) → IsNonDecreasingBy (λ (entry : ObjectEntry). ordering_index (nat_cmp entry.copy copy)) xs
  compared_rise rising i j d le lt = index_no_fall (get_or xs i d).copy (get_or xs j d).copy copy (no_fall 0 xs i j d rising le lt)

  -- the one that is found
  pub found_there : (place : ℕ) → HoldsAt (λ (entry : ObjectEntry). nat_cmp entry.copy copy ≡ Equal) xs place → (entry : ObjectEntry) → entry ≡ get_or xs place entry → entry.copy ≡ copy
  found_there place equal entry is = ap (λ (e : ObjectEntry). e.copy) is ∙ ranked (get_or xs place entry).copy copy Equal (sym (equal entry))

  -- where there is a gap, there is none
  pub none_there : (place : ℕ) → IsPartitionPoint (λ (entry : ObjectEntry). nat_cmp entry.copy copy ≡ Less) (λ (entry : ObjectEntry). nat_cmp entry.copy copy ≡ Greater) xs place
      → has_copy copy (map object_of xs) ≡ false
  none_there place parted = no_copy copy xs (λ (k : ℕ) (d : ObjectEntry) (lt : k < length xs) (same : (get_or xs k d).copy ≡ copy). ⊎_elim
      (λ (before : k < place). let less : (get_or xs k d).copy < copy = ranked (get_or xs k d).copy copy Less (sym (parted.0 k d (omega arith) before)) in absurd (omega (arith, less, same)))
      (λ (behind : place ≤ k). let more : copy < (get_or xs k d).copy = ranked (get_or xs k d).copy copy Greater (sym (parted.1 k d behind lt)) in absurd (omega (arith, more, same)))
      (cases_lt k place))

  pub found_any : (r : Result ℕ ℕ) → IsBinarySearchResult (λ (entry : ObjectEntry). nat_cmp entry.copy copy) xs r
      → IfSome (result_ok r) (λ place. (entry : ObjectEntry) → entry ≡ get_or xs place entry → entry.copy ≡ copy)
  found_any (Ok place) equal = found_there place equal
  found_any (Err place) parted = tt

  pub none_any : (r : Result ℕ ℕ) → AreRising 0 (map object_of xs) → IsBinarySearchResult (λ (entry : ObjectEntry). nat_cmp entry.copy copy) xs r
      → IsNone (result_ok r) → has_copy copy (map object_of xs) ≡ false
  none_any (Ok place) rising equal none = cc
  none_any (Err place) rising parted none = none_there place (parted (compared_rise rising))
