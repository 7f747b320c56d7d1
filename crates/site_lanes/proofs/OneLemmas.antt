-- One lane of several that becomes another.
use Rattle.std.proofs.Common.{◌≡◌, ◌≢◌, ℕ, zero, suc, ◌+◌, ◌<◌, ◌≤◌, List, [], ◌∷◌, length, get_or, slice_set, Some, Result, Ok, Err, refl, sym, ap, ◌∙◌, subst, arith, ⊎_elim}
use Rattle.std.specs.Prelude.{slice_get, IfOk, OnOk}
use Rattle.std.proofs.lemmas.Bool.{cases_lt}
use Rattle.std.proofs.lemmas.Option.{slice_get-get_or, slice_get_within, same_Some}
use Rattle.site_disk.specs.declared.disk.Disk.{Ghosts}
use Rattle.space_lane.specs.declared.lane.Lane.{Lane}
use Rattle.site_lanes.specs.Lanes.{OfEach, OfFirst, SameFrom, ChangesOne, RoseAt}

slice_get-set_same : {X : Type 0} (xs : List X) (k : ℕ) (x : X) → k < length xs → slice_get (slice_set xs k x) k ≡ Some x
slice_get-set_same [] k x lt = absurd (omega arith)
slice_get-set_same (y ∷ xs) zero x lt = refl
slice_get-set_same (y ∷ xs) (suc k) x lt = slice_get-set_same xs k x (omega arith)

slice_get-set_other : {X : Type 0} (xs : List X) (j k : ℕ) (x : X) → j ≢ k → slice_get (slice_set xs k x) j ≡ slice_get xs j
slice_get-set_other [] j k x other = refl
slice_get-set_other (y ∷ xs) zero zero x other = absurd (other refl)
slice_get-set_other (y ∷ xs) zero (suc k) x other = refl
slice_get-set_other (y ∷ xs) (suc j) zero x other = refl
slice_get-set_other (y ∷ xs) (suc j) (suc k) x other = slice_get-set_other xs j k x (λ (e : j ≡ k). other (ap suc e))

pub one_value : {X : Type 0} (xs : List X) (k : ℕ) (x y : X) → slice_get xs k ≡ Some x → slice_get xs k ≡ Some y → x ≡ y
one_value xs k x y there here = same_Some x y (sym there ∙ here)

-- this, or before it
pub here_or_before : (k i : ℕ) → k < i + 1 → ((k ≡ i) → ⊥) → k < i
here_or_before k i lt other = ⊎_elim (λ before. before) (λ ge. absurd (other (omega arith))) (cases_lt k i)

module _ {D : Type 0} where
  pub changes_one : (P : Lane D → Lane D → Type 0) (lanes : List (Lane D)) (place at : ℕ) (d is : Lane D) → place ≡ at → place < length lanes → P (get_or lanes place d) is
      → ChangesOne P at lanes (slice_set lanes place is)
  changes_one P lanes place at d is same lt by =
      subst (λ (n : ℕ). ChangesOne P n lanes (slice_set lanes place is)) same
      (record { was = get_or lanes place d; is = is; there = slice_get-get_or lanes place d lt; changed = refl; by = by })

  pub changes_ok : {A E : Type 0} (P : A → Lane D → Lane D → Type 0) (answer : Result A E) (lanes : List (Lane D)) (place at : ℕ) (d is : Lane D) → place ≡ at
      → place < length lanes → IfOk answer (λ a. P a (get_or lanes place d) is) → IfOk answer (λ a. ChangesOne (P a) at lanes (slice_set lanes place is))
  changes_ok P (Ok a) lanes place at d is same lt by = changes_one (P a) lanes place at d is same lt by
  changes_ok P (Err e) lanes place at d is same lt by = tt

  pub changes_on_ok : {A E : Type 0} (P : Lane D → Lane D → Type 0) (answer : Result A E) (lanes : List (Lane D)) (place at : ℕ) (d is : Lane D) → place ≡ at
      → place < length lanes → OnOk answer (P (get_or lanes place d) is) → OnOk answer (ChangesOne P at lanes (slice_set lanes place is))
  changes_on_ok P (Ok a) lanes place at d is same lt by = changes_one P lanes place at d is same lt by
  changes_on_ok P (Err e) lanes place at d is same lt by = tt

  pub changes_weaker : (P Q : Lane D → Lane D → Type 0) (place : ℕ) (old new : List (Lane D)) → ((was is : Lane D) → P was is → Q was is)
      → ChangesOne P place old new → ChangesOne Q place old new
  changes_weaker P Q place old new means change =
      record { was = change.was; is = change.is; there = change.there; changed = change.changed; by = means change.was change.is change.by }

  module _ (P : Lane D → Lane D → Type 0) (i : ℕ) (now new : List (Lane D)) (change : ChangesOne P i now new) where
    pub changed_here : slice_get new i ≡ Some change.is
    changed_here = ap (λ (l : List (Lane D)). slice_get l i) change.changed
        ∙ slice_get-set_same now i change.is (slice_get_within now i change.was change.there)

    pub changed_other : (k : ℕ) → k ≢ i → slice_get new k ≡ slice_get now k
    changed_other k other = ap (λ (l : List (Lane D)). slice_get l k) change.changed ∙ slice_get-set_other now k i change.is other

    -- of its value before and behind
    pub of_both : (Q : Lane D → Lane D → Type 0) → Q change.was change.is → (was is : Lane D) → slice_get now i ≡ Some was → slice_get new i ≡ Some is → Q was is
    of_both Q here was is there behind =
        subst (λ (x : Lane D). Q x is) (one_value now i change.was was change.there there)
        (subst (λ (x : Lane D). Q change.was x) (one_value new i change.is is changed_here behind) here)

    -- those behind it are as they were
    pub same_behind : (old : List (Lane D)) → SameFrom i old now → SameFrom (i + 1) old new
    same_behind old same k le = changed_other k (λ (e : k ≡ i). omega (arith, e, le)) ∙ same k (omega (arith, le))

    -- what holds of each lane, and of this one behind the change
    pub each_again : (Q : ℕ → Lane D → Type 0) → OfEach Q now → Q i change.is → OfEach Q new
    each_again Q each here k lane there = ⊎_elim
        (λ lt. each k lane (sym (changed_other k (λ (e : k ≡ i). omega (arith, e, lt))) ∙ there))
        (λ ge. ⊎_elim
        (λ gt. each k lane (sym (changed_other k (λ (e : k ≡ i). omega (arith, e, gt))) ∙ there))
        (λ le. let same : i ≡ k = omega (arith, ge, le) in
        subst (λ (n : ℕ). Q n lane) same
        (subst (Q i) (one_value new i change.is lane changed_here (ap (slice_get new) same ∙ there)) here))
        (cases_lt i k))
        (cases_lt k i)

    -- what holds of each of the first lanes, before and after, and of this one
    pub first_more : (Q : ℕ → Lane D → Lane D → Type 0) (old : List (Lane D)) → SameFrom i old now → OfFirst i Q old now → Q i change.was change.is
        → OfFirst (i + 1) Q old new
    first_more Q old same each here k was is lt there behind = ⊎_elim
        (λ before. each k was is before there (sym (changed_other k (λ (e : k ≡ i). omega (arith, e, before))) ∙ behind))
        (λ ge. let here_is : i ≡ k = omega (arith, ge, lt) in
        subst (λ (n : ℕ). Q n was is) here_is
        (subst (λ (x : Lane D). Q i x is) (one_value now i change.was was change.there (same i (omega arith) ∙ ap (slice_get old) here_is ∙ there))
        (subst (λ (x : Lane D). Q i change.was x) (one_value new i change.is is changed_here (ap (slice_get new) here_is ∙ behind)) here)))
        (cases_lt k i)

  -- from a place further on
  pub same_later : (from to : ℕ) (old new : List (Lane D)) → from ≤ to → SameFrom from old new → SameFrom to old new
  same_later from to old new le same k further = same k (omega (arith, le, further))

  -- what was the same at the begin
  pub rose_from : (disk : Ghosts D) (i : ℕ) (old now new : List (Lane D)) → slice_get now i ≡ slice_get old i → RoseAt disk i now new → RoseAt disk i old new
  rose_from disk i old now new same rises was is there behind = rises was is (same ∙ there) behind
