-- The live objects without those that are deleted.
use Rattle.std.proofs.Common.{◌≡◌, ℕ, suc, ◌<◌, ◌≤◌, Bool, true, false, nat_eq, List, [], ◌∷◌, ◌++◌, length, map, get_or, Result, Ok, Err, refl, sym, ap, ◌∙◌, subst, arith, ⊎_elim}
use Rattle.std.specs.Prelude.{cond, not, ◌||◌, is_ok, MatchResult}
use Rattle.std.specs.List.{AllByRecursion, filter, list_any}
use Rattle.std.specs.List.Sorted.{IsNonDecreasing, IsPermutation, IsBinarySearchResult}
use Rattle.std.specs.Ordering.{nat_cmp}
use Rattle.std.proofs.lemmas.Bool.{eq-eqb, ne_eqb, cases_lt}
use Rattle.std.proofs.lemmas.Bool.Decides.{nat_tests}
use Rattle.std.proofs.lemmas.List.Folds.{list_any_at}
use Rattle.std.proofs.lemmas.List.Sorted.{searched, list_any-IsPermutation}
use Rattle.catalogue_slots.specs.Records.{Object}
use Rattle.catalogue_slots.specs.Views.{object_of}
use Rattle.catalogue_slots.specs.declared.entry.ObjectEntry.{ObjectEntry}
use Rattle.catalogue_replay.specs.Contents.{has_copy, without, AreRising}
use Rattle.catalogue_journal.specs.Transactions.{without_all}
use Rattle.catalogue_journal.specs.Deletions.{is_other}

-- the entries that don't have this copy id
others : ℕ → List ObjectEntry → List ObjectEntry
others copy xs = filter (λ entry. not (nat_eq copy entry.copy)) xs

filter-true : (xs : List ObjectEntry) → filter (is_other []) xs ≡ xs
filter-true [] = refl
filter-true (x ∷ xs) = ap (λ (l : List ObjectEntry). x ∷ l) (filter-true xs)

filter-others : (copy : ℕ) (copies : List ℕ) (xs : List ObjectEntry) → filter (is_other (copy ∷ copies)) xs ≡ filter (is_other copies) (others copy xs)
unfolding others
filter-others copy copies [] = refl
filter-others copy copies (x ∷ xs) = by (nat_eq copy x.copy) (filter-others copy copies xs)
  where
    by : (a : Bool) → filter (is_other (copy ∷ copies)) xs ≡ filter (is_other copies) (filter (λ entry. not (nat_eq copy entry.copy)) xs)
        → cond (not (a || list_any (λ c. nat_eq c x.copy) copies)) (x ∷ filter (is_other (copy ∷ copies)) xs) (filter (is_other (copy ∷ copies)) xs)
        ≡ filter (is_other copies) (cond (not a) (x ∷ filter (λ entry. not (nat_eq copy entry.copy)) xs) (filter (λ entry. not (nat_eq copy entry.copy)) xs))
    by true rest = rest
    by false rest = ap (λ (l : List ObjectEntry). cond (not (list_any (λ c. nat_eq c x.copy) copies)) (x ∷ l) l) rest

-- no entry above a copy id has it
others-above : (below copy : ℕ) (xs : List ObjectEntry) → AreRising below (map object_of xs) → copy ≤ below → others copy xs ≡ xs
unfolding others
others-above below copy [] rising le = refl
others-above below copy (x ∷ xs) rising le =
    let miss : nat_eq copy x.copy ≡ false = grind (arith, nat_tests, rising.0) in
    rw miss (ap (λ (l : List ObjectEntry). x ∷ l) (others-above x.copy copy xs rising.1 (omega (arith, rising.0))))

without-others : (below copy : ℕ) (xs : List ObjectEntry) → AreRising below (map object_of xs) → map object_of (others copy xs) ≡ without copy (map object_of xs)
unfolding others
without-others below copy [] rising = refl
without-others below copy (x ∷ xs) rising =
    let same : nat_eq copy x.copy ≡ nat_eq x.copy copy = grind (arith, nat_tests) in
    rw same (by (nat_eq x.copy copy) refl (without-others x.copy copy xs rising.1))
  where
    by : (a : Bool) → nat_eq x.copy copy ≡ a → map object_of (others copy xs) ≡ without copy (map object_of xs)
        → map object_of (cond (not a) (x ∷ others copy xs) (others copy xs)) ≡ cond a (map object_of xs) (object_of x ∷ without copy (map object_of xs))
    by true e rest = ap (map object_of) (others-above x.copy copy xs rising.1 (grind (arith, nat_tests, e)))
    by false e rest = ap (λ (l : List Object). object_of x ∷ l) rest

AreRising-lower : (a b : ℕ) (objects : List Object) → a ≤ b → AreRising b objects → AreRising a objects
AreRising-lower a b [] le rising = tt
AreRising-lower a b (o ∷ objects) le rising = (omega (arith, rising.0), rising.1)

-- the copy ids still rise
pub AreRising-without : (below copy : ℕ) (objects : List Object) → AreRising below objects → AreRising below (without copy objects)
AreRising-without below copy [] rising = tt
AreRising-without below copy (o ∷ objects) rising = by (nat_eq o.copy copy) (AreRising-without o.copy copy objects rising.1)
  where
    by : (a : Bool) → AreRising o.copy (without copy objects) → AreRising below (cond a objects (o ∷ without copy objects))
    by true rest = AreRising-lower below o.copy objects (omega (arith, rising.0)) rising.1
    by false rest = (rising.0, rest)

pub without_all-filter : (below : ℕ) (copies : List ℕ) (xs : List ObjectEntry) → AreRising below (map object_of xs)
    → map object_of (filter (is_other copies) xs) ≡ without_all copies (map object_of xs)
without_all-filter below [] xs rising = ap (map object_of) (filter-true xs)
without_all-filter below (copy ∷ copies) xs rising =
    let out = without-others below copy xs rising in
    let kept = subst (AreRising below) (sym out) (AreRising-without below copy (map object_of xs) rising) in
    ap (map object_of) (filter-others copy copies xs) ∙ without_all-filter below copies (others copy xs) kept ∙ ap (without_all copies) out

-- ---- a search among copy ids in ascending order

none_among : (copy : ℕ) (copies : List ℕ) → ((k : ℕ) → k < length copies → get_or copies k 0 ≡ copy → ⊥) → list_any (λ c. nat_eq c copy) copies ≡ false
none_among copy [] none = refl
none_among copy (c ∷ copies) none =
    let other : nat_eq c copy ≡ false = ne_eqb c copy (none 0 (omega arith)) in
    rw other (none_among copy copies (λ (k : ℕ) (lt : k < length copies). none (suc k) (omega (arith, lt))))

pub among : (copies : List ℕ) (copy : ℕ) (r : Result ℕ ℕ) → IsNonDecreasing copies → IsBinarySearchResult (λ c. nat_cmp c copy) copies r
    → is_ok r ≡ list_any (λ c. nat_eq c copy) copies
among copies copy r order position = by r (searched copies copy r position (λ (i j : ℕ) (le : i ≤ j) (lt : j < length copies). order i j 0 le lt))
  where
    by : (r : Result ℕ ℕ) → MatchResult r (λ i. (i < length copies) × (get_or copies i 0 ≡ copy))
        (λ i. (i ≤ length copies) × ((k : ℕ) → k < i → get_or copies k 0 < copy) × ((k : ℕ) → i ≤ k → k < length copies → copy < get_or copies k 0))
        → is_ok r ≡ list_any (λ c. nat_eq c copy) copies
    by (Ok i) found = sym (list_any_at (λ (c : ℕ). nat_eq c copy) copies i 0 found.0 (eq-eqb (get_or copies i 0) copy found.1))
    by (Err i) found = sym (none_among copy copies (λ (k : ℕ) (lt : k < length copies) (same : get_or copies k 0 ≡ copy). ⊎_elim
        (λ (before : k < i). absurd (omega (arith, found.1 k before, same)))
        (λ (behind : i ≤ k). absurd (omega (arith, found.2 k behind lt, same)))
        (cases_lt k i)))

-- the order of the copy ids doesn't matter
filter-same : (p q : ObjectEntry → Bool) → ((x : ObjectEntry) → p x ≡ q x) → (xs : List ObjectEntry) → filter p xs ≡ filter q xs
filter-same p q same [] = refl
filter-same p q same (x ∷ xs) = ap (λ (b : Bool). cond b (x ∷ filter p xs) (filter p xs)) (same x) ∙ ap (λ (l : List ObjectEntry). cond (q x) (x ∷ l) l) (filter-same p q same xs)

pub without_all-permutation : (copies others : List ℕ) (xs : List ObjectEntry) → IsPermutation copies others → AreRising 0 (map object_of xs)
    → without_all others (map object_of xs) ≡ without_all copies (map object_of xs)
without_all-permutation copies others xs same rising =
    sym (without_all-filter 0 others xs rising)
    ∙ ap (λ (l : List ObjectEntry). map object_of l) (filter-same (is_other others) (is_other copies)
    (λ (x : ObjectEntry). ap (λ (b : Bool). not b) (sym (list_any-IsPermutation (λ (c : ℕ). nat_eq c x.copy) copies others same))) xs)
    ∙ without_all-filter 0 copies xs rising
