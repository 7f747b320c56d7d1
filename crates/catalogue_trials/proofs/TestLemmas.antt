-- What the tests stage: runs of a block each, additions, copy ids of live objects.
use Rattle.std.proofs.Common.{◌≡◌, ℕ, zero, suc, ◌+◌, ◌*◌, ◌<◌, ◌≤◌, Bool, true, false, nat_eq, List, [], ◌∷◌, ◌++◌, length, map, take, get_or, Option, Some, None, refl, sym, ap, ◌∙◌, subst, arith}
use Rattle.std.specs.Prelude.{◌||◌, cond, is_none, IfSome, Contains}
use Rattle.std.specs.List.{AllByRecursion, list_any}
use Rattle.std.proofs.lemmas.Bool.Decides.{nat_tests}
use Rattle.std.proofs.lemmas.List.Sums.{sum_by-cons}
use Rattle.std.proofs.Math.Seq.{take-suc}
use Rattle.block_chain.specs.Blocks.{AreMaximal, BeginsElsewhere, FitsRun}
use Rattle.block_chain.specs.declared.runs.Run.{Run}
use Rattle.catalogue_slots.specs.Records.{AreRuns, Object}
use denote.Ref.{Bor}
use Rattle.catalogue_slots.specs.Views.{object_of}
use Rattle.catalogue_slots.specs.declared.entry.ObjectEntry.{ObjectEntry}
use Rattle.block_chain.specs.Blocks.{blocks_in}
use Rattle.catalogue_replay.specs.Contents.{has_copy, without}
use Rattle.catalogue_journal.specs.Transactions.{AreLive, IsAddition}
use Rattle.catalogue_journal.specs.Views.{addition_of}
use Rattle.catalogue_journal.specs.declared.entries.NewObject.{NewObject}

-- so many runs of a block each, from this one on, with a block between neighbours
unfoldable pub runs_from : ℕ → ℕ → List Run
runs_from k zero = []
runs_from k (suc n) = record { first = 2 * k; count = 1 } ∷ runs_from (suc k) n

pub runs_from-push : (k n first : ℕ) → first ≡ 2 * (k + n) → runs_from k (n + 1) ≡ runs_from k n ++ record { first = first; count = 1 } ∷ []
unfolding runs_from
runs_from-push k n first e = rw (more n) (by k n first e)
  where
    more : (m : ℕ) → m + 1 ≡ suc m
    more m = omega arith

    by : (k n first : ℕ) → first ≡ 2 * (k + n) → runs_from k (suc n) ≡ runs_from k n ++ record { first = first; count = 1 } ∷ []
    by k zero first e = let same : 2 * k ≡ first = omega (arith, e) in ap (λ (m : ℕ). record { first = m; count = 1 } ∷ []) same
    by k (suc n) first e = ap (λ (l : List Run). record { first = 2 * k; count = 1 } ∷ l) (by (suc k) n first (omega (arith, e)))

runs_from-fit : (k n : ℕ) → k + n ≤ 4096 → AllByRecursion FitsRun (runs_from k n)
unfolding runs_from
runs_from-fit k zero few = tt
runs_from-fit k (suc n) few = (record { first = omega arith; count = omega arith }, runs_from-fit (suc k) n (omega arith))

runs_from-elsewhere : (k n : ℕ) → BeginsElsewhere (2 * k + 1) (runs_from (suc k) n)
unfolding runs_from
runs_from-elsewhere k zero = tt
runs_from-elsewhere k (suc n) = λ (e : 2 * suc k ≡ 2 * k + 1). absurd (omega (arith, e))

runs_from-maximal : (k n : ℕ) → AreMaximal (runs_from k n)
unfolding runs_from
runs_from-maximal k zero = tt
runs_from-maximal k (suc n) = (omega arith, runs_from-elsewhere k n, runs_from-maximal (suc k) n)

pub AreRuns-runs_from : (n : ℕ) → n ≤ 4096 → AreRuns (runs_from 0 n)
AreRuns-runs_from n few = record { fit = runs_from-fit 0 n (omega (arith, few)); maximal = runs_from-maximal 0 n }

pub blocks_in-runs_from : (k n : ℕ) → blocks_in (runs_from k n) ≡ n
unfolding runs_from
blocks_in-runs_from k zero = refl
blocks_in-runs_from k (suc n) =
    sum_by-cons (λ (run : Run). run.count) (record { first = 2 * k; count = 1 }) (runs_from (suc k) n) ∙ omega (arith, blocks_in-runs_from (suc k) n)

-- ---- additions that were pushed

pub additions-push : (objects : List NewObject) (object : NewObject) → AllByRecursion IsAddition (map addition_of objects) → IsAddition (addition_of object)
    → AllByRecursion IsAddition (map addition_of (objects ++ object ∷ []))
additions-push [] object each is = (is, tt)
additions-push (o ∷ objects) object each is = (each.0, additions-push objects object each.1 is)

-- ---- copy ids of live objects

-- another copy id stays
has_copy-without : (copy other : ℕ) (objects : List Object) → nat_eq copy other ≡ false → has_copy copy (without other objects) ≡ has_copy copy objects
has_copy-without copy other [] miss = refl
has_copy-without copy other (o ∷ objects) miss = by (nat_eq o.copy other) refl (has_copy-without copy other objects miss)
  where
    by : (a : Bool) → nat_eq o.copy other ≡ a → has_copy copy (without other objects) ≡ has_copy copy objects
        → has_copy copy (cond a objects (o ∷ without other objects)) ≡ (nat_eq o.copy copy || has_copy copy objects)
    by true e rest = let own : nat_eq o.copy copy ≡ false = grind (arith, nat_tests, e, miss) in rw own refl
    by false e rest = ap (λ (b : Bool). nat_eq o.copy copy || b) rest

-- a live object whose copy id isn't named before is still there
pub AreLive-push : (copies : List ℕ) (copy : ℕ) (objects : List Object) → AreLive copies objects → list_any (λ c. nat_eq c copy) copies ≡ false
    → has_copy copy objects ≡ true → AreLive (copies ++ copy ∷ []) objects
AreLive-push [] copy objects live fresh has = (has, tt)
AreLive-push (c ∷ copies) copy objects live fresh has =
    let other : nat_eq copy c ≡ false = grind (arith, nat_tests, fresh) in
    (live.0, AreLive-push copies copy (without c objects) live.1 (grind (arith, nat_tests, fresh)) (has_copy-without copy c objects other ∙ has))

has_copy-at : (objects : List Object) (place copy : ℕ) (d : Object) → place < length objects → (get_or objects place d).copy ≡ copy → has_copy copy objects ≡ true
has_copy-at [] place copy d lt is = absurd (omega arith)
has_copy-at (o ∷ objects) zero copy d lt is = let same : nat_eq o.copy copy ≡ true = grind (arith, nat_tests, is) in rw same refl
has_copy-at (o ∷ objects) (suc place) copy d lt is = by (nat_eq o.copy copy) (has_copy-at objects place copy d (omega arith) is)
  where
    by : (a : Bool) → has_copy copy objects ≡ true → (a || has_copy copy objects) ≡ true
    by true rest = refl
    by false rest = rest

-- an object that was found is there
pub has_copy-some : (copy : ℕ) (objects : List Object) (r : Option (Bor ObjectEntry)) → is_none r ≡ false
    → IfSome r (λ entry. Contains objects (object_of entry.now) × (entry.now.copy ≡ copy)) → has_copy copy objects ≡ true
has_copy-some copy objects None some found = cc
has_copy-some copy objects (Some entry) some found =
    let place = found.0 in has_copy-at objects place.0 copy (object_of entry.now) place.1 (ap (λ (o : Object). o.copy) place.2 ∙ found.1)

-- one more copy id of a list
pub AreLive-next : (copies : List ℕ) (i d : ℕ) (objects : List Object) → i < length copies → AreLive (take i copies) objects
    → list_any (λ c. nat_eq c (get_or copies i d)) (take i copies) ≡ false → has_copy (get_or copies i d) objects ≡ true
    → AreLive (take (i + 1) copies) objects
AreLive-next copies i d objects lt live fresh has =
    let more : i + 1 ≡ suc i = omega arith in
    subst (λ (xs : List ℕ). AreLive xs objects) (sym (ap (λ (m : ℕ). take m copies) more ∙ take-suc copies i d lt))
    (AreLive-push (take i copies) (get_or copies i d) objects live fresh has)
