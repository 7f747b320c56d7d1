-- The files from the least low of the chains on are those that one of the chains wants.
use Rattle.std.specs.Prelude.{◌≡◌, ◌⊎◌, ◌↔◌, ℕ, zero, suc, ◌<◌, ◌≤◌, List, [], ◌∷◌, length, Bool, true, false, if◌then◌else◌, filter, fold, max, Option, None, Some, IfSome, Contains, refl}
use mathlib.Core.Logic.{inl, inr}
use Rattle.std.specs.List.{AllByRecursion, All}
use Rattle.std.proofs.Common.{arith, ap, get_or, subst, sym}
use Rattle.std.proofs.lemmas.Bool.{cases_lt}
use Rattle.std.proofs.lemmas.List.Elements.{All-contains, filter_passes, All-from_recursion}
use Rattle.log_history.specs.Live.{ResetPoint}
use Rattle.backup_lines.specs.Lines.{Span}
use Rattle.backup_lines.specs.Chains.{IsNeededFrom, is_live_between}
use Rattle.backup_lines.specs.ChainsLaws.{needed_by_test, test_by_needed}
use Rattle.backup_lines.specs.Plans.{SpacePlan, files_behind, least_low, lesser}
use Rattle.restore_planner.specs.Wanted.{AreWanted, IsWanted}

-- elements of lists

contains_tail : {X : Type 0} (y : X) (xs : List X) (x : X) → Contains xs x → Contains (y ∷ xs) x
contains_tail y xs x has = (suc has.0, omega (arith, has.1), has.2)

in_filter : {X : Type 0} (passes : X → Bool) (xs : List X) (x : X) (k : ℕ) → k < length xs → get_or xs k x ≡ x → passes x ≡ true
    → Contains (filter passes xs) x
in_filter passes [] x k lt is pass = absurd (omega arith)
in_filter passes (y ∷ xs) x zero lt is pass = by (passes y) (subst (λ z. passes z ≡ true) (sym is) pass)
  where
    by : (b : Bool) → b ≡ true → Contains (if b then y ∷ filter passes xs else filter passes xs) x
    by true same = (0, omega arith, is)
    by false same = absurd cc
in_filter passes (y ∷ xs) x (suc k) lt is pass = by (passes y) (in_filter passes xs x k (omega arith) is pass)
  where
    by : (b : Bool) → Contains (filter passes xs) x → Contains (if b then y ∷ filter passes xs else filter passes xs) x
    by true has = contains_tail y (filter passes xs) x has
    by false has = has

-- the least low

abbrev least_of : Option ℕ → List SpacePlan → Option ℕ
least_of least plans = fold (λ least plan. Some (lesser least plan.low)) least plans

-- some plan has this low
record HasLow (plans : List SpacePlan) (low : ℕ) : Type 0 where
  plan : SpacePlan
  planned : Contains plans plan
  is : plan.low ≡ low

lesser_is : (least : Option ℕ) (n low : ℕ) → lesser least n ≡ low → (least ≡ Some low) ⊎ (n ≡ low)
lesser_is None n low is = inr is
lesser_is (Some m) n low is = by (cases_lt n m)
  where
    by : (n < m) ⊎ (m ≤ n) → (Some m ≡ Some low) ⊎ (n ≡ low)
    by (inl lt) = inr (omega (arith, lt))
    by (inr le) = let same : m ≡ low = omega (arith, le) in inl (ap Some same)

has_low : (plans : List SpacePlan) (least : Option ℕ) (low : ℕ) → least_of least plans ≡ Some low → (least ≡ Some low) ⊎ HasLow plans low
has_low [] least low is = inl is
has_low (plan ∷ plans) least low is = by (has_low plans (Some (lesser least plan.low)) low is)
  where
    first : (least ≡ Some low) ⊎ (plan.low ≡ low) → (least ≡ Some low) ⊎ HasLow (plan ∷ plans) low
    first (inl same) = inl same
    first (inr same) = inr (record { plan = plan; planned = (0, omega arith, refl); is = same })

    by : (Some (lesser least plan.low) ≡ Some low) ⊎ HasLow plans low → (least ≡ Some low) ⊎ HasLow (plan ∷ plans) low
    by (inl same) = first (lesser_is least plan.low low cc)
    by (inr deeper) = inr (record { plan = deeper.plan; planned = contains_tail plan plans deeper.plan deeper.planned; is = deeper.is })

at_most_lesser : (least : Option ℕ) (n low : ℕ) → low ≤ lesser least n → IfSome least (λ m. low ≤ m) × (low ≤ n)
at_most_lesser None n low le = (tt, le)
at_most_lesser (Some m) n low le = (omega arith, omega arith)

at_most_all : (plans : List SpacePlan) (least : Option ℕ) (low : ℕ) → least_of least plans ≡ Some low
    → IfSome least (λ m. low ≤ m) × AllByRecursion (λ plan. low ≤ plan.low) plans
at_most_all [] least low is = (subst (λ (o : Option ℕ). IfSome o (λ m. low ≤ m)) (sym is) (omega arith), tt)
at_most_all (plan ∷ plans) least low is =
    let deeper = at_most_all plans (Some (lesser least plan.low)) low is in
    let parts = at_most_lesser least plan.low low deeper.0 in
    (parts.0, (parts.1, deeper.1))

never_none : (plans : List SpacePlan) (m : ℕ) → least_of (Some m) plans ≡ None → ⊥
never_none [] m is = cc
never_none (plan ∷ plans) m is = never_none plans (lesser (Some m) plan.low) is

none_planned : (plans : List SpacePlan) (plan : SpacePlan) → least_low plans ≡ None → Contains plans plan → ⊥
none_planned [] plan is has = omega (arith, has.1)
none_planned (first ∷ plans) plan is has = never_none plans first.low is

-- the law

pub files_wanted : (resets : List ResetPoint) (q : ℕ) (plans : List SpacePlan) (spans : List Span)
    → AreWanted resets q plans spans (files_behind resets q (least_low plans) spans)
files_wanted resets q plans spans span known = by (least_low plans) refl
  where
    test : ℕ → Span → Bool
    test low span = is_live_between resets q (max span.first low) span.last

    to_wanted : (low : ℕ) → IsNeededFrom resets low q span → (None ≡ Some low) ⊎ HasLow plans low → IsWanted resets q plans span
    to_wanted low needed (inl never) = absurd cc
    to_wanted low needed (inr has) = record {
      plan = has.plan;
      planned = has.planned;
      needed = subst (λ (n : ℕ). IsNeededFrom resets n q span) (sym has.is) needed;
    }

    from_wanted : (low : ℕ) → least_low plans ≡ Some low → IsWanted resets q plans span → IsNeededFrom resets low q span
    from_wanted low is wanted =
        let all : All (λ plan. low ≤ plan.low) plans = All-from_recursion (λ plan. low ≤ plan.low) plans (at_most_all plans None low is).1 in
        let least : low ≤ wanted.plan.low = All-contains (λ plan. low ≤ plan.low) plans wanted.plan all wanted.planned in
        record {
          position = wanted.needed.position;
          first = wanted.needed.first;
          last = wanted.needed.last;
          from = omega (arith, least, wanted.needed.from);
          live = wanted.needed.live;
        }

    by : (least : Option ℕ) → least_low plans ≡ least → Contains (files_behind resets q least spans) span ↔ IsWanted resets q plans span
    by None is = (λ has. absurd (omega (arith, has.1)), λ wanted. absurd (none_planned plans wanted.plan is wanted.planned))
    by (Some low) is = (
      λ has. to_wanted low (needed_by_test resets low q span (All-contains (λ s. test low s ≡ true) (filter (test low) spans) span (filter_passes (test low) spans) has))
          (has_low plans None low is),
      λ wanted. in_filter (test low) spans span known.0 known.1 known.2 (test_by_needed resets low q span (from_wanted low is wanted)),
    )
