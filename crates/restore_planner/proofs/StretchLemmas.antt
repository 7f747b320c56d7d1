-- What is live at a position, in stretches: they fall, and a search by their beginnings finds the one that reaches a place.
use Rattle.std.proofs.Common.{◌≡◌, ℕ, zero, suc, ◌<◌, ◌≤◌, List, [], ◌∷◌, length, Bool, true, false, ◌&&◌, get_or, refl, arith}
use Rattle.std.specs.Prelude.{nat_lt, nat_le, slice_get, if◌then◌else◌}
use Rattle.std.specs.List.{AllWithin, list_any}
use Rattle.std.specs.List.Sorted.{IsPartitionedBy}
use Rattle.std.proofs.lemmas.Bool.Decides.{nat_tests}
use Rattle.log_history.specs.Live.{ResetPoint}
use Rattle.backup_lines.specs.Chains.{live_stretches, reaches}
use Rattle.backup_lines.specs.declared.stretches.Stretch.{Stretch}
use Rattle.restore_planner.specs.Live.{Fall, FallBelow, reached_by}

behind_falls : (back : Bool) (older : List ResetPoint) (target at : ℕ) → nat_lt target at ≡ back
    → (target < at → FallBelow at (live_stretches older target)) → FallBelow at (if back then live_stretches older target else [])
behind_falls true older target at same falls = falls (grind (arith, nat_tests, same))
behind_falls false older target at same falls = tt

stretches_fall : (resets : List ResetPoint) (n limit : ℕ) → n < limit → FallBelow limit (live_stretches resets n)
stretches_fall [] n limit lt = (lt, omega arith, tt)
stretches_fall (point ∷ older) n limit lt =
    by (nat_lt n point.at) refl (stretches_fall older n limit lt) (λ back. stretches_fall older point.target point.at back)
  where
    by : (before : Bool) → nat_lt n point.at ≡ before → FallBelow limit (live_stretches older n)
        → (point.target < point.at → FallBelow point.at (live_stretches older point.target))
        → FallBelow limit (if before then live_stretches older n else (record { from = point.at; to = n } ∷ (if nat_lt point.target point.at then live_stretches older point.target else [])))
    by true same falls behind = falls
    by false same falls behind =
        (lt, grind (arith, nat_tests, same), behind_falls (nat_lt point.target point.at) older point.target point.at refl behind)

fall_from : (limit : ℕ) (stretches : List Stretch) → FallBelow limit stretches → Fall stretches
fall_from limit [] falls = tt
fall_from limit (stretch ∷ stretches) falls = (omega arith, falls.1, falls.2)

pub live_stretches_fall : (resets : List ResetPoint) (n : ℕ) → Fall (live_stretches resets n)
live_stretches_fall resets n = fall_from (suc n) (live_stretches resets n) (stretches_fall resets n (suc n) (omega arith))

-- a stretch of a falling list begins below the limit
begins_below : (stretches : List Stretch) (limit i : ℕ) (d : Stretch) → FallBelow limit stretches → i < length stretches → (get_or stretches i d).from < limit
begins_below [] limit i d falls lt = absurd (omega arith)
begins_below (stretch ∷ stretches) limit zero d falls lt = omega (arith, falls.0, falls.1)
begins_below (stretch ∷ stretches) limit (suc i) d falls lt =
    let deeper : (get_or stretches i d).from < stretch.from = begins_below stretches stretch.from i d falls.2 (omega arith) in
    omega (arith, falls.0, falls.1, deeper)

abbrev pub begins_behind : ℕ → Stretch → Bool
begins_behind to stretch = nat_lt to stretch.from

pub stretches_parted : (stretches : List Stretch) (limit to : ℕ) → FallBelow limit stretches → IsPartitionedBy (begins_behind to) stretches
stretches_parted [] limit to falls i j d le lt passes = absurd (omega arith)
stretches_parted (stretch ∷ stretches) limit to falls zero zero d le lt passes = passes
stretches_parted (stretch ∷ stretches) limit to falls zero (suc j) d le lt passes =
    let deeper : (get_or stretches j d).from < stretch.from = begins_below stretches stretch.from j d falls.2 (omega arith) in
    grind (arith, nat_tests, passes, deeper)
stretches_parted (stretch ∷ stretches) limit to falls (suc i) zero d le lt passes = absurd (omega arith)
stretches_parted (stretch ∷ stretches) limit to falls (suc i) (suc j) d le lt passes =
    stretches_parted stretches stretch.from to falls.2 i j d (omega arith) (omega arith) passes

none_from : (stretches : List Stretch) (limit from to : ℕ) → FallBelow limit stretches → limit ≤ from → list_any (reaches from to) stretches ≡ false
none_from [] limit from to falls le = refl
none_from (stretch ∷ stretches) limit from to falls le =
    let first : reaches from to stretch ≡ false = grind (arith, nat_tests, falls.0, le) in
    rw first (none_from stretches stretch.from from to falls.2 (omega (arith, falls.0, falls.1)))

none_over : (stretches : List Stretch) (from to : ℕ) → nat_le from to ≡ false → list_any (reaches from to) stretches ≡ false
none_over [] from to is = refl
none_over (stretch ∷ stretches) from to is =
    let first : reaches from to stretch ≡ false = grind (arith, nat_tests, is) in
    rw first (none_over stretches from to is)

pub reached_at : (stretches : List Stretch) (limit from to i : ℕ) → FallBelow limit stretches
    → AllWithin (λ stretch. begins_behind to stretch ≡ true) stretches 0 i
    → AllWithin (λ stretch. begins_behind to stretch ≡ false) stretches i (length stretches)
    → list_any (reaches from to) stretches ≡ reached_by from to (slice_get stretches i)
reached_at [] limit from to i falls front rest = refl
reached_at (stretch ∷ stretches) limit from to zero falls front rest = by (nat_le from to) refl (nat_le from stretch.to) refl
  where
    begins : begins_behind to stretch ≡ false
    begins = rest 0 stretch (omega arith) (omega arith)

    by : (over : Bool) → nat_le from to ≡ over → (met : Bool) → nat_le from stretch.to ≡ met
        → list_any (reaches from to) (stretch ∷ stretches) ≡ (over && met)
    by true over true met = let first : reaches from to stretch ≡ true = grind (arith, nat_tests, over, met, begins) in rw first refl
    by true over false met =
        let first : reaches from to stretch ≡ false = grind (arith, nat_tests, over, met) in
        rw first (none_from stretches stretch.from from to falls.2 (grind (arith, nat_tests, met, falls.1)))
    by false over met same = none_over (stretch ∷ stretches) from to over
reached_at (stretch ∷ stretches) limit from to (suc i) falls front rest =
    let begins : begins_behind to stretch ≡ true = front 0 stretch (omega arith) (omega arith) in
    let first : reaches from to stretch ≡ false = grind (arith, nat_tests, begins) in
    rw first (reached_at stretches stretch.from from to i falls.2
    (λ k d low high. front (suc k) d (omega arith) (omega arith))
    (λ k d low high. rest (suc k) d (omega arith) (omega arith)))
