-- Laws of live positions: the end of a history, records that are no Resets, and the position before a Commit.
use Rattle.std.specs.Prelude.{◌≡◌, ◌⊎◌, ℕ, suc, ◌<◌, ◌≤◌, ◌&&◌, List, [], ◌∷◌, ◌++◌, length, reverse, Bool, true, nat_le, nat_lt, if◌then◌else◌}
use Rattle.std.specs.List.{AllByRecursion}
use Rattle.std.proofs.Common.{arith, refl, sym, ap, subst, ◌∙◌, ⊎_elim, length-append}
use Rattle.std.proofs.lemmas.Bool.{cases_lt}
use Rattle.std.proofs.lemmas.Bool.Decides.{nat_tests}
use Rattle.std.proofs.lemmas.List.{reverse-append, reverse-reverse, length-reverse}
use Rattle.log_history.specs.History.{LogEntry, History, begin, write, commit, abort, reset, entry_at}
use Rattle.log_history.specs.Live.{ResetPoint, live, live_by, reset_points, reset_points_back}
use Rattle.log_history.specs.Effects.{is_commit}
use Rattle.history_laws.specs.EffectiveLaws.{entry_back, entry_at_back}
use Rattle.lane_ways.specs.ListLaws.{all_means}

-- a position is live at itself
pub live_itself : (points : List ResetPoint) (n : ℕ) → live_by points n n ≡ true
live_itself [] n = grind (arith, nat_tests)
live_itself (point ∷ older) n = let rest : live_by older n n ≡ true = live_itself older n in grind (arith, nat_tests, rest)

-- each Reset stands within the records
points_within : (back : List LogEntry) → AllByRecursion (λ (point : ResetPoint). point.at ≤ length back) (reset_points_back back)
points_within [] = tt
points_within (reset restore target time ∷ past) =
    (omega arith, all_means (λ (point : ResetPoint). point.at ≤ length past) (λ (point : ResetPoint). point.at ≤ suc (length past)) (reset_points_back past) (λ point le. omega (arith, le)) (points_within past))
points_within (begin txn ∷ past) =
    all_means (λ (point : ResetPoint). point.at ≤ length past) (λ (point : ResetPoint). point.at ≤ suc (length past)) (reset_points_back past) (λ point le. omega (arith, le)) (points_within past)
points_within (write txn patch ∷ past) =
    all_means (λ (point : ResetPoint). point.at ≤ length past) (λ (point : ResetPoint). point.at ≤ suc (length past)) (reset_points_back past) (λ point le. omega (arith, le)) (points_within past)
points_within (commit txn time ∷ past) =
    all_means (λ (point : ResetPoint). point.at ≤ length past) (λ (point : ResetPoint). point.at ≤ suc (length past)) (reset_points_back past) (λ point le. omega (arith, le)) (points_within past)
points_within (abort txn ∷ past) =
    all_means (λ (point : ResetPoint). point.at ≤ length past) (λ (point : ResetPoint). point.at ≤ suc (length past)) (reset_points_back past) (λ point le. omega (arith, le)) (points_within past)

-- where each Reset stands within m, m is live at each later position
live_later : (points : List ResetPoint) (m n : ℕ) → AllByRecursion (λ (point : ResetPoint). point.at ≤ m) points → m ≤ n → live_by points n m ≡ true
live_later [] m n ends le = grind (arith, nat_tests, le)
live_later (point ∷ older) m n ends le =
    let at : point.at ≤ m = ends.0 in
    grind (arith, nat_tests, at, le)

points_quiet : (newer past : List LogEntry) → reset_points_back newer ≡ [] → reset_points_back (newer ++ past) ≡ reset_points_back past
points_quiet [] past none = refl
points_quiet (begin txn ∷ newer) past none = points_quiet newer past none
points_quiet (write txn patch ∷ newer) past none = points_quiet newer past none
points_quiet (commit txn time ∷ newer) past none = points_quiet newer past none
points_quiet (abort txn ∷ newer) past none = points_quiet newer past none
points_quiet (reset restore target time ∷ newer) past none = absurd cc

-- Behind records that are no Resets the old end is live at the new one.
pub old_end_is_live : (history more : History) → reset_points more ≡ [] → live (history ++ more) (length (history ++ more)) (length history) ≡ true
old_end_is_live history more none =
    ap (λ (points : List ResetPoint). live_by points (length (history ++ more)) (length history))
    (ap reset_points_back (reverse-append history more) ∙ points_quiet (reverse more) (reverse history) none)
    ∙ live_later (reset_points history) (length history) (length (history ++ more))
    (subst (λ (n : ℕ). AllByRecursion (λ (point : ResetPoint). point.at ≤ n) (reset_points history)) (length-reverse history) (points_within (reverse history)))
    (omega (arith, length-append history more))

live_newer : (newer past : List LogEntry) (x : ℕ) → live_by (reset_points_back (newer ++ past)) (length past) x ≡ live_by (reset_points_back past) (length past) x
live_newer [] past x = refl
live_newer (begin txn ∷ newer) past x = live_newer newer past x
live_newer (write txn patch ∷ newer) past x = live_newer newer past x
live_newer (commit txn time ∷ newer) past x = live_newer newer past x
live_newer (abort txn ∷ newer) past x = live_newer newer past x
live_newer (reset restore target time ∷ newer) past x =
    ap (λ (b : Bool). if b then live_by (reset_points_back (newer ++ past)) (length past) x
    else (if nat_le (suc (length (newer ++ past))) x then nat_le x (length past)
    else (nat_lt target (suc (length (newer ++ past))) && live_by (reset_points_back (newer ++ past)) target x)))
    (behind (length (newer ++ past)) (omega (arith, length-append newer past)))
    ∙ live_newer newer past x
  where
    behind : (m : ℕ) → length past ≤ m → nat_lt (length past) (suc m) ≡ true
    behind m le = grind (arith, nat_tests, le)

-- records behind the end change nothing of what is live at it
pub live_before : (history more : History) (x : ℕ) → live (history ++ more) (length history) x ≡ live history (length history) x
live_before history more x =
    ap (λ (back : List LogEntry). live_by (reset_points_back back) (length history) x) (reverse-append history more)
    ∙ subst (λ (n : ℕ). live_by (reset_points_back (reverse more ++ reverse history)) n x ≡ live_by (reset_points_back (reverse history)) n x)
    (length-reverse history) (live_newer (reverse more) (reverse history) x)

-- no Reset stands where a Commit does
none_at_commit : (back : List LogEntry) (x : ℕ) → is_commit (entry_back back x) ≡ true
    → AllByRecursion (λ (point : ResetPoint). point.at ≡ x → ⊥) (reset_points_back back)
none_at_commit [] x is = tt
none_at_commit (entry ∷ past) x is = by entry (cases_lt (length past) x) (none_at_commit past x) is
  where
    older : length past < x → AllByRecursion (λ (point : ResetPoint). point.at ≡ x → ⊥) (reset_points_back past)
    older lt = all_means (λ (point : ResetPoint). point.at ≤ length past) (λ (point : ResetPoint). point.at ≡ x → ⊥) (reset_points_back past) (λ point le same. omega (arith, le, lt, same)) (points_within past)

    before : (e : LogEntry) → x ≤ length past → is_commit (entry_back (e ∷ past) x) ≡ true → is_commit (entry_back past x) ≡ true
    before e le has = sym (ap is_commit (deeper e le)) ∙ has
      where
        deeper : (e : LogEntry) → x ≤ length past → entry_back (e ∷ past) x ≡ entry_back past x
        deeper e le = grind (arith, nat_tests, le)

    by : (e : LogEntry) → (length past < x) ⊎ (x ≤ length past) → (is_commit (entry_back past x) ≡ true → AllByRecursion (λ (point : ResetPoint). point.at ≡ x → ⊥) (reset_points_back past))
        → is_commit (entry_back (e ∷ past) x) ≡ true → AllByRecursion (λ (point : ResetPoint). point.at ≡ x → ⊥) (reset_points_back (e ∷ past))
    by (begin txn) cases deeper has = ⊎_elim older (λ le. deeper (before (begin txn) le has)) cases
    by (write txn patch) cases deeper has = ⊎_elim older (λ le. deeper (before (write txn patch) le has)) cases
    by (commit txn time) cases deeper has = ⊎_elim older (λ le. deeper (before (commit txn time) le has)) cases
    by (abort txn) cases deeper has = ⊎_elim older (λ le. deeper (before (abort txn) le has)) cases
    by (reset restore target time) cases deeper has = ⊎_elim
        (λ lt. ((λ same. absurd (no_reset lt same has)), older lt))
        (λ le. ((λ same. omega (arith, le, same)), deeper (before (reset restore target time) le has))) cases
      where
        no_reset : length past < x → suc (length past) ≡ x → is_commit (entry_back (reset restore target time ∷ past) x) ≡ true → ⊥
        no_reset lt same has = grind (arith, nat_tests, lt, same, has)

-- a live position where no Reset stands has a live one before it
live_step : (points : List ResetPoint) (n x : ℕ) → AllByRecursion (λ (point : ResetPoint). point.at ≡ suc x → ⊥) points → live_by points n (suc x) ≡ true → live_by points n x ≡ true
live_step [] n x none is = grind (arith, nat_tests, is)
live_step (point ∷ older) n x none is =
    let ih : (m : ℕ) → live_by older m (suc x) ≡ true → live_by older m x ≡ true = λ m. live_step older m x none.1 in
    let apart : point.at ≡ suc x → ⊥ = none.0 in
    grind (arith, nat_tests, is, apart, ih n, ih point.target)

-- Before a Commit that is live stands a position that is live.
pub live_before_commit : (history : History) (n x : ℕ) → is_commit (entry_at history (suc x)) ≡ true → live history n (suc x) ≡ true → live history n x ≡ true
live_before_commit history n x has is = live_step (reset_points history) n x
    (none_at_commit (reverse history) (suc x)
    (sym (ap is_commit (ap (λ (h : History). entry_at h (suc x)) (sym (reverse-reverse history)) ∙ entry_at_back (reverse history) (suc x))) ∙ has)) is
