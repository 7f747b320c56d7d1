-- Laws of the commits in effect: what a Reset goes back to, what later records leave as it is, and how the commits at one
-- position come from those at another.
use Rattle.std.specs.Prelude.{◌≡◌, ◌⊎◌, ℕ, suc, zero, ◌<◌, ◌≤◌, ◌&&◌, List, [], ◌∷◌, ◌++◌, length, reverse, filter, Bool, true, false, nat_le, nat_lt, if◌then◌else◌, Option, Some, None, slice_get}
use mathlib.Core.Logic.{inl, inr}
use Rattle.std.proofs.Common.{arith, refl, sym, ap, ◌∙◌, length-append, ⊎_elim}
use Rattle.std.proofs.lemmas.Bool.{cases_order, cases_lt}
use Rattle.std.proofs.lemmas.Bool.Decides.{nat_tests}
use Rattle.std.proofs.lemmas.List.{append-nil, length-reverse, reverse-append, reverse-reverse}
use Rattle.std.proofs.lemmas.List.Elements.{filter-append}
use Rattle.std.proofs.lemmas.Option.{none-some}
use Rattle.std.specs.Option.{unwrap_or}
use Rattle.log_history.specs.History.{LogEntry, History, begin, write, commit, abort, reset, entry_at, positions}
use Rattle.log_history.specs.Live.{ResetPoint, live_by, reset_points_back, reset_points, live}
use Rattle.log_history.specs.Effects.{is_commit, effective}
use Rattle.history_laws.specs.LiveLaws.{live_within, live_along, live_behind}
use Rattle.history_laws.specs.PositionsLaws.{positions_agree, positions_none, positions_part}

cases_le : (x a : ℕ) → (x ≤ a) ⊎ (a < x)
cases_le x a = ⊎_elim (λ gt. inr gt) (λ le. inl le) (cases_lt a x)

none_some : {A : Type 0} {x : A} → None ≡ Some x → ⊥
none_some {A} {x} is = none-some x is

some_same : {A : Type 0} {x y : A} → Some x ≡ Some y → x ≡ y
some_same {A} {x} {y} is = ap (λ (o : Option A). unwrap_or o x) is

-- the record at a position, in records given newest first
abbrev pub entry_back : List LogEntry → ℕ → Option LogEntry
entry_back [] x = None
entry_back (entry ∷ past) x = if nat_le x (length past) then entry_back past x else (if nat_le x (suc (length past)) then Some entry else None)

-- The commits in effect at n, in records given newest first: a Commit up to n is one more, and a Reset up to n goes back to
-- those of its target.
abbrev pub effective_back : List LogEntry → ℕ → List ℕ
effective_back [] n = []
effective_back (commit txn time ∷ past) n = effective_back past n ++ (if nat_le (suc (length past)) n then suc (length past) ∷ [] else [])
effective_back (reset restore target time ∷ past) n =
    if nat_lt n (suc (length past)) then effective_back past n
    else (if nat_lt target (suc (length past)) then effective_back past target else [])
effective_back (entry ∷ past) n = effective_back past n

-- whether a Commit that is live at n stands at x
abbrev counts : List LogEntry → ℕ → ℕ → Bool
counts back n x = is_commit (entry_back back x) && live_by (reset_points_back back) n x

within_back : (entry : LogEntry) (past : List LogEntry) (x : ℕ) → x ≤ length past → entry_back (entry ∷ past) x ≡ entry_back past x
within_back entry past x le = grind (arith, nat_tests, le)

last_back : (entry : LogEntry) (past : List LogEntry) → entry_back (entry ∷ past) (suc (length past)) ≡ Some entry
last_back entry past = grind (arith, nat_tests)

zero_back : (past : List LogEntry) → entry_back past 0 ≡ None
zero_back [] = refl
zero_back (entry ∷ past) = within_back entry past 0 (omega arith) ∙ zero_back past

-- one record that is no Reset more
plain_next : (entry : LogEntry) (past : List LogEntry) (n : ℕ) → reset_points_back (entry ∷ past) ≡ reset_points_back past
    → filter (counts (entry ∷ past) n) (positions (suc (length past)))
    ≡ filter (counts past n) (positions (length past)) ++ (if is_commit (Some entry) && nat_le (suc (length past)) n then suc (length past) ∷ [] else [])
plain_next entry past n same =
    filter-append (counts (entry ∷ past) n) (positions (length past)) (suc (length past) ∷ [])
    ∙ ap (λ (front : List ℕ). front ++ filter (counts (entry ∷ past) n) (suc (length past) ∷ []))
    (positions_agree (counts (entry ∷ past) n) (counts past n) (length past)
    (λ x le. ap (λ (o : Option LogEntry). is_commit o && live_by (reset_points_back (entry ∷ past)) n x) (within_back entry past x le)
    ∙ ap (λ (points : List ResetPoint). is_commit (entry_back past x) && live_by points n x) same))
    ∙ ap (λ (b : Bool). filter (counts past n) (positions (length past)) ++ (if b then suc (length past) ∷ [] else []))
    (ap (λ (o : Option LogEntry). is_commit o && live_by (reset_points_back (entry ∷ past)) n (suc (length past))) (last_back entry past)
    ∙ ap (λ (points : List ResetPoint). is_commit (Some entry) && live_by points n (suc (length past))) same
    ∙ ap (λ (b : Bool). is_commit (Some entry) && b) (live_behind past n (suc (length past)) (omega arith)))

-- a Reset more
reset_next : (restore target time : ℕ) (past : List LogEntry) (n : ℕ)
    → filter (counts (reset restore target time ∷ past) n) (positions (suc (length past)))
    ≡ (if nat_lt n (suc (length past)) then filter (counts past n) (positions (length past))
    else (if nat_lt target (suc (length past)) then filter (counts past target) (positions (length past)) else []))
reset_next restore target time past n =
    filter-append all (positions (length past)) (suc (length past) ∷ [])
    ∙ ap (λ (o : Option LogEntry). filter all (positions (length past)) ++ (if is_commit o && live_by points n (suc (length past)) then suc (length past) ∷ [] else [])) (last_back entry past)
    ∙ append-nil (filter all (positions (length past)))
    ∙ by (nat_lt n (suc (length past))) (nat_lt target (suc (length past))) refl refl
  where
    entry : LogEntry
    entry = reset restore target time

    points : List ResetPoint
    points = reset_points_back (reset restore target time ∷ past)

    all : ℕ → Bool
    all = counts (reset restore target time ∷ past) n

    by : (before back : Bool) → nat_lt n (suc (length past)) ≡ before → nat_lt target (suc (length past)) ≡ back
        → filter (counts (reset restore target time ∷ past) n) (positions (length past))
        ≡ (if before then filter (counts past n) (positions (length past)) else (if back then filter (counts past target) (positions (length past)) else []))
    by true back lt is = positions_agree (counts (reset restore target time ∷ past) n) (counts past n) (length past)
        (λ x le. ap (λ (o : Option LogEntry). is_commit o && live_by (reset_points_back (reset restore target time ∷ past)) n x) (within_back (reset restore target time) past x le)
        ∙ grind (arith, nat_tests, lt, le))
    by false true ge is = positions_agree (counts (reset restore target time ∷ past) n) (counts past target) (length past)
        (λ x le. ap (λ (o : Option LogEntry). is_commit o && live_by (reset_points_back (reset restore target time ∷ past)) n x) (within_back (reset restore target time) past x le)
        ∙ grind (arith, nat_tests, ge, is, le))
    by false false ge is = positions_none (counts (reset restore target time ∷ past) n) (length past)
        (λ x le. grind (arith, nat_tests, ge, is, le))

-- the Commits that are live are those that the records come to one after another
pub filter_is_back : (back : List LogEntry) (n : ℕ) → filter (counts back n) (positions (length back)) ≡ effective_back back n
filter_is_back [] n = refl
filter_is_back (begin txn ∷ past) n = plain_next (begin txn) past n refl ∙ append-nil (filter (counts past n) (positions (length past))) ∙ filter_is_back past n
filter_is_back (write txn patch ∷ past) n = plain_next (write txn patch) past n refl ∙ append-nil (filter (counts past n) (positions (length past))) ∙ filter_is_back past n
filter_is_back (abort txn ∷ past) n = plain_next (abort txn) past n refl ∙ append-nil (filter (counts past n) (positions (length past))) ∙ filter_is_back past n
filter_is_back (commit txn time ∷ past) n =
    plain_next (commit txn time) past n refl
    ∙ ap (λ (l : List ℕ). l ++ (if nat_le (suc (length past)) n then suc (length past) ∷ [] else [])) (filter_is_back past n)
filter_is_back (reset restore target time ∷ past) n =
    let ih : (m : ℕ) → filter (counts past m) (positions (length past)) ≡ effective_back past m = λ m. filter_is_back past m in
    reset_next restore target time past n
    ∙ ap (λ (l : List ℕ). if nat_lt n (suc (length past)) then l else (if nat_lt target (suc (length past)) then filter (counts past target) (positions (length past)) else [])) (ih n)
    ∙ ap (λ (l : List ℕ). if nat_lt n (suc (length past)) then effective_back past n else (if nat_lt target (suc (length past)) then l else [])) (ih target)

-- records of a history, by position, oldest first and newest first
pub slice_front : (front rest : List LogEntry) (k : ℕ) → k < length front → slice_get (front ++ rest) k ≡ slice_get front k
slice_front [] rest k lt = absurd (omega (arith, lt))
slice_front (first ∷ front) rest zero lt = refl
slice_front (first ∷ front) rest (suc k) lt = slice_front front rest k (omega (arith, lt))

slice_here : (front rest : List LogEntry) (entry : LogEntry) → slice_get (front ++ entry ∷ rest) (length front) ≡ Some entry
slice_here [] rest entry = refl
slice_here (first ∷ front) rest entry = slice_here front rest entry

slice_beyond : (front : List LogEntry) (k : ℕ) → length front ≤ k → slice_get front k ≡ None
slice_beyond [] k le = refl
slice_beyond (first ∷ front) zero le = absurd (omega (arith, le))
slice_beyond (first ∷ front) (suc k) le = slice_beyond front k (omega (arith, le))

pub entry_at_back : (back : List LogEntry) (x : ℕ) → entry_at (reverse back) x ≡ entry_back back x
entry_at_back back zero = sym (zero_back back)
entry_at_back [] (suc k) = refl
entry_at_back (entry ∷ past) (suc k) =
    ap (λ (l : List LogEntry). slice_get l k) (reverse-append (entry ∷ []) past)
    ∙ by (cases_order k (length past)) (entry_at_back past (suc k))
  where
    by : (k ≡ length past) ⊎ ((k < length past) ⊎ (length past < k)) → slice_get (reverse past) k ≡ entry_back past (suc k)
        → slice_get (reverse past ++ entry ∷ []) k ≡ entry_back (entry ∷ past) (suc k)
    by (inl same) before =
        ap (λ (n : ℕ). slice_get (reverse past ++ entry ∷ []) n) (same ∙ sym (length-reverse past)) ∙ slice_here (reverse past) [] entry
        ∙ sym (ap (λ (n : ℕ). entry_back (entry ∷ past) (suc n)) same ∙ last_back entry past)
    by (inr (inl lt)) before =
        slice_front (reverse past) (entry ∷ []) k (omega (arith, lt, length-reverse past)) ∙ before ∙ sym (within_back entry past (suc k) (omega (arith, lt)))
    by (inr (inr gt)) before =
        slice_beyond (reverse past ++ entry ∷ []) k (omega (arith, gt, length-reverse past, length-append (reverse past) (entry ∷ [])))
        ∙ sym (grind (arith, nat_tests, gt))

-- the commits in effect, record by record
pub effective_is_back : (history : History) (n : ℕ) → effective history n ≡ effective_back (reverse history) n
effective_is_back history n =
    positions_agree (λ x. is_commit (entry_at history x) && live history n x) (counts (reverse history) n) (length history)
    (λ x le. ap (λ (o : Option LogEntry). is_commit o && live history n x)
    (ap (λ (h : History). entry_at h x) (sym (reverse-reverse history)) ∙ entry_at_back (reverse history) x))
    ∙ ap (λ (k : ℕ). filter (counts (reverse history) n) (positions k)) (sym (length-reverse history))
    ∙ filter_is_back (reverse history) n

-- records above n make no difference at n
pub newer_back : (newer past : List LogEntry) (n : ℕ) → n ≤ length past → effective_back (newer ++ past) n ≡ effective_back past n
newer_back [] past n le = refl
newer_back (begin txn ∷ newer) past n le = newer_back newer past n le
newer_back (write txn patch ∷ newer) past n le = newer_back newer past n le
newer_back (abort txn ∷ newer) past n le = newer_back newer past n le
newer_back (commit txn time ∷ newer) past n le =
    let above : nat_le (suc (length (newer ++ past))) n ≡ false = grind (arith, nat_tests, le, length-append newer past) in
    ap (λ (b : Bool). effective_back (newer ++ past) n ++ (if b then suc (length (newer ++ past)) ∷ [] else [])) above
    ∙ append-nil (effective_back (newer ++ past) n) ∙ newer_back newer past n le
newer_back (reset restore target time ∷ newer) past n le =
    let above : nat_lt n (suc (length (newer ++ past))) ≡ true = grind (arith, nat_tests, le, length-append newer past) in
    ap (λ (b : Bool). if b then effective_back (newer ++ past) n else (if nat_lt target (suc (length (newer ++ past))) then effective_back (newer ++ past) target else [])) above
    ∙ newer_back newer past n le

-- what a record is among those newest first
pub parts_back : (back : List LogEntry) (x : ℕ) (entry : LogEntry) → entry_back back x ≡ Some entry
    → (newer : List LogEntry) × (past : List LogEntry) × (back ≡ newer ++ entry ∷ past) × (x ≡ suc (length past))
parts_back [] x entry is = absurd (none_some is)
parts_back (last ∷ past) x entry is = by (cases_le x (length past)) (parts_back past x entry)
  where
    by : (x ≤ length past) ⊎ (length past < x)
        → (entry_back past x ≡ Some entry → (newer : List LogEntry) × (older : List LogEntry) × (past ≡ newer ++ entry ∷ older) × (x ≡ suc (length older)))
        → (newer : List LogEntry) × (older : List LogEntry) × (last ∷ past ≡ newer ++ entry ∷ older) × (x ≡ suc (length older))
    by (inl le) deeper =
        let found = deeper (sym (within_back last past x le) ∙ is) in
        (last ∷ found.0, found.1, ap (λ (l : List LogEntry). last ∷ l) found.2, found.3)
    by (inr gt) deeper = here (cases_le x (suc (length past)))
      where
        here : (x ≤ suc (length past)) ⊎ (suc (length past) < x)
            → (newer : List LogEntry) × (older : List LogEntry) × (last ∷ past ≡ newer ++ entry ∷ older) × (x ≡ suc (length older))
        here (inl le) =
            let at : x ≡ suc (length past) = omega (arith, le, gt) in
            let same : Some last ≡ Some entry = sym (last_back last past) ∙ ap (λ (n : ℕ). entry_back (last ∷ past) n) (sym at) ∙ is in
            ([], past, ap (λ (e : LogEntry). e ∷ past) (some_same same), at)
        here (inr beyond) = absurd (none_some (sym (grind (arith, nat_tests, beyond)) ∙ is))

-- A Reset goes back: the commits in effect at it are those at its target.
pub effective_at_reset : (history : History) (x restore target time : ℕ) → entry_at history x ≡ Some (reset restore target time) → target < x
    → effective history x ≡ effective history target
effective_at_reset history x restore target time is lt =
    effective_is_back history x ∙ both ∙ sym (effective_is_back history target)
  where
    back : List LogEntry
    back = reverse history

    found : (newer : List LogEntry) × (past : List LogEntry) × (reverse history ≡ newer ++ reset restore target time ∷ past) × (x ≡ suc (length past))
    found = parts_back (reverse history) x (reset restore target time)
        (sym (entry_at_back (reverse history) x) ∙ ap (λ (h : History). entry_at h x) (reverse-reverse history) ∙ is)

    at : (n : ℕ) → n ≤ suc (length found.1) → effective_back (reverse history) n ≡ effective_back (reset restore target time ∷ found.1) n
    at n le = ap (λ (l : List LogEntry). effective_back l n) found.2 ∙ newer_back found.0 (reset restore target time ∷ found.1) n le

    both : effective_back (reverse history) x ≡ effective_back (reverse history) target
    both = at x (omega (arith, found.3)) ∙ grind (arith, nat_tests, lt, found.3) ∙ sym (at target (omega (arith, lt, found.3)))

-- Records behind a position make no difference at it.
pub effective_before : (history batch : History) (n : ℕ) → n ≤ length history → effective (history ++ batch) n ≡ effective history n
effective_before history batch n le =
    effective_is_back (history ++ batch) n
    ∙ ap (λ (l : List LogEntry). effective_back l n) (reverse-append history batch)
    ∙ newer_back (reverse batch) (reverse history) n (omega (arith, le, length-reverse history))
    ∙ sym (effective_is_back history n)

pub filter_filter : (p q : ℕ → Bool) (xs : List ℕ) → filter q (filter p xs) ≡ filter (λ x. p x && q x) xs
filter_filter p q [] = refl
filter_filter p q (x ∷ xs) = by (p x) (filter_filter p q xs)
  where
    by : (b : Bool) → filter q (filter p xs) ≡ filter (λ y. p y && q y) xs
        → filter q (if b then x ∷ filter p xs else filter p xs) ≡ (if b && q x then x ∷ filter (λ y. p y && q y) xs else filter (λ y. p y && q y) xs)
    by true rest = ap (λ (l : List ℕ). if q x then x ∷ l else l) rest
    by false rest = rest

-- Where a position is live, the commits in effect are those at it, and those above it.
pub effective_along : (history : History) (q a : ℕ) → live history q a ≡ true
    → effective history q ≡ effective history a ++ filter (λ x. nat_lt a x) (effective history q)
effective_along history q a is =
    positions_part at_q a (length history)
    ∙ ap (λ (front : List ℕ). front ++ filter (λ x. at_q x && nat_lt a x) (positions (length history)))
    (positions_agree (λ x. at_q x && nat_le x a) at_a (length history) (λ x le. same x (cases_le x a)))
    ∙ ap (λ (rest : List ℕ). effective history a ++ rest) (sym (filter_filter at_q (λ x. nat_lt a x) (positions (length history))))
  where
    at_q : ℕ → Bool
    at_q x = is_commit (entry_at history x) && live history q x

    at_a : ℕ → Bool
    at_a x = is_commit (entry_at history x) && live history a x

    same : (x : ℕ) → (x ≤ a) ⊎ (a < x) → (is_commit (entry_at history x) && live history q x) && nat_le x a ≡ is_commit (entry_at history x) && live history a x
    same x (inl le) = grind (arith, nat_tests, le, live_along (reset_points history) q a x is le)
    same x (inr gt) =
        let within : live history a x ≡ true → x ≤ a = live_within (reset_points history) a x in
        grind (arith, nat_tests, gt, within)
