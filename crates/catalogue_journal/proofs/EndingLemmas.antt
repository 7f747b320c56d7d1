-- What the records of a transaction say behind those before it.
use Rattle.std.proofs.Common.{◌≡◌, ℕ, ◌+◌, ◌-◌, ◌/◌, ◌<◌, ◌≤◌, min, max, Bool, true, false, nat_eq, List, [], ◌∷◌, ◌++◌, length, take, drop, map, Option, Some, None, refl, sym, ap, ◌∙◌, subst, zero, suc, arith, ⊎_elim}
use Rattle.std.specs.Prelude.{◌&&◌, if◌then◌else◌, nat_lt, nat_le, is_none}
use Rattle.std.proofs.lemmas.Bool.{eq-eqb, ne_eqb, lt-ltb, le-leb, leb-true, cases_lt}
use Rattle.std.proofs.lemmas.List.{length-append, length-take, length-drop, take_all, append_assoc, take-append-drop}
use Rattle.block_chain.specs.Blocks.{AreMaximal}
use Rattle.block_chain.specs.declared.runs.Run.{Run}
use Rattle.catalogue_slots.specs.Records.{Object, Record, add, more, del, base, slots_for, mores, records_of}
use Rattle.block_chain.specs.Blocks.{blocks_for, blocks_in}
use Rattle.catalogue_replay.specs.Contents.{has_copy, without}
use Rattle.catalogue_journal.specs.Transactions.{without_all, AreLive}
use Rattle.catalogue_replay.proofs.FollowLemmas.{follow-append}
use Rattle.catalogue_replay.specs.Journal.{Rest, State, end_of, begin_of, with_runs, may_continue, taken, next, after, follow}

-- a record that may come may come too where more slots are used
taken-more : (used others : ℕ) (s t : State) (x : Record) → used ≤ others → taken used s x ≡ Some t → taken others s x ≡ Some t
taken-more used others s t (add count object) le e = by (is_none s.rest && nat_lt s.added object.copy) (nat_le (s.read + slots_for count) used) refl e
  where
    by : (a b : Bool) → nat_le (s.read + slots_for count) used ≡ b
        → (if a && b then with_runs (record s { last = max s.last object.copy; added = object.copy }) count object else None) ≡ Some t
        → (if a && nat_le (s.read + slots_for count) others then with_runs (record s { last = max s.last object.copy; added = object.copy }) count object else None) ≡ Some t
    by true true is e = rw (le-leb (s.read + slots_for count) others (omega (arith, leb-true (s.read + slots_for count) used is))) e
    by true false is e = cc
    by false b is e = cc
taken-more used others s t (more copy runs) le e = e
taken-more used others s t (del copy) le e = e
taken-more used others s t (base last) le e = e

pub follow-more : (used others : ℕ) (s t : State) (xs : List Record) → used ≤ others → follow used s xs ≡ Some t → follow others s xs ≡ Some t
follow-more used others s t [] le e = e
follow-more used others s t (x ∷ xs) le e =
    through (taken used s x) refl e (λ (u : State) (h : taken used s x ≡ Some u). taken-more used others s u x le h)
    (λ (u : State) (h : follow used u xs ≡ Some t). follow-more used others u t xs le h)
  where
    counted : State → State
    counted u = record u { read = u.read + 1 }

    through : (o : Option State) → taken used s x ≡ o → next (next o (λ u. Some (record u { read = u.read + 1 }))) (λ u. follow used u xs) ≡ Some t
        → ((u : State) → taken used s x ≡ Some u → taken others s x ≡ Some u) → ((u : State) → follow used u xs ≡ Some t → follow others u xs ≡ Some t)
        → next (next (taken others s x) (λ u. Some (record u { read = u.read + 1 }))) (λ u. follow others u xs) ≡ Some t
    through None is e same step = cc
    through (Some u) is e same step = rw (same u is) (step (record u { read = u.read + 1 }) e)

-- deletions
take_del : (used : ℕ) (s : State) (copy : ℕ) → s.rest ≡ None → has_copy copy s.objects ≡ true → taken used s (del copy) ≡ Some (record s { objects = without copy s.objects })
take_del used s copy whole live = rw (whole, live) refl

pub follow_dels : (used : ℕ) (s : State) (copies : List ℕ) → s.rest ≡ None → AreLive copies s.objects
    → follow used s (map del copies) ≡ Some (record s { read = s.read + length copies; objects = without_all copies s.objects })
follow_dels used s [] whole live = ap (λ (n : ℕ). Some (record s { read = n })) (omega arith)
follow_dels used s (copy ∷ copies) whole live =
    let place : s.read + 1 + length copies ≡ s.read + suc (length copies) = omega arith in
    ap (λ (o : Option State). next (next o (λ u. Some (record u { read = u.read + 1 }))) (λ u. follow used u (map del copies))) (take_del used s copy whole live.0)
    ∙ follow_dels used (record s { read = s.read + 1; objects = without copy s.objects }) copies whole live.1
    ∙ ap (λ (n : ℕ). Some (record s { read = n; objects = without_all copies (without copy s.objects) })) place

-- objects
pub with_all : (s : State) (count : ℕ) (object : Object) → length object.runs ≡ count → blocks_in object.runs ≡ blocks_for object.size
    → with_runs s count object ≡ Some (record s { objects = s.objects ++ object ∷ []; rest = None })
with_all s count object all sum = rw (eq-eqb (length object.runs) count all, eq-eqb (blocks_in object.runs) (blocks_for object.size) sum) refl

pub with_some : (s : State) (count : ℕ) (object : Object) → (length object.runs ≡ count → ⊥)
    → with_runs s count object ≡ Some (record s { rest = Some (record { count = count; object = object }) })
with_some s count object ne = rw (ne_eqb (length object.runs) count ne) refl

-- runs that part a list whose runs are maximal don't touch
apart_runs : (front back : List Run) → 1 ≤ length front → 1 ≤ length back → AreMaximal (front ++ back) → end_of front ≡ begin_of back → ⊥
apart_runs [] back some others are e = absurd (omega arith)
apart_runs (r ∷ []) [] some others are e = absurd (omega arith)
apart_runs (r ∷ []) (b ∷ bs) some others are e = are.1 (sym e)
apart_runs (r ∷ s ∷ rs) back some others are e = apart_runs (s ∷ rs) back (omega arith) others are.2 e

begin_of-take : (n : ℕ) (runs : List Run) → 1 ≤ n → begin_of (take n runs) ≡ begin_of runs
begin_of-take zero runs lt = absurd (omega arith)
begin_of-take (suc n) [] lt = refl
begin_of-take (suc n) (r ∷ rs) lt = refl

abbrev rest_with : ℕ → Object → List Run → Rest
rest_with count object runs = record { count = count; object = record object { runs = runs } }

-- the next More of an object may come
continues : (object : Object) (front back : List Run) → 1 ≤ length front → 1 ≤ length back → AreMaximal (front ++ back)
    → may_continue (rest_with (length front + length back) object front) object.copy (take 510 back) ≡ true
continues object front back some others are =
    let copies : nat_eq object.copy object.copy ≡ true = eq-eqb object.copy object.copy refl in
    let lengths : nat_eq (length (take 510 back)) (min 510 (length front + length back - length front)) ≡ true =
    eq-eqb (length (take 510 back)) (min 510 (length front + length back - length front)) (omega (arith, length-take 510 back)) in
    let apart : nat_eq (end_of front) (begin_of (take 510 back)) ≡ false =
    ne_eqb (end_of front) (begin_of (take 510 back)) (λ (e : end_of front ≡ begin_of (take 510 back)). apart_runs front back some others are (e ∙ begin_of-take 510 back (omega arith))) in
    rw (copies, lengths, apart) refl

take_more_runs : (used : ℕ) (s : State) (object : Object) (front back : List Run) → 1 ≤ length front → 1 ≤ length back → AreMaximal (front ++ back)
    → taken used (record s { rest = Some (rest_with (length front + length back) object front) }) (more object.copy (take 510 back))
    ≡ with_runs (record s { rest = None }) (length front + length back) (record object { runs = front ++ take 510 back })
take_more_runs used s object front back some others are = rw (continues object front back some others are) refl

pub follow_mores : (n used : ℕ) (s : State) (object : Object) (front back : List Run) → 1 ≤ length front → 1 ≤ length back → n ≡ (length back + 509) / 510
    → AreMaximal (front ++ back) → blocks_in (front ++ back) ≡ blocks_for object.size
    → follow used (record s { rest = Some (rest_with (length front + length back) object front) }) (mores object.copy n back)
    ≡ Some (record s { read = s.read + n; objects = s.objects ++ record object { runs = front ++ back } ∷ []; rest = None })
follow_mores zero used s object front back some others count are sum = absurd (omega arith)
follow_mores (suc n) used s object front back some others count are sum =
    ap (λ (o : Option State). next (next o (λ u. Some (record u { read = u.read + 1 }))) (λ u. follow used u (mores object.copy n (drop 510 back))))
    (take_more_runs used s object front back some others are)
    ∙ ⊎_elim
    (λ (lt : 510 < length back). behind lt (follow_mores n used (record s { read = s.read + 1 }) object (front ++ take 510 back) (drop 510 back)
    (omega (arith, length-append front (take 510 back))) (omega (arith, length-drop 510 back)) (omega (arith, length-drop 510 back))
    (subst AreMaximal parts are) (ap blocks_in (sym parts) ∙ sum)))
    (λ (le : length back ≤ 510). last le) (cases_lt 510 (length back))
  where
    parts : front ++ back ≡ (front ++ take 510 back) ++ drop 510 back
    parts = ap (λ (l : List Run). front ++ l) (sym (take-append-drop 510 back)) ∙ sym (append_assoc front (take 510 back) (drop 510 back))

    counts : length front + length back ≡ length (front ++ take 510 back) + length (drop 510 back)
    counts = omega (arith, length-append front (take 510 back), length-take 510 back, length-drop 510 back)

    last : length back ≤ 510
        → next (next (with_runs (record s { rest = None }) (length front + length back) (record object { runs = front ++ take 510 back })) (λ u. Some (record u { read = u.read + 1 })))
        (λ u. follow used u (mores object.copy n (drop 510 back)))
        ≡ Some (record s { read = s.read + suc n; objects = s.objects ++ record object { runs = front ++ back } ∷ []; rest = None })
    last le =
        let none : n ≡ 0 = omega arith in
        let all : front ++ take 510 back ≡ front ++ back = ap (λ (l : List Run). front ++ l) (take_all 510 back le) in
        let whole = with_all (record s { rest = None }) (length front + length back) (record object { runs = front ++ back }) (length-append front back) sum in
        ap (λ (l : List Run). next (next (with_runs (record s { rest = None }) (length front + length back) (record object { runs = l })) (λ u. Some (record u { read = u.read + 1 }))) (λ u. follow used u (mores object.copy n (drop 510 back)))) all
        ∙ ap (λ (o : Option State). next (next o (λ u. Some (record u { read = u.read + 1 }))) (λ u. follow used u (mores object.copy n (drop 510 back)))) whole
        ∙ ap (λ (m : ℕ). follow used (record s { read = s.read + 1; objects = s.objects ++ record object { runs = front ++ back } ∷ []; rest = None }) (mores object.copy m (drop 510 back))) none
        ∙ ap (λ (m : ℕ). Some (record s { read = s.read + m; objects = s.objects ++ record object { runs = front ++ back } ∷ []; rest = None })) (omega arith)

    behind : 510 < length back
        → follow used (record s { read = s.read + 1; rest = Some (rest_with (length (front ++ take 510 back) + length (drop 510 back)) object (front ++ take 510 back)) }) (mores object.copy n (drop 510 back))
        ≡ Some (record s { read = s.read + 1 + n; objects = s.objects ++ record object { runs = (front ++ take 510 back) ++ drop 510 back } ∷ []; rest = None })
        → next (next (with_runs (record s { rest = None }) (length front + length back) (record object { runs = front ++ take 510 back })) (λ u. Some (record u { read = u.read + 1 })))
        (λ u. follow used u (mores object.copy n (drop 510 back)))
        ≡ Some (record s { read = s.read + suc n; objects = s.objects ++ record object { runs = front ++ back } ∷ []; rest = None })
    behind lt step =
        let some = with_some (record s { rest = None }) (length front + length back) (record object { runs = front ++ take 510 back })
        (λ (e : length (front ++ take 510 back) ≡ length front + length back). absurd (omega (arith, e, length-append front (take 510 back), length-take 510 back))) in
        ap (λ (o : Option State). next (next o (λ u. Some (record u { read = u.read + 1 }))) (λ u. follow used u (mores object.copy n (drop 510 back)))) some
        ∙ ap (λ (m : ℕ). follow used (record s { read = s.read + 1; rest = Some (rest_with m object (front ++ take 510 back)) }) (mores object.copy n (drop 510 back))) counts
        ∙ step
        ∙ ap (λ (m : ℕ). Some (record s { read = m; objects = s.objects ++ record object { runs = (front ++ take 510 back) ++ drop 510 back } ∷ []; rest = None })) (omega arith)
        ∙ ap (λ (l : List Run). Some (record s { read = s.read + suc n; objects = s.objects ++ record object { runs = l } ∷ []; rest = None })) (sym parts)

abbrev begun : State → Object → State
begun s object = record s { last = max s.last object.copy; added = object.copy }

take_add : (used : ℕ) (s : State) (object : Object) (count : ℕ) → s.rest ≡ None → s.added < object.copy → s.read + slots_for count ≤ used
    → taken used s (add count object) ≡ with_runs (begun s object) count object
take_add used s object count whole rises room =
    rw (whole, lt-ltb s.added object.copy rises, le-leb (s.read + slots_for count) used room) refl

-- all records of an object
pub follow_object : (used : ℕ) (s : State) (object : Object) → s.rest ≡ None → s.added < object.copy → s.read + slots_for (length object.runs) ≤ used
    → AreMaximal object.runs → blocks_in object.runs ≡ blocks_for object.size
    → follow used s (records_of object)
    ≡ Some (record s { read = s.read + slots_for (length object.runs); last = max s.last object.copy; added = object.copy; objects = s.objects ++ object ∷ [] })
follow_object used s object whole rises room are sum =
    ap (λ (o : Option State). next (next o (λ u. Some (record u { read = u.read + 1 }))) (λ u. follow used u (mores object.copy (slots_for (length object.runs) - 1) (drop 177 object.runs))))
    (take_add used s (record object { runs = take 177 object.runs }) (length object.runs) whole rises room)
    ∙ ⊎_elim
    (λ (lt : 177 < length object.runs). behind lt)
    (λ (le : length object.runs ≤ 177). last le) (cases_lt 177 (length object.runs))
    ∙ ap (λ (r : Option Rest). Some (record s { read = s.read + slots_for (length object.runs); last = max s.last object.copy; added = object.copy; objects = s.objects ++ object ∷ []; rest = r })) (sym whole)
  where
    last : length object.runs ≤ 177
        → next (next (with_runs (begun s object) (length object.runs) (record object { runs = take 177 object.runs })) (λ u. Some (record u { read = u.read + 1 })))
        (λ u. follow used u (mores object.copy (slots_for (length object.runs) - 1) (drop 177 object.runs)))
        ≡ Some (record s { read = s.read + slots_for (length object.runs); last = max s.last object.copy; added = object.copy; objects = s.objects ++ object ∷ []; rest = None })
    last le =
        let none : slots_for (length object.runs) - 1 ≡ 0 = omega arith in
        ap (λ (l : List Run). next (next (with_runs (begun s object) (length object.runs) (record object { runs = l })) (λ u. Some (record u { read = u.read + 1 })))
        (λ u. follow used u (mores object.copy (slots_for (length object.runs) - 1) (drop 177 object.runs)))) (take_all 177 object.runs le)
        ∙ ap (λ (o : Option State). next (next o (λ u. Some (record u { read = u.read + 1 }))) (λ u. follow used u (mores object.copy (slots_for (length object.runs) - 1) (drop 177 object.runs))))
        (with_all (begun s object) (length object.runs) object refl sum)
        ∙ ap (λ (m : ℕ). follow used (record (begun s object) { read = s.read + 1; objects = s.objects ++ object ∷ []; rest = None }) (mores object.copy m (drop 177 object.runs))) none
        ∙ ap (λ (m : ℕ). Some (record (begun s object) { read = s.read + m; objects = s.objects ++ object ∷ []; rest = None })) (omega arith)

    behind : 177 < length object.runs
        → next (next (with_runs (begun s object) (length object.runs) (record object { runs = take 177 object.runs })) (λ u. Some (record u { read = u.read + 1 })))
        (λ u. follow used u (mores object.copy (slots_for (length object.runs) - 1) (drop 177 object.runs)))
        ≡ Some (record s { read = s.read + slots_for (length object.runs); last = max s.last object.copy; added = object.copy; objects = s.objects ++ object ∷ []; rest = None })
    behind lt =
        let counts : length object.runs ≡ length (take 177 object.runs) + length (drop 177 object.runs) = omega (arith, length-take 177 object.runs, length-drop 177 object.runs) in
        let whole_runs : take 177 object.runs ++ drop 177 object.runs ≡ object.runs = take-append-drop 177 object.runs in
        let step = follow_mores (slots_for (length object.runs) - 1) used (record (begun s object) { read = s.read + 1 }) object (take 177 object.runs) (drop 177 object.runs)
        (omega (arith, length-take 177 object.runs)) (omega (arith, length-drop 177 object.runs)) (omega (arith, length-drop 177 object.runs))
        (subst AreMaximal (sym whole_runs) are) (ap blocks_in whole_runs ∙ sum) in
        ap (λ (o : Option State). next (next o (λ u. Some (record u { read = u.read + 1 }))) (λ u. follow used u (mores object.copy (slots_for (length object.runs) - 1) (drop 177 object.runs))))
        (with_some (begun s object) (length object.runs) (record object { runs = take 177 object.runs })
        (λ (e : length (take 177 object.runs) ≡ length object.runs). absurd (omega (arith, e, length-take 177 object.runs))))
        ∙ ap (λ (m : ℕ). follow used (record (begun s object) { read = s.read + 1; rest = Some (rest_with m object (take 177 object.runs)) }) (mores object.copy (slots_for (length object.runs) - 1) (drop 177 object.runs))) counts
        ∙ step
        ∙ ap (λ (m : ℕ). Some (record (begun s object) { read = m; objects = s.objects ++ record object { runs = take 177 object.runs ++ drop 177 object.runs } ∷ []; rest = None })) (omega arith)
        ∙ ap (λ (l : List Run). Some (record (begun s object) { read = s.read + slots_for (length object.runs); objects = s.objects ++ record object { runs = l } ∷ []; rest = None })) whole_runs
