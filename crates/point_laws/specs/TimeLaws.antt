-- Times of a log in order: how long a front is by a time.
use Rattle.std.specs.Prelude.{◌≡◌, ℕ, suc, ◌+◌, ◌<◌, ◌≤◌, List, [], ◌∷◌, ◌++◌, length, take, drop, reverse, Bool, true, false, nat_le, cond}
use Rattle.std.specs.List.{AllByRecursion, prefix_len}
use Rattle.std.proofs.Common.{arith, refl, sym, ap, subst, ◌∙◌, length-take, take-append-drop}
use Rattle.std.proofs.lemmas.Bool.Decides.{nat_tests}
use Rattle.std.proofs.lemmas.List.{reverse-append, reverse-reverse}
use Rattle.log_history.specs.History.{LogEntry, History, begin, write, commit, abort, reset}
use Rattle.log_history.specs.Transactions.{InOrder, InOrderBack, last_time, last_time_back}
use Rattle.world_laws.specs.ListLaws.{all_append}
use Rattle.backup_lines.specs.Spans.{is_by}
use Rattle.site_courses.specs.Plans.{by_time_at}

module _ {X : Type 0} where
  all_reverse : (P : X → Type 0) (xs : List X) → AllByRecursion P xs → AllByRecursion P (reverse xs)
  all_reverse P [] all = tt
  all_reverse P (x ∷ xs) all = subst (AllByRecursion P) (sym (reverse-append (x ∷ []) xs)) (all_append P (reverse xs) (x ∷ []) (all_reverse P xs all.1) (all.0, tt))

  -- a front that passes, and what follows it
  prefix_behind : (test : X → Bool) (xs ys : List X) → AllByRecursion (λ x. test x ≡ true) xs → prefix_len test (xs ++ ys) ≡ length xs + prefix_len test ys
  prefix_behind test [] ys all = omega arith
  prefix_behind test (x ∷ xs) ys all =
      ap (λ (b : Bool). cond b (1 + prefix_len test (xs ++ ys)) 0) all.0 ∙ omega (arith, prefix_behind test xs ys all.1)

  -- a front that doesn't pass
  prefix_within : (test : X → Bool) (xs ys : List X) → (AllByRecursion (λ x. test x ≡ true) xs → ⊥) → prefix_len test (xs ++ ys) < length xs
  prefix_within test [] ys some = absurd (some tt)
  prefix_within test (x ∷ xs) ys some = by (test x) refl (λ is. prefix_within test xs ys (λ all. some (is, all)))
    where
      by : (b : Bool) → test x ≡ b → (test x ≡ true → prefix_len test (xs ++ ys) < length xs) → cond b (1 + prefix_len test (xs ++ ys)) 0 < suc (length xs)
      by true is later = omega (arith, later is)
      by false is later = omega arith

-- up to a time that the last time doesn't pass

by_back : (time : ℕ) (back : List LogEntry) → InOrderBack back → last_time_back back ≤ time → AllByRecursion (λ entry. is_by time entry ≡ true) back
by_back time [] order le = tt
by_back time (begin txn ∷ past) order le = (refl, by_back time past order.1 le)
by_back time (write txn patch ∷ past) order le = (refl, by_back time past order.1 le)
by_back time (abort txn ∷ past) order le = (refl, by_back time past order.1 le)
by_back time (commit txn at ∷ past) order le = (grind (arith, nat_tests, le), by_back time past order.1 (omega (arith, order.0.1, le)))
by_back time (reset restore target at ∷ past) order le = (grind (arith, nat_tests, le), by_back time past order.1 (omega (arith, order.0.1, le)))

not_by_back : (time : ℕ) (back : List LogEntry) → time < last_time_back back → AllByRecursion (λ entry. is_by time entry ≡ true) back → ⊥
not_by_back time [] lt all = omega (arith, lt)
not_by_back time (begin txn ∷ past) lt all = not_by_back time past lt all.1
not_by_back time (write txn patch ∷ past) lt all = not_by_back time past lt all.1
not_by_back time (abort txn ∷ past) lt all = not_by_back time past lt all.1
not_by_back time (commit txn at ∷ past) lt all = later at lt all.0
  where
    later : (n : ℕ) → time < n → nat_le n time ≡ true → ⊥
    later n more is = grind (arith, nat_tests, more, is)
not_by_back time (reset restore target at ∷ past) lt all = later at lt all.0
  where
    later : (n : ℕ) → time < n → nat_le n time ≡ true → ⊥
    later n more is = grind (arith, nat_tests, more, is)

order_behind : (newer past : List LogEntry) → InOrderBack (newer ++ past) → InOrderBack past
order_behind [] past order = order
order_behind (entry ∷ newer) past order = order_behind newer past order.1

-- a front of a log in order is in order
pub order_front : (front rest : History) → InOrder (front ++ rest) → InOrder front
order_front front rest order = order_behind (reverse rest) (reverse front) (subst InOrderBack (reverse-append front rest) order)

by_front : (time : ℕ) (front : History) → InOrder front → last_time front ≤ time → AllByRecursion (λ entry. is_by time entry ≡ true) front
by_front time front order le = subst (AllByRecursion (λ entry. is_by time entry ≡ true)) (reverse-reverse front)
    (all_reverse (λ entry. is_by time entry ≡ true) (reverse front) (by_back time (reverse front) order le))

not_by_front : (time : ℕ) (front : History) → time < last_time front → AllByRecursion (λ entry. is_by time entry ≡ true) front → ⊥
not_by_front time front lt all = not_by_back time (reverse front) lt (all_reverse (λ entry. is_by time entry ≡ true) front all)

module _ (history : History) (n time : ℕ) (within : n ≤ length history) where
  long : length (take n history) ≡ n
  long = omega (arith, length-take n history, within)

  -- A time that the last time up to a position doesn't pass comes to that position at least: to it, and how much further the records behind it go.
  pub time_behind : InOrder history → last_time (take n history) ≤ time → by_time_at time history ≡ n + prefix_len (is_by time) (drop n history)
  time_behind order le =
      ap (prefix_len (is_by time)) (sym (take-append-drop n history))
      ∙ prefix_behind (is_by time) (take n history) (drop n history)
      (by_front time (take n history) (order_front (take n history) (drop n history) (subst InOrder (sym (take-append-drop n history)) order)) le)
      ∙ ap (λ (k : ℕ). k + prefix_len (is_by time) (drop n history)) long

  -- One that it passes comes to one before it.
  pub time_before_it : time < last_time (take n history) → by_time_at time history < n
  time_before_it lt = omega (
    arith,
    ap (prefix_len (is_by time)) (take-append-drop n history),
    prefix_within (is_by time) (take n history) (drop n history) (not_by_front time (take n history) lt),
    long,
  )
