-- The table as a board is made, and as it is closed.
use Rattle.std.proofs.Common.{◌≡◌, ℕ, zero, suc, ◌+◌, ◌<◌, ◌≤◌, ◌≢◌, Bool, false, List, [], ◌∷◌, ◌++◌, map, length, take, get_or, set, get_or-set_other, add-one, sym, refl, ap, ◌∙◌, subst, inl, arith}
use mathlib.Core.Option.{Option, some, some-injective, some-ne-none}
use mathlib.Core.Logic.{dite}
use native.Mathlib.Decide.{ℕ_discrete, dec_lt}
use lib.ListN.{get_elem?, length-map}
use Rattle.atomic_table.specs.Table.{State, opening, Final, Seen}
use Rattle.atomic_table.proofs.Lists.{at_map}
use Rattle.stream_board.specs.declared.rule.CountedJob.{CountedJob}
use Rattle.stream_board.specs.declared.rule.View.{View}
use Rattle.stream_board.specs.Views.{total, once, next, counted, fresh, holds, lists, in_round}
use Rattle.stream_board.specs.Rule.{Sits, Place, waits, out, back, beyond, Rule}
use Rattle.stream_board.proofs.Sums.{there, past}
use Rattle.stream_board.proofs.DrawFinish.{idle_not_spent, idle_not_resting}
use Rattle.stream_board.proofs.RestWake.{alone_holds, alone_lists}

emptied_there : (fs : List Bool) (i : ℕ) → get_or (set fs i false) i false ≡ false
emptied_there [] i = refl
emptied_there (f ∷ fs) zero = refl
emptied_there (f ∷ fs) (suc i) = emptied_there fs i

emptied_else : (fs : List Bool) (i k : ℕ) → k ≢ i → get_or (set fs i false) k false ≡ get_or fs k false
emptied_else fs i k n = rw get_or-set_other refl

-- one more place is empty
pub emptied : (fs : List Bool) (i : ℕ) → ((k : ℕ) → k < i → get_or fs k false ≡ false) → (k : ℕ) → k < i + 1 → get_or (set fs i false) k false ≡ false
emptied fs i below k lt = dite (ℕ_discrete k i) (λ (e : k ≡ i). subst (λ (n : ℕ). get_or (set fs i false) n false ≡ false) (sym e) (emptied_there fs i))
    (λ (n : k ≢ i). emptied_else fs i k n ∙ below k (omega arith))

module _ {J : Type 0} where
  abbrev at_first : J → CountedJob J
  at_first x = counted x 0

  abbrev homes_of : List J → List (Option (CountedJob J))
  homes_of xs = map some (map at_first xs)

  none_ran : (xs : List J) → total (in_round (next 0)) (homes_of xs) ≡ 0
  none_ran [] = refl
  none_ran (x ∷ xs) = let h = none_ran xs in let z : once 0 (next 0) ≡ 0 = refl in omega arith

  first_sits : (xs : List J) (k : ℕ) (u : View J) → get_elem? (fresh 1 16 xs ∷ []) k ≡ some u → Sits 0 xs (homes_of xs) u
  first_sits xs zero u e = subst (Sits 0 xs (homes_of xs)) (some-injective (fresh 1 16 xs) u e) record {
    missed = omega arith;
    of_round = λ h. (refl, refl);
    spent = λ z. absurd (omega arith);
    only_spent = λ q. absurd (idle_not_spent refl q);
    rests = λ q. absurd (idle_not_resting refl q);
    listed = tt;
  }
  first_sits xs (suc k) u e = absurd (some-ne-none u (sym e))

  long_homes : (xs : List J) → length (homes_of xs) ≡ length xs
  long_homes xs = length-map (map at_first xs) some ∙ length-map xs at_first

  pub opens : (xs : List J) (slots : List (CountedJob J)) → length xs ≤ 16 → slots ≡ map (λ x. counted x 0) xs → Rule (opening (0 ∷ 0 ∷ []) slots (fresh 1 16 xs))
  opens xs slots few is =
      let long = long_homes xs in
      subst (λ (l : List (CountedJob J)). Rule (opening (0 ∷ 0 ∷ []) l (fresh 1 16 xs))) (sym is) record {
        before = 0;
        claim = 0;
        start = xs;
        fits = omega arith;
        two = refl;
        few = omega arith;
        wide = sym long;
        parts = refl;
        word = inl (refl, refl);
        most = omega arith;
        least = λ h. absurd (omega arith);
        draws = refl;
        each_view = first_sits xs;
        each_place = λ j. dite (dec_lt j (length xs))
            (λ (lt : j < length xs). let x = there xs j lt in
            waits x.0 (omega arith) x.1 (at_map some (map at_first xs) j (at_first x.0) (at_map at_first xs j x.0 x.1)) refl refl)
            (λ (no : ¬ (j < length xs)). beyond (past (homes_of xs) j (omega arith)) refl refl);
        done = sym (none_ran xs);
      }

  -- what the table has of job j, where the only seat has drawn nothing
  waits_at : (s : State (CountedJob J) (View J)) (r : Rule s) (id round : ℕ) (xs : List J) → get_elem? s.views id ≡ some (fresh round 16 xs) → (j : ℕ) → j < length xs
      → Place r.before r.claim r.start j (get_elem? s.homes j) (total (holds j) s.views) (total (lists j) s.views)
      → (b : CountedJob J) × (get_elem? s.homes j ≡ some (some b)) × (get_elem? xs j ≡ some b.job)
  waits_at s r id round xs at j lt (waits x le begins home mn ln) =
      let start = ((r.each_view id (fresh round 16 xs) at).of_round (omega arith)).1 in
      (counted x r.before, home, ap (λ (l : List J). get_elem? l j) start ∙ begins)
  waits_at s r id round xs at j lt (out l home mn ln) = let h = alone_holds id (fresh round 16 xs) refl s r at j in absurd (omega arith)
  waits_at s r id round xs at j lt (back y l home mn ln) = let h = alone_lists id (fresh round 16 xs) refl s r at j in absurd (omega arith)
  waits_at s r id round xs at j lt (beyond home mn ln) =
      let start = ((r.each_view id (fresh round 16 xs) at).of_round (omega arith)).1 in
      let same : length xs ≡ length s.homes = ap length start ∙ r.wide in
      let h = there s.homes j (omega arith) in absurd (some-ne-none h.0 (sym h.1 ∙ home))

  pub closes : (id round : ℕ) (v : View J) (xs : List J) (words : List ℕ) (slots : List (CountedJob J)) → v ≡ fresh round 16 xs → Final (Seen Rule id v) words slots
      → (j : ℕ) → j < length xs → (b : CountedJob J) × (get_elem? slots j ≡ some b) × (get_elem? xs j ≡ some b.job)
  closes id round v xs words slots is fin j lt =
      let s = fin.0 in
      let r = fin.1.0 in
      let at : get_elem? s.views id ≡ some (fresh round 16 xs) = fin.1.1 ∙ ap some is in
      let w = waits_at s r id round xs at j lt (r.each_place j) in
      (w.0, fin.4 j w.0 w.1, w.2)

  pub jobs_again : (xs : List J) → map (λ (s : CountedJob J). s.job) (map at_first xs) ≡ xs
  jobs_again [] = refl
  jobs_again (x ∷ xs) = ap (λ (l : List J). x ∷ l) (jobs_again xs)

  -- the slots have these jobs
  pub jobs_are : (slots : List (CountedJob J)) (xs : List J) → length slots ≡ length xs
      → ((j : ℕ) → j < length xs → (b : CountedJob J) × (get_elem? slots j ≡ some b) × (get_elem? xs j ≡ some b.job)) → map (λ (s : CountedJob J). s.job) slots ≡ xs
  jobs_are [] [] long each = refl
  jobs_are [] (x ∷ xs) long each = absurd (omega arith)
  jobs_are (s ∷ ss) [] long each = absurd (omega arith)
  jobs_are (s ∷ ss) (x ∷ xs) long each =
      let h = each 0 (omega arith) in
      let here : s.job ≡ x = ap (λ (b : CountedJob J). b.job) (some-injective s h.0 h.1) ∙ sym (some-injective x h.0.job h.2) in
      let others = jobs_are ss xs (omega arith) (λ j lt. each (suc j) (omega arith)) in
      λ k. here k ∷ others k

  take_more : (slots : List (CountedJob J)) (i : ℕ) (s : CountedJob J) → get_elem? slots i ≡ some s
      → map (λ (s : CountedJob J). s.job) (take (suc i) slots) ≡ map (λ (s : CountedJob J). s.job) (take i slots) ++ s.job ∷ []
  take_more [] i s e = absurd (some-ne-none s (sym e))
  take_more (x ∷ xs) zero s e = ap (λ (b : CountedJob J). b.job ∷ []) (some-injective x s e)
  take_more (x ∷ xs) (suc i) s e = ap (λ (l : List J). x.job ∷ l) (take_more xs i s e)

  pub took_one : (jobs jobs' : List J) (slots all : List (CountedJob J)) (i : ℕ) (s : CountedJob J) → slots ≡ all → get_elem? slots i ≡ some s
      → jobs ≡ map (λ (s : CountedJob J). s.job) (take i all) → jobs' ≡ jobs ++ s.job ∷ [] → jobs' ≡ map (λ (s : CountedJob J). s.job) (take (i + 1) all)
  took_one jobs jobs' slots all i s same at had has =
      has ∙ ap (λ (l : List J). l ++ s.job ∷ []) had ∙ sym (take_more all i s (subst (λ (l : List (CountedJob J)). get_elem? l i ≡ some s) same at))
      ∙ ap (λ (k : ℕ). map (λ (s : CountedJob J). s.job) (take k all)) (sym (add-one i))
