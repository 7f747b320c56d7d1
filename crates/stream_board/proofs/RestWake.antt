-- A rest and a wake keep the rule: a seat with all shares and a miss has run every job.
use Rattle.std.proofs.Common.{◌≡◌, ◌≢◌, ◌⊎◌, ℕ, ◌+◌, ◌^◌, ◌<◌, ◌≤◌, List, [], ◌∷◌, length, get_or, set, sym, refl, ap, ◌∙◌, subst, ⊎_elim, inl, inr, length-set, arith}
use mathlib.Core.Option.{none, some, some-injective}
use mathlib.Core.Logic.{dite}
use native.Mathlib.Decide.{ℕ_discrete, dec_lt}
use lib.ListN.{get_elem?}
use Rattle.atomic_table.specs.Table.{State, Me, step, keeps, Allows}
use Rattle.atomic_table.proofs.Lists.{set_here, set_else}
use Rattle.stream_board.specs.declared.rule.CountedJob.{CountedJob}
use Rattle.stream_board.specs.declared.rule.JobRun.{JobRun}
use Rattle.stream_board.specs.declared.rule.View.{View}
use Rattle.stream_board.specs.declared.rule.Stage.{Stage}
use Rattle.stream_board.specs.declared.rule.Stage.TheVariants.{Idle, Resting, Spent}
use Rattle.stream_board.specs.Views.{total, Each, next, counted, shares, misses, awake, awake_at, held, holds, holds_at, lists, times, drawn, settled, in_round}
use Rattle.stream_board.specs.Rule.{Sits, Place, waits, out, back, beyond, Rule}
use Rattle.stream_board.specs.Steps.{resting, woken, rested, woke}
use Rattle.stream_board.proofs.Sums.{once_other, inside, outside, past, total-set, total_nothing, total_alone, others_none, each_set}
use Rattle.stream_board.proofs.Places.{claim_set, done_set, not_next, stays, idle_awake, steps}
use Rattle.stream_board.proofs.DrawFinish.{idle_not_spent, idle_not_resting}

pub resting_not_spent : {st : Stage} → st ≡ Resting → st ≢ Spent
resting_not_spent a b = cc

not_one_more : (r : ℕ) → next r ≢ next (next r)
not_one_more r e = let below : next r < 2 ^ 64 = omega arith in not_next (next r) below e

module _ {J : Type 0} where
  pub length-settled : (xs : List J) (es : List (JobRun J)) → length (settled xs es) ≡ length xs
  length-settled xs [] = refl
  length-settled xs (e ∷ es) = length-set (settled xs es) e.number e.value ∙ length-settled xs es

  -- a job that the list does not have keeps its value, and another's value is one that the list has for it
  pub settled_at : (Q : ℕ → J → Type 0) (xs : List J) (es : List (JobRun J)) (j : ℕ) → j < length xs → Each (λ e. Q e.number e.value) es
      → ((times j es ≡ 0) × (get_elem? (settled xs es) j ≡ get_elem? xs j)) ⊎ ((y : J) × Q j y × (get_elem? (settled xs es) j ≡ some y))
  settled_at Q xs [] j lt each = inl (refl, refl)
  settled_at Q xs (e ∷ es) j lt each =
      let long = length-settled xs es in
      dite (ℕ_discrete j e.number)
      (λ (q : j ≡ e.number). inr (
        e.value,
        subst (λ (k : ℕ). Q k e.value) (sym q) each.0,
        subst (λ (k : ℕ). get_elem? (set (settled xs es) e.number e.value) k ≡ some e.value) (sym q) (set_here (settled xs es) e.number e.value (omega arith)),
      ))
      (λ (n : j ≢ e.number).
      let other = once_other e.number j (λ q. n (sym q)) in
      let same = set_else (settled xs es) e.number j e.value n in
      ⊎_elim (λ (t : (times j es ≡ 0) × (get_elem? (settled xs es) j ≡ get_elem? xs j)). let z = t.0 in inl (omega arith, same ∙ t.1))
      (λ (t : (y : J) × Q j y × (get_elem? (settled xs es) j ≡ some y)). inr (t.0, t.1, same ∙ t.2)) (settled_at Q xs es j lt each.1))

  module _ (id : ℕ) (v : View J) (all : v.shares ≡ 16) (s : State (CountedJob J) (View J)) (r : Rule s) (at : get_elem? s.views id ≡ some v) where
    -- what a seat with no share has nothing of, the seat with all shares has all of
    alone : (f : View J → ℕ) → ((u : View J) → u.shares ≡ 0 → u.misses ≤ u.shares → u.stage ≡ Spent → u.runs ≡ [] → f u ≡ 0) → total f s.views ≡ f v
    alone f h = total_alone f shares s.views id v at (r.parts ∙ sym all)
        (λ k u e z. let sits = r.each_view k u e in let gone = sits.spent z in h u z sits.missed gone.0 gone.1)

    alone_misses : total misses s.views ≡ v.misses
    alone_misses = alone misses (λ u z m st es. omega arith)

    alone_awake : total awake s.views ≡ awake v
    alone_awake = alone awake (λ u z m st es. ap (awake_at u.shares) st ∙ z)

    alone_drawn : total drawn s.views ≡ drawn v
    alone_drawn = alone drawn (λ u z m st es. let h : held u.stage ≡ 0 = ap held st in let l : length u.runs ≡ 0 = ap length es in omega arith)

    pub alone_holds : (j : ℕ) → total (holds j) s.views ≡ holds j v
    alone_holds j = alone (holds j) (λ u z m st es. ap (holds_at j) st)

    pub alone_lists : (j : ℕ) → total (lists j) s.views ≡ lists j v
    alone_lists j = alone (lists j) (λ u z m st es. ap (times j) es)

    abbrev Home : ℕ → Type 0
    Home j = (y : J) × (get_elem? s.homes j ≡ some (some (counted y (next r.before)))) × (times j v.runs ≡ 1)

    ran_at : (j : ℕ) → j < length s.homes → length s.homes ≤ r.claim → holds j v ≡ 0
        → Place r.before r.claim r.start j (get_elem? s.homes j) (total (holds j) s.views) (total (lists j) s.views) → Home j
    ran_at j lt le free (waits x w begins home mn ln) = absurd (omega arith)
    ran_at j lt le free (out l home mn ln) = let h = alone_holds j in absurd (omega arith)
    ran_at j lt le free (back y l home mn ln) = (y, home, sym (alone_lists j) ∙ ln)
    ran_at j lt le free (beyond home mn ln) = let o = outside s.homes j home in absurd (omega arith)

    -- after a miss each job is at home and has run
    ran_all : 0 < v.misses → ((j : ℕ) → holds j v ≡ 0) → (j : ℕ) → j < length s.homes → Home j
    ran_all some_miss free j lt = let m = alone_misses in ran_at j lt (r.least (omega arith)) (free j) (r.each_place j)

  module _ (slots id : ℕ) (me : Me (CountedJob J) (View J)) (idle : me.0.stage ≡ Idle) (all : me.0.shares ≡ 16) (some_miss : 0 < me.0.misses)
      (s : State (CountedJob J) (View J)) (r : Rule s) (at : get_elem? s.views id ≡ some me.0) where
    rest_kept : Rule record { words = set s.words 0 0; homes = s.homes; views = set s.views id (resting me.0) }
    rest_kept =
        let v : View J = me.0 in
        let w : View J = resting v in
        let mine = r.each_view id v at in
        let set_to = claim_set s.words 0 r.two in
        let most = r.most in
        let draws = r.draws in
        let aa = alone_awake id v all s r at in
        let va = idle_awake v idle in
        let ta : total awake (set s.views id w) + awake v ≡ total awake s.views + 0 = total-set awake s.views id v w at in
        let tm : total misses (set s.views id w) + v.misses ≡ total misses s.views + v.misses = total-set misses s.views id v w at in
        let td : total drawn (set s.views id w) + (length v.runs + held v.stage + v.misses) ≡ total drawn s.views + (length v.runs + 0 + v.misses) = total-set drawn s.views id v w at in
        let hv : held v.stage ≡ 0 = ap held idle in
        let sits : Sits r.before r.start s.homes w = record {
          missed = mine.missed;
          of_round = mine.of_round;
          spent = λ z. absurd (omega arith);
          only_spent = λ q. absurd (resting_not_spent refl q);
          rests = λ q. (all, some_miss);
          listed = mine.listed;
        } in
        let places : (j : ℕ) → Place r.before r.claim r.start j (get_elem? s.homes j) (total (holds j) (set s.views id w)) (total (lists j) (set s.views id w)) = λ j.
        let th : total (holds j) (set s.views id w) + holds j v ≡ total (holds j) s.views + 0 = total-set (holds j) s.views id v w at in
        let tl : total (lists j) (set s.views id w) + lists j v ≡ total (lists j) s.views + lists j v = total-set (lists j) s.views id v w at in
        let hj : holds j v ≡ 0 = ap (holds_at j) idle in
        stays r.before r.claim r.claim r.start j (get_elem? s.homes j) (get_elem? s.homes j) (total (holds j) s.views) (total (holds j) (set s.views id w)) (total (lists j) s.views) (total (lists j) (set s.views id w))
        refl (omega arith) (omega arith) (λ x y. y) (λ x. x) (r.each_place j) in
        steps s r id v w (set s.words 0 0) s.homes r.claim at refl set_to.0 refl (inr (omega arith, set_to.1)) (omega arith) (λ h. r.least (omega arith)) (omega arith) sits
        (λ k u ne e. r.each_view k u e) places (set_to.2 ∙ r.done)

  pub rests : (slots id : ℕ) (me : Me (CountedJob J) (View J)) → me.0.stage ≡ Idle → me.0.shares ≡ 16 → 0 < me.0.misses
      → Allows Rule slots id me 0 (λ _. 0) (λ _. rested (step slots 0 0 0 none) me 0)
  rests slots id me idle all some_miss s r sized at fits =
      let of_round = (r.each_view id me.0 at).of_round (omega arith) in (
        resting me.0,
        keeps,
        tt,
        rest_kept slots id me idle all some_miss s r at,
        (refl, ap length of_round.1 ∙ r.wide ∙ sized, λ j lt. (ran_all id me.0 all s r at some_miss (λ k. ap (holds_at k) idle) j (omega arith)).2),
      )

  module _ (id : ℕ) (v : View J) (resting : v.stage ≡ Resting) (s : State (CountedJob J) (View J)) (r : Rule s) (at : get_elem? s.views id ≡ some v) where
    abbrev begun : List J
    begun = settled v.start v.runs

    has_all : (v.shares ≡ 16) × (0 < v.misses)
    has_all = (r.each_view id v at).rests resting

    home_at : (j : ℕ) → j < length s.homes → Home id v has_all.0 s r at j
    home_at = ran_all id v has_all.0 s r at has_all.1 (λ k. ap (holds_at k) resting)

    same_start : v.start ≡ r.start
    same_start = let a = has_all in ((r.each_view id v at).of_round (omega arith)).1

    length-begun : length begun ≡ length s.homes
    length-begun = length-settled v.start v.runs ∙ ap length same_start ∙ r.wide

    -- a job begins the next round with the value that its slot has
    begins : (j : ℕ) → j < length s.homes → (y : J) × (get_elem? begun j ≡ some y) × (get_elem? s.homes j ≡ some (some (counted y (next r.before))))
    begins j lt =
        let h = home_at j lt in
        let one = h.2 in
        let long = length-begun in
        let long' = length-settled v.start v.runs in
        ⊎_elim (λ (t : (times j v.runs ≡ 0) × (get_elem? begun j ≡ get_elem? v.start j)). let z = t.0 in absurd (omega arith))
        (λ (t : (y : J) × (get_elem? s.homes j ≡ some (some (counted y (next r.before)))) × (get_elem? begun j ≡ some y)). (t.0, t.2, t.1))
        (settled_at (λ k y. get_elem? s.homes k ≡ some (some (counted y (next r.before)))) v.start v.runs j (omega arith) (r.each_view id v at).listed)

    none_in_round : total (in_round (next (next r.before))) s.homes ≡ 0
    none_in_round = total_nothing (in_round (next (next r.before))) s.homes (λ k u e.
        let b = begins k (inside s.homes k u e) in
        let is : u ≡ some (counted b.0 (next r.before)) = some-injective u (some (counted b.0 (next r.before))) (sym e ∙ b.2) in
        ap (in_round (next (next r.before))) is ∙ once_other (next r.before) (next (next r.before)) (not_one_more r.before))

    wake_kept : Rule record { words = set s.words 1 0; homes = s.homes; views = set s.views id (woken v) }
    wake_kept =
        let w : View J = woken v in
        let mine = r.each_view id v at in
        let sh = has_all.0 in
        let set_to = done_set s.words 0 r.two in
        let of_round = mine.of_round (omega arith) in
        let parts = r.parts in
        let aw : awake v ≡ 0 = ap (awake_at v.shares) resting in
        let aa = alone_awake id v sh s r at in
        let am = alone_misses id v sh s r at in
        let ad = alone_drawn id v sh s r at in
        let ts : total shares (set s.views id w) + v.shares ≡ total shares s.views + v.shares = total-set shares s.views id v w at in
        let ta : total awake (set s.views id w) + awake v ≡ total awake s.views + v.shares = total-set awake s.views id v w at in
        let tm : total misses (set s.views id w) + v.misses ≡ total misses s.views + 0 = total-set misses s.views id v w at in
        let td : total drawn (set s.views id w) + drawn v ≡ total drawn s.views + (0 + 0 + 0) = total-set drawn s.views id v w at in
        let w0 : get_or s.words 0 0 ≡ 0 = ⊎_elim (λ (t : (total awake s.views ≡ 16) × (get_or s.words 0 0 ≡ r.claim)). let x = t.0 in absurd (omega arith)) (λ (t : (total awake s.views ≡ 0) × (get_or s.words 0 0 ≡ 0)). t.1) r.word in
        let sits : Sits (next r.before) begun s.homes w = record {
          missed = omega arith;
          of_round = λ h. (ap next of_round.0, refl);
          spent = λ z. absurd (omega arith);
          only_spent = λ q. absurd (idle_not_spent refl q);
          rests = λ q. absurd (idle_not_resting refl q);
          listed = tt;
        } in
        let others : (k : ℕ) (u : View J) → k ≢ id → get_elem? s.views k ≡ some u → Sits (next r.before) begun s.homes u = λ k u n e.
        let old = r.each_view k u e in
        let empty : u.shares ≡ 0 = others_none shares s.views id v at (parts ∙ sym sh) k u n e in
        let gone = old.spent empty in
        record {
          missed = old.missed;
          of_round = λ h. absurd (omega arith);
          spent = old.spent;
          only_spent = old.only_spent;
          rests = old.rests;
          listed = subst (Each (λ e. get_elem? s.homes e.number ≡ some (some (counted e.value (next (next r.before)))))) (sym gone.1) tt;
        } in
        let places : (j : ℕ) → Place (next r.before) 0 begun j (get_elem? s.homes j) (total (holds j) (set s.views id w)) (total (lists j) (set s.views id w)) = λ j.
        let th : total (holds j) (set s.views id w) + holds j v ≡ total (holds j) s.views + 0 = total-set (holds j) s.views id v w at in
        let tl : total (lists j) (set s.views id w) + lists j v ≡ total (lists j) s.views + 0 = total-set (lists j) s.views id v w at in
        let ah = alone_holds id v sh s r at j in
        let al = alone_lists id v sh s r at j in
        dite (dec_lt j (length s.homes))
        (λ (lt : j < length s.homes). let b = begins j lt in waits b.0 (omega arith) b.1 b.2 (omega arith) (omega arith))
        (λ (no : ¬ (j < length s.homes)). beyond (past s.homes j (omega arith)) (omega arith) (omega arith)) in
        record {
          before = next r.before;
          claim = 0;
          start = begun;
          fits = omega arith;
          two = set_to.0;
          few = r.few;
          wide = length-begun;
          parts = omega arith;
          word = inl (omega arith, set_to.1 ∙ w0);
          most = omega arith;
          least = λ h. absurd (omega arith);
          draws = omega arith;
          each_view = each_set (Sits (next r.before) begun s.homes) s.views id w sits others;
          each_place = places;
          done = set_to.2 ∙ sym none_in_round;
        }

  pub wakes : (slots id : ℕ) (me : Me (CountedJob J) (View J)) → me.0.stage ≡ Resting → Allows Rule slots id me 1 (λ _. 0) (λ _. woke (step slots 1 0 0 none) me 0)
  wakes slots id me resting s r sized at fits = (woken me.0, keeps, tt, wake_kept id me.0 resting s r at, refl)
