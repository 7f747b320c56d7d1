-- The split of a seat and the join of two keep the rule.
use Rattle.std.proofs.Common.{◌≡◌, ◌≢◌, ℕ, ◌+◌, ◌<◌, ◌≤◌, List, [], ◌∷◌, ◌++◌, get_or, set, sym, refl, ap, ◌∙◌, subst, ⊎_elim, inl, inr, length-append, arith}
use mathlib.Core.Option.{some}
use lib.ListN.{get_elem?}
use Rattle.atomic_table.specs.Table.{State, Me, Splits, Joins}
use Rattle.atomic_table.proofs.Lists.{set_else, at_snoc}
use Rattle.stream_board.specs.declared.rule.CountedJob.{CountedJob}
use Rattle.stream_board.specs.declared.rule.View.{View}
use Rattle.stream_board.specs.declared.rule.Stage.TheVariants.{Idle}
use Rattle.stream_board.specs.Views.{total, once, next, counted, spent, shares, misses, awake, held, holds, holds_at, lists, drawn}
use Rattle.stream_board.specs.Rule.{Sits, Rule}
use Rattle.stream_board.specs.Steps.{kept_half, given_half, both}
use Rattle.stream_board.proofs.Sums.{total-set, total-snoc, total-append, each_set, Each-append}
use Rattle.stream_board.proofs.Places.{stays, idle_awake}
use Rattle.stream_board.proofs.DrawFinish.{idle_not_spent, idle_not_resting}

module _ {J : Type 0} where
  pub shares_of : (m : Me (CountedJob J) (View J)) (v : View J) (jobs : List (ℕ × CountedJob J)) → m ≡ (v, jobs) → m.0.shares ≡ v.shares
  shares_of m v jobs e = ap (λ (n : Me (CountedJob J) (View J)). n.0.shares) e

  -- other views whose sums are the same
  pub regrouped : (s : State (CountedJob J) (View J)) (r : Rule s) (views : List (View J))
      → total shares views ≡ total shares s.views
      → total awake views ≡ total awake s.views
      → total misses views ≡ total misses s.views
      → total drawn views ≡ total drawn s.views
      → ((j : ℕ) → total (holds j) views ≡ total (holds j) s.views)
      → ((j : ℕ) → total (lists j) views ≡ total (lists j) s.views)
      → ((k : ℕ) (u : View J) → get_elem? views k ≡ some u → Sits r.before r.start s.homes u)
      → Rule record { words = s.words; homes = s.homes; views = views }
  regrouped s r views es ea em ed eh el sits =
      let most = r.most in
      let draws = r.draws in
      record {
        before = r.before;
        claim = r.claim;
        start = r.start;
        fits = r.fits;
        two = r.two;
        few = r.few;
        wide = r.wide;
        parts = es ∙ r.parts;
        word = ⊎_elim (λ (t : (total awake s.views ≡ 16) × (get_or s.words 0 0 ≡ r.claim)). inl (ea ∙ t.0, t.1)) (λ (t : (total awake s.views ≡ 0) × (get_or s.words 0 0 ≡ 0)). inr (ea ∙ t.0, t.1)) r.word;
        most = omega arith;
        least = λ h. r.least (omega arith);
        draws = draws ∙ sym ed;
        each_view = sits;
        each_place = λ j. stays r.before r.claim r.claim r.start j (get_elem? s.homes j) (get_elem? s.homes j) (total (holds j) s.views) (total (holds j) views) (total (lists j) s.views) (total (lists j) views)
            refl (eh j) (el j) (λ x y. y) (λ x. x) (r.each_place j);
        done = r.done;
      }

  module _ (id : ℕ) (v : View J) (idle : v.stage ≡ Idle) (clear : v.misses ≡ 0) (enough : 2 ≤ v.shares)
      (s : State (CountedJob J) (View J)) (r : Rule s) (at : get_elem? s.views id ≡ some v) where
    -- a sum that the two halves share out
    shared_out : (f : View J → ℕ) → f (kept_half v) + f (given_half v) ≡ f v → total f (set s.views id (kept_half v) ++ given_half v ∷ []) ≡ total f s.views
    shared_out f e =
        let a = total-set f s.views id v (kept_half v) at in
        let b = total-snoc f (set s.views id (kept_half v)) (given_half v) in omega arith

    half_sits : (k : ℕ) (u : View J) → get_elem? (set s.views id (kept_half v) ++ given_half v ∷ []) k ≡ some u → Sits r.before r.start s.homes u
    half_sits k u e =
        let mine = r.each_view id v at in
        let of_round = mine.of_round (omega arith) in
        let kept : Sits r.before r.start s.homes (kept_half v) = record {
          missed = omega arith;
          of_round = λ h. of_round;
          spent = λ z. absurd (omega arith);
          only_spent = λ q. absurd (idle_not_spent refl q);
          rests = λ q. absurd (idle_not_resting refl q);
          listed = mine.listed;
        } in
        let given : Sits r.before r.start s.homes (given_half v) = record {
          missed = omega arith;
          of_round = λ h. of_round;
          spent = λ z. absurd (omega arith);
          only_spent = λ q. absurd (idle_not_spent refl q);
          rests = λ q. absurd (idle_not_resting refl q);
          listed = tt;
        } in
        ⊎_elim (λ (t : get_elem? (set s.views id (kept_half v)) k ≡ some u). each_set (Sits r.before r.start s.homes) s.views id (kept_half v) kept (λ i x n q. r.each_view i x q) k u t)
        (λ (t : given_half v ≡ u). subst (Sits r.before r.start s.homes) t given) (at_snoc (set s.views id (kept_half v)) (given_half v) u k e)

    halves : Rule record { words = s.words; homes = s.homes; views = set s.views id (kept_half v) ++ given_half v ∷ [] }
    halves =
        let va = idle_awake v idle in
        let hv : held v.stage ≡ 0 = ap held idle in
        regrouped s r (set s.views id (kept_half v) ++ given_half v ∷ [])
        (shared_out shares (omega arith)) (shared_out awake (omega arith)) (shared_out misses (omega arith)) (shared_out drawn (omega arith))
        (λ j. let hj : holds j v ≡ 0 = ap (holds_at j) idle in shared_out (holds j) (omega arith)) (λ j. shared_out (lists j) (omega arith)) half_sits

  pub splits : (id : ℕ) (v : View J) → v.stage ≡ Idle → v.misses ≡ 0 → 2 ≤ v.shares → Splits Rule id v (kept_half v) (given_half v)
  splits id v idle clear enough s r at = halves id v idle clear enough s r at

  module _ (id : ℕ) (v : View J) (other : ℕ) (w : View J) (idle : v.stage ≡ Idle) (idle' : w.stage ≡ Idle) (some_share : 0 < v.shares)
      (s : State (CountedJob J) (View J)) (r : Rule s) (at : get_elem? s.views id ≡ some v) (apart : other ≢ id)
      (at' : get_elem? (set s.views id (both v w)) other ≡ some w) where
    taken_in : (f : View J → ℕ) → f (both v w) + f spent ≡ f v + f w → total f (set (set s.views id (both v w)) other spent) ≡ total f s.views
    taken_in f e =
        let a = total-set f s.views id v (both v w) at in
        let b = total-set f (set s.views id (both v w)) other w spent at' in omega arith

    both_sit : (k : ℕ) (u : View J) → get_elem? (set (set s.views id (both v w)) other spent) k ≡ some u → Sits r.before r.start s.homes u
    both_sit =
        let mine = r.each_view id v at in
        let yours = r.each_view other w (sym (set_else s.views id other (both v w) apart) ∙ at') in
        let of_round = mine.of_round some_share in
        let m = mine.missed in
        let y = yours.missed in
        let joined : Sits r.before r.start s.homes (both v w) = record {
          missed = omega arith;
          of_round = λ h. of_round;
          spent = λ z. absurd (omega arith);
          only_spent = λ q. absurd (idle_not_spent refl q);
          rests = λ q. absurd (idle_not_resting refl q);
          listed = Each-append (λ e. get_elem? s.homes e.number ≡ some (some (counted e.value (next r.before)))) v.runs w.runs mine.listed yours.listed;
        } in
        let gone : Sits r.before r.start s.homes spent = record {
          missed = omega arith;
          of_round = λ h. absurd (omega arith);
          spent = λ z. (refl, refl);
          only_spent = λ q. refl;
          rests = λ q. absurd cc;
          listed = tt;
        } in
        each_set (Sits r.before r.start s.homes) (set s.views id (both v w)) other spent gone
        (λ k u n e. each_set (Sits r.before r.start s.homes) s.views id (both v w) joined (λ i x ne q. r.each_view i x q) k u e)

    gathered : Rule record { words = s.words; homes = s.homes; views = set (set s.views id (both v w)) other spent }
    gathered =
        let va = idle_awake v idle in
        let wa = idle_awake w idle' in
        let hv : held v.stage ≡ 0 = ap held idle in
        let hw : held w.stage ≡ 0 = ap held idle' in
        let long = length-append v.runs w.runs in
        regrouped s r (set (set s.views id (both v w)) other spent)
        (taken_in shares (omega arith)) (taken_in awake (omega arith)) (taken_in misses (omega arith)) (taken_in drawn (omega arith))
        (λ j. let hj : holds j v ≡ 0 = ap (holds_at j) idle in let hk : holds j w ≡ 0 = ap (holds_at j) idle' in taken_in (holds j) (omega arith))
        (λ j. let t = total-append (λ e. once e.number j) v.runs w.runs in taken_in (lists j) (omega arith)) both_sit

  pub joins : (id : ℕ) (v : View J) (other : ℕ) (w : View J) → v.stage ≡ Idle → w.stage ≡ Idle → 0 < v.shares → Joins Rule id v other w (both v w) spent
  joins id v other w idle idle' some_share s r at apart at' = gathered id v other w idle idle' some_share s r at apart at'
