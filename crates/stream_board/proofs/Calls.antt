-- From the runs that a seat lists to one call of the function for each job.
use Rattle.std.proofs.Common.{◌≡◌, ℕ, zero, suc, ◌<◌, List, [], ◌∷◌, length, get_or, sym, refl, ap, ◌∙◌, subst, ⊎_elim, arith}
use mathlib.Core.Option.{none, some, some-injective, some-ne-none}
use lib.ListN.{get_elem?}
use denote.Ref.{MutBor}
use denote.Param.Members.{Shared}
use Rattle.atomic_table.specs.Table.{Me, step}
use Rattle.stream_board.specs.declared.rule.CountedJob.{CountedJob}
use Rattle.stream_board.specs.declared.rule.JobRun.{JobRun}
use Rattle.stream_board.specs.declared.rule.View.{View}
use Rattle.stream_board.specs.Views.{Each, next, fresh, times, settled}
use Rattle.stream_board.specs.Steps.{woken, rested, woke}
use Rattle.stream_board.specs.Calls.{Changes, AcceptsEach, ChangesEach, AcceptsAll, ChangesAll}
use Rattle.stream_board.specs.Work.{IsOneCall, IsWorker, RunsRound}
use Rattle.stream_board.proofs.Sums.{inside, there}
use Rattle.stream_board.proofs.RestWake.{length-settled, settled_at}

pub index_is : {A : Type 0} (l : List A) (i : ℕ) (a d : A) → get_elem? l i ≡ some a → get_or l i d ≡ a
index_is [] i a d e = absurd (some-ne-none a (sym e))
index_is (x ∷ xs) zero a d e = some-injective x a e
index_is (x ∷ xs) (suc i) a d e = index_is xs i a d e

module _ {F J : Type 0} (g : Shared F (MutBor J × Unit {0}) (Unit {0} × (MutBor J × Unit {0}))) (f : F) where
  pub accepts_all : (xs : List J) → AcceptsEach g f xs → AcceptsAll g f xs
  accepts_all xs each j x at p is = each j p (inside xs j x at) (is ∙ sym (index_is xs j x p.now at))

  pub changes_each : (xs ys : List J) → length ys ≡ length xs → ChangesAll g f xs ys → ChangesEach g f xs ys
  changes_each xs ys long all i d lt =
      let x = there xs i lt in
      let y = there ys i (omega arith) in
      let ch = all.at i x.0 y.0 x.1 y.1 in (
        refl,
        record {
          argument = ch.argument;
          argument_is = ch.argument_is ∙ sym (index_is xs i x.0 d x.1);
          after_call = ch.after_call;
          call = ch.call;
          left = ch.left ∙ sym (index_is ys i y.0 d y.1);
        },
      )

  Became : List J → ℕ → J → Type 0
  Became start j y = (x : J) × (get_elem? start j ≡ some x) × Changes g f x y

  became : (start : List J) (es : List (JobRun J)) → Each (IsOneCall g f start) es → Each (λ e. Became start e.number e.value) es
  unfolding Became
  became start [] a = tt
  became start (e ∷ es) a = ((a.0.value, a.0.starts, a.0.changed), became start es a.1)

  -- where each job was listed once, the settled values are what one call of f left of each
  pub changes_all : (n : ℕ) (start : List J) (es : List (JobRun J)) → length start ≡ n → ((j : ℕ) → j < n → times j es ≡ 1) → Each (IsOneCall g f start) es
      → ChangesAll g f start (settled start es)
  unfolding Became
  changes_all n start es long once called = record {
    at = λ j x y ex ey.
        let lt = inside start j x ex in
        let one = once j (omega arith) in
        ⊎_elim (λ (t : (times j es ≡ 0) × (get_elem? (settled start es) j ≡ get_elem? start j)). let z = t.0 in absurd (omega arith))
        (λ (t : (z : J) × Became start j z × (get_elem? (settled start es) j ≡ some z)).
        let b = t.1 in
        let now : t.0 ≡ y = some-injective t.0 y (sym t.2 ∙ ey) in
        let was : b.0 ≡ x = some-injective b.0 x (sym b.1 ∙ ex) in
        subst (λ (k : J). Changes g f x k) now (subst (λ (k : J). Changes g f k t.0) was b.2))
        (settled_at (Became start) start es j lt (became start es called));
  }

  pub runs_round : (slots : ℕ) (m m0 m1 m2 : Me (CountedJob J) (View J)) → IsWorker g f m.0.round m.0.shares m.0.start m0 → rested (step slots 0 0 0 none) m0 0 m1 → woke (step slots 1 0 0 none) m1 0 m2
      → RunsRound g f m m2
  runs_round slots m m0 m1 m2 worker rest wake =
      let values : List J = settled m0.0.start m0.0.runs in record {
        values = values;
        long = length-settled m0.0.start m0.0.runs ∙ ap length worker.from_start;
        changed = subst (λ (l : List J). ChangesAll g f l values) worker.from_start
            (changes_all slots m0.0.start m0.0.runs rest.1 rest.2 (subst (λ (l : List J). Each (IsOneCall g f l) m0.0.runs) (sym worker.from_start) worker.called));
        after = wake ∙ ap (λ (m : Me (CountedJob J) (View J)). (woken m.0, m.1)) rest.0
            ∙ ap (λ (k : ℕ). (fresh (next k) m0.0.shares values, m0.1)) worker.in_round
            ∙ ap (λ (k : ℕ). (fresh (next m.0.round) k values, m0.1)) worker.has_shares
            ∙ ap (λ (c : List (ℕ × CountedJob J)). (fresh (next m.0.round) m.0.shares values, c)) worker.none_held;
      }
