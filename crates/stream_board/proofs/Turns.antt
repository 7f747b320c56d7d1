-- One turn of a worker: a draw, the run of the job, and a finish.
use Rattle.std.proofs.Common.{◌≡◌, ℕ, ◌<◌, List, [], ◌∷◌, length, sym, ap, ◌∙◌, subst}
use denote.Ref.{MutBor}
use denote.Param.Members.{Shared}
use Rattle.atomic_table.specs.Table.{Me}
use Rattle.stream_board.specs.declared.rule.CountedJob.{CountedJob}
use Rattle.stream_board.specs.declared.rule.View.{View}
use Rattle.stream_board.specs.declared.rule.Stage.TheVariants.{Holding}
use Rattle.stream_board.specs.Views.{next, counted}
use Rattle.stream_board.specs.Steps.{holding, listing, Draws}
use Rattle.stream_board.specs.Calls.{Accepts, Changes, AcceptsAll}
use Rattle.stream_board.specs.Work.{RunsHeld, RunsOne}

module _ {J : Type 0} where
  abbrev last_or : CountedJob J → List (ℕ × CountedJob J) → CountedJob J
  last_or b [] = b
  last_or b (x ∷ xs) = x.1

  pub same_last : (i : ℕ) (held : List (ℕ × CountedJob J)) (a b : CountedJob J) (xs ys : List (ℕ × CountedJob J)) → held ≡ (i, a) ∷ xs → held ≡ (i, b) ∷ ys → a ≡ b
  same_last i held a b xs ys p q = ap (last_or a) (sym p ∙ q)

  -- a job that was drawn and has run can be finished
  pub record CanFinish (i : ℕ) (m : Me (CountedJob J) (View J)) (value : J) : Type 0 where
    pub rounds : ℕ
    pub has : m.0.stage ≡ Holding i
    pub taken : m.1 ≡ (i, counted value rounds) ∷ []
    pub of_round : rounds ≡ m.0.round

module _ {F J : Type 0} (g : Shared F (MutBor J × Unit {0}) (Unit {0} × (MutBor J × Unit {0}))) (f : F) where
  -- a job that was drawn can run
  pub can_run : (slots i : ℕ) (m0 m1 : Me (CountedJob J) (View J)) → Draws slots i m0 m1 → m0.1 ≡ [] → AcceptsAll g f m0.0.start
      → (b : CountedJob J) × (m1.1 ≡ (i, b) ∷ []) × Accepts g f b.job
  can_run slots i m0 m1 d empty accepts =
      (counted d.value d.rounds, d.takes ∙ ap (λ (held : List (ℕ × CountedJob J)). (i, counted d.value d.rounds) ∷ held) empty, accepts i d.value d.starts)

module _ {F J : Type 0} (g : Shared F (MutBor J × Unit {0}) (Unit {0} × (MutBor J × Unit {0}))) (f : F) (slots i : ℕ) (m0 m1 m2 : Me (CountedJob J) (View J))
    (d : Draws slots i m0 m1) (empty : m0.1 ≡ []) (ran : RunsHeld g f i m1 m2) where
  drawn_job : ran.before ≡ counted d.value d.rounds
  drawn_job = same_last i m1.1 ran.before (counted d.value d.rounds) [] m0.1 ran.held d.takes

  view_is : m2.0 ≡ holding i m0.0
  view_is = ap (λ (m : Me (CountedJob J) (View J)). m.0) ran.after ∙ d.view

  pub can_finish : CanFinish i m2 ran.value
  can_finish = record {
    rounds = next ran.before.rounds;
    has = ap (λ (v : View J). v.stage) view_is;
    taken = ap (λ (m : Me (CountedJob J) (View J)). m.1) ran.after;
    of_round = ap (λ (b : CountedJob J). next b.rounds) drawn_job ∙ d.before ∙ sym (ap (λ (v : View J). v.round) view_is);
  }

  -- the turn after the finish
  pub has_run : (count : ℕ) (m3 : Me (CountedJob J) (View J)) → slots ≡ count → ((k : ℕ) (b : CountedJob J) → m2.1 ≡ (k, b) ∷ [] → m3 ≡ (listing k b.job m2.0, []))
      → (m3.1 ≡ []) × RunsOne g f count m0.0 m3.0
  has_run count m3 sized finished =
      let done = finished i (counted ran.value (next ran.before.rounds)) (ap (λ (m : Me (CountedJob J) (View J)). m.1) ran.after) in (
        ap (λ (m : Me (CountedJob J) (View J)). m.1) done,
        record {
          number = i;
          value = ran.value;
          called = record { value = d.value; starts = d.starts; changed = subst (λ (b : CountedJob J). Changes g f b.job ran.value) drawn_job ran.changed };
          fewer = subst (λ (n : ℕ). length m0.0.runs < n) sized d.fewer;
          after = ap (λ (m : Me (CountedJob J) (View J)). m.0) done ∙ ap (listing i ran.value) view_is;
        },
      )
