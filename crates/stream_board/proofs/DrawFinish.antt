-- A draw and a finish keep the rule.
use Rattle.std.proofs.Common.{◌≡◌, ◌≢◌, ℕ, ◌+◌, ◌%◌, ◌^◌, ◌<◌, ◌≤◌, List, [], ◌∷◌, ◌++◌, length, get_or, set, sym, refl, ap, ◌∙◌, subst, inl, length-set, length-append, lt_of_not-le, arith}
use mathlib.Core.Option.{Option, none, some}
use mathlib.Core.Logic.{dite}
use native.Mathlib.Decide.{ℕ_discrete, dec_le}
use lib.ListN.{get_elem?}
use Rattle.atomic_table.specs.Table.{State, Me, step, Act, keeps, takes, gives, Valid, put_back, rest, stepped, carried_after, Allows}
use Rattle.atomic_table.proofs.Lists.{set_here, set_else}
use Rattle.stream_board.specs.declared.rule.CountedJob.{CountedJob}
use Rattle.stream_board.specs.declared.rule.JobRun.{JobRun}
use Rattle.stream_board.specs.declared.rule.View.{View}
use Rattle.stream_board.specs.declared.rule.Stage.{Stage}
use Rattle.stream_board.specs.declared.rule.Stage.TheVariants.{Idle, Holding, Resting, Spent}
use Rattle.stream_board.specs.Views.{total, once, next, counted, job_run, shares, misses, awake, held, holds, holds_at, lists, times, drawn, in_round}
use Rattle.stream_board.specs.Rule.{Sits, Place, waits, out, back, beyond, Rule}
use Rattle.stream_board.specs.Steps.{holding, missed, listing, drew, finished}
use Rattle.stream_board.proofs.Sums.{once_same, once_other, inside, outside, total-set, total-snoc, total_least, total_under, total_most, Each-append}
use Rattle.stream_board.proofs.Places.{claim_set, done_set, not_next, stays, each_else, sits_else, idle_awake, holding_awake, awake_word, steps}

pub idle_not_spent : {st : Stage} → st ≡ Idle → st ≢ Spent
idle_not_spent a b = cc

pub idle_not_resting : {st : Stage} → st ≡ Idle → st ≢ Resting
idle_not_resting a b = cc

pub holding_not_spent : {st : Stage} {i : ℕ} → st ≡ Holding i → st ≢ Spent
holding_not_spent a b = cc

pub holding_not_resting : {st : Stage} {i : ℕ} → st ≡ Holding i → st ≢ Resting
holding_not_resting a b = cc

once_most : (i j : ℕ) → once i j ≤ 1
once_most i j = dite (ℕ_discrete i j) (λ e. let h = once_same i j e in omega arith) (λ n. let h = once_other i j n in omega arith)

module _ {J : Type 0} where
  in_round_most : (r : ℕ) (h : Option (CountedJob J)) → in_round r h ≤ 1
  in_round_most r none = omega arith
  in_round_most r (some b) = once_most b.rounds r

  -- the misses of all seats are no more than their shares
  few_misses : (s : State (CountedJob J) (View J)) (r : Rule s) → total misses s.views ≤ 16
  few_misses s r =
      let u : total misses s.views ≤ total shares s.views = total_under misses shares s.views (λ k u e. (r.each_view k u e).missed) in
      let p = r.parts in omega arith

  module _ (slots id : ℕ) (me : Me (CountedJob J) (View J)) (idle : me.0.stage ≡ Idle) (room : me.0.misses < me.0.shares)
      (s : State (CountedJob J) (View J)) (r : Rule s) (sized : length s.homes ≡ slots) (at : get_elem? s.views id ≡ some me.0) where
    abbrev Out : Type 0
    Out = (w : View J) × (a : Act (CountedJob J)) × Valid s.homes me.1 a × Rule (stepped s 0 ((get_or s.words 0 0 + 1) % 2 ^ 64) id me.1 w a)
        × drew (step slots 0 1 0 none) me (get_or s.words 0 0) (w, carried_after me.1 a)

    hit : get_or s.words 0 0 < slots → (x : J) → get_elem? r.start (get_or s.words 0 0) ≡ some x → get_elem? s.homes (get_or s.words 0 0) ≡ some (some (counted x r.before))
        → total (holds (get_or s.words 0 0)) s.views ≡ 0 → total (lists (get_or s.words 0 0)) s.views ≡ 0 → Out
    hit lt x begins home mn ln =
        let n : ℕ = get_or s.words 0 0 in
        let v : View J = me.0 in
        let w : View J = holding n v in
        let mine = r.each_view id v at in
        let aw = awake_word s r id v at (idle_awake v idle) (omega arith) in
        let whole = aw.0 in
        let is_claim = aw.1 in
        let few = r.few in
        let draws = r.draws in
        let least = r.least in
        let most = r.most in
        let homes' : List (Option (CountedJob J)) = set s.homes n none in
        let words' : List ℕ = set s.words 0 ((n + 1) % 2 ^ 64) in
        let set_to = claim_set s.words ((n + 1) % 2 ^ 64) r.two in
        let w0 = set_to.1 in
        let w1 = set_to.2 in
        let ta : total awake (set s.views id w) + awake v ≡ total awake s.views + v.shares = total-set awake s.views id v w at in
        let va = idle_awake v idle in
        let tm : total misses (set s.views id w) + v.misses ≡ total misses s.views + v.misses = total-set misses s.views id v w at in
        let td : total drawn (set s.views id w) + drawn v ≡ total drawn s.views + (length v.runs + 1 + v.misses) = total-set drawn s.views id v w at in
        let hv : held v.stage ≡ 0 = ap held idle in
        let dv : drawn v ≡ length v.runs + held v.stage + v.misses = refl in
        let dl : drawn v ≤ total drawn s.views = total_least drawn s.views id v at in
        let lv : lists n v ≤ total (lists n) s.views = total_least (lists n) s.views id v at in
        let not_it = not_next r.before r.fits in
        let tr : total (in_round (next r.before)) homes' + once r.before (next r.before) ≡ total (in_round (next r.before)) s.homes + 0 = total-set (in_round (next r.before)) s.homes n (some (counted x r.before)) none home in
        let zero_in = once_other r.before (next r.before) not_it in
        let done = r.done in
        let of_round = mine.of_round (omega arith) in
        let sits : Sits r.before r.start homes' w = record {
          missed = mine.missed;
          of_round = mine.of_round;
          spent = λ z. absurd (omega arith);
          only_spent = λ q. absurd (holding_not_spent refl q);
          rests = λ q. absurd (holding_not_resting refl q);
          listed = each_else s.homes (next r.before) n none v.runs (omega arith) mine.listed;
        } in
        let others : (k : ℕ) (u : View J) → k ≢ id → get_elem? s.views k ≡ some u → Sits r.before r.start homes' u = λ k u ne e.
        let lu : lists n u ≤ total (lists n) s.views = total_least (lists n) s.views k u e in
        sits_else r.before r.start s.homes n none u (omega arith) (r.each_view k u e) in
        let places : (j : ℕ) → Place r.before (n + 1) r.start j (get_elem? homes' j) (total (holds j) (set s.views id w)) (total (lists j) (set s.views id w)) = λ j.
        let th : total (holds j) (set s.views id w) + holds j v ≡ total (holds j) s.views + once n j = total-set (holds j) s.views id v w at in
        let tl : total (lists j) (set s.views id w) + lists j v ≡ total (lists j) s.views + lists j v = total-set (lists j) s.views id v w at in
        let hj : holds j v ≡ 0 = ap (holds_at j) idle in
        dite (ℕ_discrete j n)
        (λ (e : j ≡ n).
        let one = once_same n j (sym e) in
        let mn' : total (holds j) s.views ≡ 0 = ap (λ (k : ℕ). total (holds k) s.views) e ∙ mn in
        let ln' : total (lists j) s.views ≡ 0 = ap (λ (k : ℕ). total (lists k) s.views) e ∙ ln in
        out (omega arith) (ap (λ (k : ℕ). get_elem? homes' k) e ∙ set_here s.homes n none (omega arith)) (omega arith) (omega arith))
        (λ (ne : j ≢ n).
        let nought = once_other n j (λ q. ne (sym q)) in
        stays r.before r.claim (n + 1) r.start j (get_elem? s.homes j) (get_elem? homes' j) (total (holds j) s.views) (total (holds j) (set s.views id w)) (total (lists j) s.views) (total (lists j) (set s.views id w))
        (set_else s.homes n j none ne) (omega arith) (omega arith) (λ a b. omega arith) (λ a. omega arith) (r.each_place j)) in (
          w,
          takes n (counted x r.before),
          home,
          steps s r id v w words' homes' (n + 1) at refl set_to.0 (length-set s.homes n none) (inl (omega arith, omega arith)) (omega arith) (λ h. omega arith) (omega arith) sits others places (omega arith),
          (
            (λ (h : n < slots). record {
              value = x;
              rounds = r.before;
              starts = ap (λ (l : List J). get_elem? l n) of_round.1 ∙ begins;
              before = sym of_round.0;
              fits = r.fits;
              fewer = omega arith;
              view = refl;
              takes = refl;
            }),
            (λ (h : slots ≤ n). absurd (omega arith)),
          ),
        )

    miss : slots ≤ get_or s.words 0 0 → Out
    miss ge =
        let n : ℕ = get_or s.words 0 0 in
        let v : View J = me.0 in
        let w : View J = missed v in
        let mine = r.each_view id v at in
        let aw = awake_word s r id v at (idle_awake v idle) (omega arith) in
        let whole = aw.0 in
        let is_claim = aw.1 in
        let few = r.few in
        let fm = few_misses s r in
        let draws = r.draws in
        let most = r.most in
        let wide = r.wide in
        let words' : List ℕ = set s.words 0 ((n + 1) % 2 ^ 64) in
        let set_to = claim_set s.words ((n + 1) % 2 ^ 64) r.two in
        let w0 = set_to.1 in
        let w1 = set_to.2 in
        let ta : total awake (set s.views id w) + awake v ≡ total awake s.views + awake v = total-set awake s.views id v w at in
        let tm : total misses (set s.views id w) + v.misses ≡ total misses s.views + (v.misses + 1) = total-set misses s.views id v w at in
        let td : total drawn (set s.views id w) + (length v.runs + held v.stage + v.misses) ≡ total drawn s.views + (length v.runs + held v.stage + (v.misses + 1)) = total-set drawn s.views id v w at in
        let sits : Sits r.before r.start s.homes w = record {
          missed = omega arith;
          of_round = mine.of_round;
          spent = mine.spent;
          only_spent = mine.only_spent;
          rests = λ q. absurd (idle_not_resting idle q);
          listed = mine.listed;
        } in
        let places : (j : ℕ) → Place r.before (n + 1) r.start j (get_elem? s.homes j) (total (holds j) (set s.views id w)) (total (lists j) (set s.views id w)) = λ j.
        let th : total (holds j) (set s.views id w) + holds j v ≡ total (holds j) s.views + holds j v = total-set (holds j) s.views id v w at in
        let tl : total (lists j) (set s.views id w) + lists j v ≡ total (lists j) s.views + lists j v = total-set (lists j) s.views id v w at in
        stays r.before r.claim (n + 1) r.start j (get_elem? s.homes j) (get_elem? s.homes j) (total (holds j) s.views) (total (holds j) (set s.views id w)) (total (lists j) s.views) (total (lists j) (set s.views id w))
        refl (omega arith) (omega arith) (λ a b. absurd (omega arith)) (λ a. omega arith) (r.each_place j) in (
          w,
          keeps,
          tt,
          steps s r id v w words' s.homes (n + 1) at refl set_to.0 refl (inl (omega arith, omega arith)) (omega arith) (λ h. omega arith) (omega arith) sits (λ k u ne e. r.each_view k u e) places (w1 ∙ r.done),
          ((λ (h : n < slots). absurd (omega arith)), (λ (h : slots ≤ n). refl)),
        )

    draw_at : get_or s.words 0 0 < slots → get_or s.words 0 0 ≡ r.claim
        → Place r.before r.claim r.start (get_or s.words 0 0) (get_elem? s.homes (get_or s.words 0 0)) (total (holds (get_or s.words 0 0)) s.views) (total (lists (get_or s.words 0 0)) s.views) → Out
    draw_at lt is (waits x le begins home mn ln) = hit lt x begins home mn ln
    draw_at lt is (out l home mn ln) = absurd (omega arith)
    draw_at lt is (back y l home mn ln) = absurd (omega arith)
    draw_at lt is (beyond home mn ln) = let o = outside s.homes (get_or s.words 0 0) home in absurd (omega arith)

  pub draws : (slots id : ℕ) (me : Me (CountedJob J) (View J)) → me.0.stage ≡ Idle → me.0.misses < me.0.shares
      → Allows Rule slots id me 0 (λ x. (x + 1) % 2 ^ 64) (drew (step slots 0 1 0 none) me)
  draws slots id me idle room s r sized at fits =
      let aw = awake_word s r id me.0 at (idle_awake me.0 idle) (omega arith) in
      dite (dec_le slots (get_or s.words 0 0)) (λ ge. miss slots id me idle room s r sized at ge)
      (λ no. draw_at slots id me idle room s r sized at (lt_of_not-le no) aw.1 (r.each_place (get_or s.words 0 0)))

  -- the view after what was taken last has come home
  abbrev after : View J → List (ℕ × CountedJob J) → View J
  after v [] = v
  after v (x ∷ xs) = listing x.0 x.1.job v

  abbrev after_finish : State (CountedJob J) (View J) → ℕ → View J → List (ℕ × CountedJob J) → State (CountedJob J) (View J)
  after_finish s id v c = record { words = set s.words 1 ((get_or s.words 1 0 + 1) % 2 ^ 64); homes = put_back s.homes c; views = set s.views id (after v c) }

  module _ (slots id : ℕ) (me : Me (CountedJob J) (View J)) (i : ℕ) (b : CountedJob J) (has : me.0.stage ≡ Holding i) (taken : me.1 ≡ (i, b) ∷ []) (of : b.rounds ≡ me.0.round)
      (s : State (CountedJob J) (View J)) (r : Rule s) (at : get_elem? s.views id ≡ some me.0) where
    home_again : (i < r.claim) → get_elem? s.homes i ≡ some none → total (holds i) s.views ≡ 1 → total (lists i) s.views ≡ 0 → Rule (after_finish s id me.0 ((i, b) ∷ []))
    home_again lt home mn ln =
        let v : View J = me.0 in
        let w : View J = listing i b.job v in
        let d : ℕ = get_or s.words 1 0 in
        let mine = r.each_view id v at in
        let some_share : 0 < v.shares = dite (dec_le v.shares 0) (λ le. absurd (holding_not_spent has (mine.spent (omega arith)).0)) (λ no. lt_of_not-le no) in
        let aw = awake_word s r id v at (holding_awake v i has) some_share in
        let whole = aw.0 in
        let is_claim = aw.1 in
        let few = r.few in
        let draws = r.draws in
        let most = r.most in
        let homes' : List (Option (CountedJob J)) = set s.homes i (some b) in
        let words' : List ℕ = set s.words 1 ((d + 1) % 2 ^ 64) in
        let set_to = done_set s.words ((d + 1) % 2 ^ 64) r.two in
        let w0 = set_to.1 in
        let w1 = set_to.2 in
        let ta : total awake (set s.views id w) + awake v ≡ total awake s.views + v.shares = total-set awake s.views id v w at in
        let va = holding_awake v i has in
        let tm : total misses (set s.views id w) + v.misses ≡ total misses s.views + v.misses = total-set misses s.views id v w at in
        let td : total drawn (set s.views id w) + (length v.runs + held v.stage + v.misses) ≡ total drawn s.views + (length (v.runs ++ job_run i b.job ∷ []) + 0 + v.misses) = total-set drawn s.views id v w at in
        let long = length-append v.runs (job_run i b.job ∷ []) in
        let hv : held v.stage ≡ 1 = ap held has in
        let lv : lists i v ≤ total (lists i) s.views = total_least (lists i) s.views id v at in
        let of_round = mine.of_round some_share in
        let this : b.rounds ≡ next r.before = of ∙ of_round.0 in
        let tr : total (in_round (next r.before)) homes' + 0 ≡ total (in_round (next r.before)) s.homes + once b.rounds (next r.before) = total-set (in_round (next r.before)) s.homes i none (some b) home in
        let one_in = once_same b.rounds (next r.before) this in
        let below : total (in_round (next r.before)) s.homes ≤ length s.homes = total_most (in_round (next r.before)) s.homes (in_round_most (next r.before)) in
        let done = r.done in
        let here : get_elem? homes' i ≡ some (some (counted b.job (next r.before))) = set_here s.homes i (some b) (inside s.homes i none home) ∙ ap (λ (k : ℕ). some (some (counted b.job k))) this in
        let sits : Sits r.before r.start homes' w = record {
          missed = mine.missed;
          of_round = mine.of_round;
          spent = λ z. absurd (omega arith);
          only_spent = λ q. absurd (idle_not_spent refl q);
          rests = λ q. absurd (idle_not_resting refl q);
          listed = Each-append (λ e. get_elem? homes' e.number ≡ some (some (counted e.value (next r.before)))) v.runs (job_run i b.job ∷ [])
              (each_else s.homes (next r.before) i (some b) v.runs (omega arith) mine.listed) (here, tt);
        } in
        let others : (k : ℕ) (u : View J) → k ≢ id → get_elem? s.views k ≡ some u → Sits r.before r.start homes' u = λ k u ne e.
        let lu : lists i u ≤ total (lists i) s.views = total_least (lists i) s.views k u e in
        sits_else r.before r.start s.homes i (some b) u (omega arith) (r.each_view k u e) in
        let places : (j : ℕ) → Place r.before r.claim r.start j (get_elem? homes' j) (total (holds j) (set s.views id w)) (total (lists j) (set s.views id w)) = λ j.
        let th : total (holds j) (set s.views id w) + holds j v ≡ total (holds j) s.views + 0 = total-set (holds j) s.views id v w at in
        let tl : total (lists j) (set s.views id w) + lists j v ≡ total (lists j) s.views + times j (v.runs ++ job_run i b.job ∷ []) = total-set (lists j) s.views id v w at in
        let more : times j (v.runs ++ job_run i b.job ∷ []) ≡ lists j v + once i j = total-snoc (λ (e : JobRun J). once e.number j) v.runs (job_run i b.job) in
        let hj : holds j v ≡ once i j = ap (holds_at j) has in
        dite (ℕ_discrete j i)
        (λ (e : j ≡ i).
        let one = once_same i j (sym e) in
        let mn' : total (holds j) s.views ≡ 1 = ap (λ (k : ℕ). total (holds k) s.views) e ∙ mn in
        let ln' : total (lists j) s.views ≡ 0 = ap (λ (k : ℕ). total (lists k) s.views) e ∙ ln in
        back b.job (omega arith) (ap (λ (k : ℕ). get_elem? homes' k) e ∙ here) (omega arith) (omega arith))
        (λ (ne : j ≢ i).
        let nought = once_other i j (λ q. ne (sym q)) in
        stays r.before r.claim r.claim r.start j (get_elem? s.homes j) (get_elem? homes' j) (total (holds j) s.views) (total (holds j) (set s.views id w)) (total (lists j) s.views) (total (lists j) (set s.views id w))
        (set_else s.homes i j (some b) ne) (omega arith) (omega arith) (λ x y. y) (λ x. x) (r.each_place j)) in
        steps s r id v w words' homes' r.claim at refl set_to.0 (length-set s.homes i (some b)) (inl (omega arith, omega arith)) (omega arith) (λ h. r.least (omega arith)) (omega arith) sits others places (omega arith)

    one_holder : 1 ≤ total (holds i) s.views
    one_holder =
        let m : holds i me.0 ≤ total (holds i) s.views = total_least (holds i) s.views id me.0 at in
        let h : holds i me.0 ≡ once i i = ap (holds_at i) has in
        let one = once_same i i refl in omega arith

    finish_at : Place r.before r.claim r.start i (get_elem? s.homes i) (total (holds i) s.views) (total (lists i) s.views) → Rule (after_finish s id me.0 ((i, b) ∷ []))
    finish_at (out lt home mn ln) = home_again lt home mn ln
    finish_at (waits x le begins home mn ln) = let m = one_holder in absurd (omega arith)
    finish_at (back y lt home mn ln) = let m = one_holder in absurd (omega arith)
    finish_at (beyond home mn ln) = let m = one_holder in absurd (omega arith)

  pub finishes : (slots id : ℕ) (me : Me (CountedJob J) (View J)) (i : ℕ) (b : CountedJob J) → me.0.stage ≡ Holding i → me.1 ≡ (i, b) ∷ [] → b.rounds ≡ me.0.round
      → Allows Rule slots id me 1 (λ x. (x + 1) % 2 ^ 64) (finished (step slots 1 1 0 none) me)
  finishes slots id me i b has taken of s r sized at fits = (
    after me.0 me.1,
    gives,
    tt,
    subst (λ (c : List (ℕ × CountedJob J)). Rule (after_finish s id me.0 c)) (sym taken) (finish_at slots id me i b has taken of s r at (r.each_place i)),
    λ (k : ℕ) (x : CountedJob J) (e : me.1 ≡ (k, x) ∷ []). ap (λ (c : List (ℕ × CountedJob J)). (after me.0 c, rest c)) e,
  )
