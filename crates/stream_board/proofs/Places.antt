-- What a step leaves: the places, the seats, and the rule, of which only what the step changes is to be shown.
use Rattle.std.proofs.Common.{◌≡◌, ◌≢◌, ◌⊎◌, ℕ, ◌+◌, ◌^◌, ◌<◌, ◌≤◌, List, [], ◌∷◌, length, get_or, set, sym, refl, ap, ◌∙◌, ⊎_elim, arith}
use mathlib.Core.Option.{Option, some}
use lib.ListN.{get_elem?}
use Rattle.atomic_table.specs.Table.{State}
use Rattle.atomic_table.proofs.Lists.{set_else}
use Rattle.stream_board.specs.declared.rule.CountedJob.{CountedJob}
use Rattle.stream_board.specs.declared.rule.JobRun.{JobRun}
use Rattle.stream_board.specs.declared.rule.View.{View}
use Rattle.stream_board.specs.declared.rule.Stage.TheVariants.{Idle, Holding}
use Rattle.stream_board.specs.Views.{total, Each, next, counted, shares, misses, awake, awake_at, holds, lists, times, drawn, in_round}
use Rattle.stream_board.specs.Rule.{Sits, Place, waits, out, back, beyond, Rule}
use Rattle.stream_board.proofs.Sums.{once_same, inside, total-set, total_least, each_set}

pub not_next : (r : ℕ) → r < 2 ^ 64 → r ≢ next r
not_next r h e = omega arith

-- a write of one of the two words, whose others stay
pub claim_set : (words : List ℕ) (x : ℕ) → length words ≡ 2 → (length (set words 0 x) ≡ 2) × (get_or (set words 0 x) 0 0 ≡ x) × (get_or (set words 0 x) 1 0 ≡ get_or words 1 0)
claim_set [] x e = absurd (omega arith)
claim_set (a ∷ bs) x e = (e, refl, refl)

pub done_set : (words : List ℕ) (x : ℕ) → length words ≡ 2 → (length (set words 1 x) ≡ 2) × (get_or (set words 1 x) 0 0 ≡ get_or words 0 0) × (get_or (set words 1 x) 1 0 ≡ x)
done_set [] x e = absurd (omega arith)
done_set (a ∷ []) x e = absurd (omega arith)
done_set (a ∷ b ∷ cs) x e = (e, refl, refl)

module _ {J : Type 0} where
  -- a place at which nothing happens
  pub stays : (b c c' : ℕ) (start : List J) (j : ℕ) (h h' : Option (Option (CountedJob J))) (m m' l l' : ℕ)
      → h' ≡ h → m' ≡ m → l' ≡ l → (j < length start → c ≤ j → c' ≤ j) → (j < c → j < c')
      → Place b c start j h m l → Place b c' start j h' m' l'
  stays b c c' start j h h' m m' l l' eh em el w o (waits x le at home mn ln) = waits x (w (inside start j x at) le) at (eh ∙ home) (em ∙ mn) (el ∙ ln)
  stays b c c' start j h h' m m' l l' eh em el w o (out lt home mn ln) = out (o lt) (eh ∙ home) (em ∙ mn) (el ∙ ln)
  stays b c c' start j h h' m m' l l' eh em el w o (back y lt home mn ln) = back y (o lt) (eh ∙ home) (em ∙ mn) (el ∙ ln)
  stays b c c' start j h h' m m' l l' eh em el w o (beyond home mn ln) = beyond (eh ∙ home) (em ∙ mn) (el ∙ ln)

  pub each_else : (homes : List (Option (CountedJob J))) (r i : ℕ) (h : Option (CountedJob J)) (es : List (JobRun J)) → times i es ≡ 0
      → Each (λ e. get_elem? homes e.number ≡ some (some (counted e.value r))) es → Each (λ e. get_elem? (set homes i h) e.number ≡ some (some (counted e.value r))) es
  each_else homes r i h [] z a = tt
  each_else homes r i h (e ∷ es) z a =
      let n : e.number ≢ i = λ q. let one = once_same e.number i q in omega arith in
      (set_else homes i e.number h n ∙ a.0, each_else homes r i h es (omega arith) a.1)

  pub sits_else : (before : ℕ) (start : List J) (homes : List (Option (CountedJob J))) (i : ℕ) (h : Option (CountedJob J)) (v : View J) → lists i v ≡ 0
      → Sits before start homes v → Sits before start (set homes i h) v
  sits_else before start homes i h v z s = record {
    missed = s.missed;
    of_round = s.of_round;
    spent = s.spent;
    only_spent = s.only_spent;
    rests = s.rests;
    listed = each_else homes (next before) i h v.runs z s.listed;
  }

  pub idle_awake : (v : View J) → v.stage ≡ Idle → awake v ≡ v.shares
  idle_awake v e = ap (awake_at v.shares) e

  pub holding_awake : (v : View J) (i : ℕ) → v.stage ≡ Holding i → awake v ≡ v.shares
  holding_awake v i e = ap (awake_at v.shares) e

  pub awake_word : (s : State (CountedJob J) (View J)) (r : Rule s) (k : ℕ) (v : View J) → get_elem? s.views k ≡ some v → awake v ≡ v.shares → 0 < v.shares
      → (total awake s.views ≡ 16) × (get_or s.words 0 0 ≡ r.claim)
  awake_word s r k v at aw pos =
      let m = total_least awake s.views k v at in
      ⊎_elim (λ (t : (total awake s.views ≡ 16) × (get_or s.words 0 0 ≡ r.claim)). t) (λ (t : (total awake s.views ≡ 0) × (get_or s.words 0 0 ≡ 0)). let z = t.0 in absurd (omega arith)) r.word

  -- the frame of a step by one seat
  pub steps : (s : State (CountedJob J) (View J)) (r : Rule s) (id : ℕ) (v w : View J) (words : List ℕ) (homes : List (Option (CountedJob J))) (claim : ℕ)
      → get_elem? s.views id ≡ some v
      → w.shares ≡ v.shares
      → length words ≡ 2
      → length homes ≡ length s.homes
      → ((total awake (set s.views id w) ≡ 16) × (get_or words 0 0 ≡ claim)) ⊎ ((total awake (set s.views id w) ≡ 0) × (get_or words 0 0 ≡ 0))
      → claim ≤ length s.homes + total misses (set s.views id w)
      → (0 < total misses (set s.views id w) → length s.homes ≤ claim)
      → claim ≡ total drawn (set s.views id w)
      → Sits r.before r.start homes w
      → ((k : ℕ) (u : View J) → k ≢ id → get_elem? s.views k ≡ some u → Sits r.before r.start homes u)
      → ((j : ℕ) → Place r.before claim r.start j (get_elem? homes j) (total (holds j) (set s.views id w)) (total (lists j) (set s.views id w)))
      → get_or words 1 0 ≡ total (in_round (next r.before)) homes
      → Rule record { words = words; homes = homes; views = set s.views id w }
  steps s r id v w words homes claim at same two wide word most least draws mine others places done =
      let p = total-set shares s.views id v w at in
      let few = r.few in
      let long = r.wide in
      let parts = r.parts in
      record {
        before = r.before;
        claim = claim;
        start = r.start;
        fits = r.fits;
        two = two;
        few = omega arith;
        wide = long ∙ sym wide;
        parts = omega arith;
        word = word;
        most = omega arith;
        least = λ h. let l = least h in omega arith;
        draws = draws;
        each_view = each_set (Sits r.before r.start homes) s.views id w mine others;
        each_place = places;
        done = done;
      }
