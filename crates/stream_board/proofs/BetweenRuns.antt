-- A board before and after a run: what its one seat knows.
use Rattle.std.proofs.Common.{◌≡◌, ℕ, ◌<◌, ◌≤◌, List, [], ◌∷◌, length, sym, refl, ap, ◌∙◌, subst, arith}
use denote.Ref.{MutBor}
use denote.Param.Members.{Shared}
use Rattle.atomic_table.specs.Seated.{TableId}
use Rattle.atomic_table.specs.declared.badge.Badge.{Badge}
use Rattle.atomic_table.specs.declared.shared.Seat.{Seat}
use Rattle.stream_board.specs.declared.rule.CountedJob.{CountedJob}
use Rattle.stream_board.specs.declared.rule.View.{View}
use Rattle.stream_board.specs.Views.{Each, next, fresh}
use Rattle.stream_board.specs.Calls.{AcceptsEach, ChangesEach, AcceptsAll, ChangesAll}
use Rattle.stream_board.specs.Work.{IsOneCall, CanSpread, RunsRound}
use Rattle.stream_board.specs.Between.{Between, values_of}
use Rattle.stream_board.proofs.Calls.{accepts_all, changes_each}

module _ {J : Type 0} where
  -- a board whose seat has this view
  pub between : (round : ℕ) (table seat : TableId) (views : List (View J)) (v : View J) (xs room : List J) (capacity : ℕ) → seat ≡ table → table.words ≡ 2 → table.slots ≡ length xs
      → views ≡ v ∷ [] → v ≡ fresh round 16 xs → room ≡ [] → length xs ≤ capacity → Between table seat views room capacity
  between round table seat views v xs room capacity own two counted are is empty enough =
      subst (λ (vs : List (View J)). Between table seat vs room capacity) (sym (are ∙ ap (λ (w : View J). w ∷ []) is))
      record { round = round; own = own; two_words = two; counted = counted; idle = refl; empty = empty; enough = enough }

  abbrev first_or : View J → List (View J) → View J
  first_or v [] = v
  first_or v (w ∷ ws) = w

  -- the view of the seat that a badge of one view gives
  pub only_view : (views : List (View J)) (v w : View J) → views ≡ v ∷ [] → views ≡ w ∷ [] → v ≡ w
  only_view views v w a b = ap (first_or v) (sym a ∙ b)

-- a seat that was taken out of a board
module _ {F J : Type 0} (g : Shared F (MutBor J × Unit {0}) (Unit {0} × (MutBor J × Unit {0}))) (f : F) (table : TableId) (badge taken : Badge (View J)) (room : List J) (capacity : ℕ)
    (board : Between table badge.table_id badge.views room capacity) (same : taken ≡ badge) (seat : Seat (CountedJob J) (View J)) (own : seat.table_id ≡ taken.table_id)
    (has : taken.views ≡ seat.me.0 ∷ []) (xs : List J) (seen : values_of badge.views ≡ xs) where
  seat_own : seat.table_id ≡ table
  seat_own = own ∙ ap (λ (b : Badge (View J)). b.table_id) same ∙ board.own

  seat_is : seat.me.0 ≡ fresh board.round 16 xs
  seat_is =
      only_view badge.views seat.me.0 (fresh board.round 16 (values_of badge.views)) (sym (ap (λ (b : Badge (View J)). b.views) same) ∙ has) board.idle
      ∙ ap (fresh board.round 16) seen

  -- it can be spread over workers
  pub can_spread : (count workers : ℕ) → count ≡ table.slots → seat.me.1 ≡ [] → (0 < workers) × (workers ≤ 16) → AcceptsEach g f xs → CanSpread g f table count workers seat
  can_spread count workers sized empty few accepts =
      let all = ap (λ (v : View J). v.shares) seat_is in
      let least = few.0 in
      let most = few.1 in record {
        own = seat_own;
        two_words = board.two_words;
        counted = sym sized;
        worker = record {
          idle = ap (λ (v : View J). v.stage) seat_is;
          none_held = empty;
          in_round = refl;
          has_shares = refl;
          from_start = refl;
          called = subst (Each (IsOneCall g f seat.me.0.start)) (sym (ap (λ (v : View J). v.runs) seat_is)) tt;
        };
        some_worker = least;
        enough = omega arith;
        no_miss = ap (λ (v : View J). v.misses) seat_is;
        accepts = subst (AcceptsAll g f) (sym (ap (λ (v : View J). v.start) seat_is)) (accepts_all g f xs accepts);
      }

  -- and after a round it can lie in the board again
  module _ (seat' : Seat (CountedJob J) (View J)) (kept : seat'.table_id ≡ seat.table_id) (ran : RunsRound g f seat.me seat'.me) (badge' : Badge (View J)) (of : badge'.table_id ≡ seat'.table_id)
      (are : badge'.views ≡ seat'.me.0 ∷ []) where
    as_many : length ran.values ≡ length xs
    as_many = ran.long ∙ ap (λ (v : View J). length v.start) seat_is

    pub lies_again : Between table badge'.table_id badge'.views room capacity
    lies_again =
        let long = as_many in
        let long' = ap length seen in
        let enough = board.enough in
        between (next seat.me.0.round) table badge'.table_id badge'.views seat'.me.0 ran.values room capacity (of ∙ kept ∙ seat_own) board.two_words
        (board.counted ∙ long' ∙ sym long) are
        (ap (λ (m : View J × List (ℕ × CountedJob J)). m.0) ran.after ∙ ap (λ (n : ℕ). fresh (next seat.me.0.round) n ran.values) (ap (λ (v : View J). v.shares) seat_is))
        board.empty (omega arith)

    pub each_changed : ChangesEach g f xs (values_of badge'.views)
    each_changed =
        let now : ran.values ≡ values_of badge'.views = sym (ap values_of are ∙ ap (λ (m : View J × List (ℕ × CountedJob J)). m.0.start) ran.after) in
        subst (ChangesEach g f xs) now
        (changes_each g f xs ran.values as_many (subst (λ (l : List J). ChangesAll g f l ran.values) (ap (λ (v : View J). v.start) seat_is) ran.changed))
