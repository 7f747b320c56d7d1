-- What each kind of step tells the seat that makes it.
use Rattle.std.specs.Prelude.{◌≡◌, ℕ, ◌+◌, ◌-◌, ◌/◌, ◌^◌, ◌<◌, ◌≤◌, [], ◌∷◌, ◌++◌, length}
use mathlib.Core.Option.{some}
use lib.ListN.{get_elem?}
use Rattle.atomic_table.specs.Table.{Me, Step}
use Rattle.stream_board.specs.declared.rule.CountedJob.{CountedJob}
use Rattle.stream_board.specs.declared.rule.View.{View}
use Rattle.stream_board.specs.declared.rule.Stage.TheVariants.{Idle, Holding, Resting}
use Rattle.stream_board.specs.Views.{next, counted, job_run, view, fresh, times, settled}

module _ {J : Type 0} where
  -- the view once its seat holds the job i
  abbrev pub holding : ℕ → View J → View J
  holding i v = record v { stage = Holding i }

  -- one miss more
  abbrev pub missed : View J → View J
  missed v = record v { misses = v.misses + 1 }

  -- the view once the claim word is 0 again
  abbrev pub resting : View J → View J
  resting v = record v { stage = Resting }

  -- the job i came home with the value y
  abbrev pub listing : ℕ → J → View J → View J
  listing i y v = view Idle v.round v.shares v.misses v.start (v.runs ++ job_run i y ∷ [])

  -- the next round begins with the values of this one
  abbrev pub woken : View J → View J
  woken v = fresh (next v.round) v.shares (settled v.start v.runs)

  -- what a seat keeps that gives half of its shares to a further one, and what it gives
  abbrev pub kept_half : View J → View J
  kept_half v = view Idle v.round (v.shares - v.shares / 2) v.misses v.start v.runs

  abbrev pub given_half : View J → View J
  given_half v = fresh v.round (v.shares / 2) v.start

  -- the view of a seat that has taken in another
  abbrev pub both : View J → View J → View J
  both v w = view Idle v.round (v.shares + w.shares) (v.misses + w.misses) v.start (v.runs ++ w.runs)

-- The seat took the job i, which had its start value
pub record Draws {J : Type 0} (slots i : ℕ) (m m' : Me (CountedJob J) (View J)) : Type 0 where
  pub value : J
  pub rounds : ℕ
  pub starts : get_elem? m.0.start i ≡ some value
  pub before : next rounds ≡ m.0.round
  pub fits : rounds < 2 ^ 64
  pub fewer : length m.0.runs < slots
  pub view : m'.0 ≡ holding i m.0
  pub takes : m'.1 ≡ (i, counted value rounds) ∷ m.1

module _ {J : Type 0} where
  -- a draw found the job i, or a number from the end on, which is a miss
  abbrev pub drew : Step (CountedJob J) → Me (CountedJob J) (View J) → ℕ → Me (CountedJob J) (View J) → Type 0
  drew st m i m' = (i < st.slots → Draws st.slots i m m') × (st.slots ≤ i → m' ≡ (missed m.0, m.1))

  -- the one job that the seat held is home
  abbrev pub finished : Step (CountedJob J) → Me (CountedJob J) (View J) → ℕ → Me (CountedJob J) (View J) → Type 0
  finished st m n m' = (i : ℕ) (b : CountedJob J) → m.1 ≡ (i, b) ∷ [] → m' ≡ (listing i b.job m.0, [])

  -- a seat that has all shares and a miss has run each job once
  abbrev pub rested : Step (CountedJob J) → Me (CountedJob J) (View J) → ℕ → Me (CountedJob J) (View J) → Type 0
  rested st m n m' = (m' ≡ (resting m.0, m.1)) × (length m.0.start ≡ st.slots) × ((j : ℕ) → j < st.slots → times j m.0.runs ≡ 1)

  -- the next round
  abbrev pub woke : Step (CountedJob J) → Me (CountedJob J) (View J) → ℕ → Me (CountedJob J) (View J) → Type 0
  woke st m n m' = m' ≡ (woken m.0, m.1)
