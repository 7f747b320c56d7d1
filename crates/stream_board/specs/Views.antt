-- What a seat knows, and the sums over the views of all seats that the rule of the board speaks of.
use Rattle.std.specs.Prelude.{ℕ, ◌+◌, ◌%◌, ◌^◌, ◌==◌, if◌then◌else◌, List, [], ◌∷◌, length, slice_set}
use mathlib.Core.Option.{Option, none, some}
use Rattle.stream_board.specs.declared.rule.CountedJob.{CountedJob}
use Rattle.stream_board.specs.declared.rule.JobRun.{JobRun}
use Rattle.stream_board.specs.declared.rule.View.{View}
use Rattle.stream_board.specs.declared.rule.Stage.{Stage}
use Rattle.stream_board.specs.declared.rule.Stage.TheVariants.{Idle, Holding, Resting, Spent}

module _ {A : Type 0} where
  -- the sum of f over the list
  abbrev pub total : (A → ℕ) → List A → ℕ
  total f [] = 0
  total f (x ∷ xs) = f x + total f xs

  -- P of each element. It computes on a list, as an induction wants it
  abbrev pub Each : (A → Type 0) → List A → Type 0
  Each P [] = Unit {0}
  Each P (x ∷ xs) = P x × Each P xs

-- 1 where the numbers are one
abbrev pub once : ℕ → ℕ → ℕ
once i j = if i == j then 1 else 0

-- rounds are counted modulo 2 ^ 64
abbrev pub next : ℕ → ℕ
next r = (r + 1) % 2 ^ 64

-- 1 where a seat of this stage holds the job j
abbrev pub holds_at : ℕ → Stage → ℕ
holds_at j (Holding i) = once i j
holds_at j Idle = 0
holds_at j Resting = 0
holds_at j Spent = 0

-- how many jobs a seat of this stage holds
abbrev pub held : Stage → ℕ
held (Holding i) = 1
held Idle = 0
held Resting = 0
held Spent = 0

-- n, unless the seat rests
abbrev pub awake_at : ℕ → Stage → ℕ
awake_at n Resting = 0
awake_at n Idle = n
awake_at n (Holding i) = n
awake_at n Spent = n

module _ {J : Type 0} where
  -- the three records
  abbrev pub counted : J → ℕ → CountedJob J
  counted x r = record { job = x; rounds = r }

  abbrev pub job_run : ℕ → J → JobRun J
  job_run i x = record { number = i; value = x }

  abbrev pub view : Stage → ℕ → ℕ → ℕ → List J → List (JobRun J) → View J
  view st r n m xs es = record { stage = st; round = r; shares = n; misses = m; start = xs; runs = es }

  -- an idle view that has run nothing in this round
  abbrev pub fresh : ℕ → ℕ → List J → View J
  fresh r n xs = view Idle r n 0 xs []

  -- what is left of a view that another has taken in
  abbrev pub spent : View J
  spent = view Spent 0 0 0 [] []

  -- what is summed over all views
  abbrev pub shares : View J → ℕ
  shares v = v.shares

  abbrev pub misses : View J → ℕ
  misses v = v.misses

  -- the shares, unless the seat rests
  abbrev pub awake : View J → ℕ
  awake v = awake_at v.shares v.stage

  abbrev pub holds : ℕ → View J → ℕ
  holds j v = holds_at j v.stage

  -- how often the list has a run of the job j
  abbrev pub times : ℕ → List (JobRun J) → ℕ
  times j es = total (λ e. once e.number j) es

  abbrev pub lists : ℕ → View J → ℕ
  lists j v = times j v.runs

  -- how often the seat has drawn
  abbrev pub drawn : View J → ℕ
  drawn v = length v.runs + held v.stage + v.misses

  -- the values after these runs
  abbrev pub settled : List J → List (JobRun J) → List J
  settled xs [] = xs
  settled xs (e ∷ es) = slice_set (settled xs es) e.number e.value

  -- 1 where a job of this round is at home
  abbrev pub in_round : ℕ → Option (CountedJob J) → ℕ
  in_round r none = 0
  in_round r (some b) = once b.rounds r
