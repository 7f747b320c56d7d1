-- What a worker of a run has to be given, and what it gives back.
use Rattle.std.specs.Prelude.{◌≡◌, ℕ, ◌<◌, ◌≤◌, List, [], ◌∷◌, length}
use mathlib.Core.Option.{some}
use lib.ListN.{get_elem?}
use denote.Ref.{MutBor}
use denote.Param.Members.{Shared}
use Rattle.atomic_table.specs.Table.{Me}
use Rattle.atomic_table.specs.Seated.{TableId}
use Rattle.atomic_table.specs.declared.shared.Seat.{Seat}
use Rattle.stream_board.specs.declared.rule.CountedJob.{CountedJob}
use Rattle.stream_board.specs.declared.rule.JobRun.{JobRun}
use Rattle.stream_board.specs.declared.rule.View.{View}
use Rattle.stream_board.specs.declared.rule.Stage.TheVariants.{Idle}
use Rattle.stream_board.specs.Views.{Each, next, counted, job_run, fresh}
use Rattle.stream_board.specs.Steps.{listing}
use Rattle.stream_board.specs.Calls.{Changes, AcceptsAll, ChangesAll}

module _ {F J : Type 0} (g : Shared F (MutBor J × Unit {0}) (Unit {0} × (MutBor J × Unit {0}))) (f : F) where
  -- the run is one call of f at the job's start value
  pub record IsOneCall (start : List J) (e : JobRun J) : Type 0 where
    pub value : J
    pub starts : get_elem? start e.number ≡ some value
    pub changed : Changes g f value e.value

  -- an idle seat that holds no job, and each run that it lists is one call of f
  pub record IsWorker (round shares : ℕ) (start : List J) (m : Me (CountedJob J) (View J)) : Type 0 where
    pub idle : m.0.stage ≡ Idle
    pub none_held : m.1 ≡ []
    pub in_round : m.0.round ≡ round
    pub has_shares : m.0.shares ≡ shares
    pub from_start : m.0.start ≡ start
    pub called : Each (IsOneCall start) m.0.runs

  -- the held job has run
  pub record RunsHeld (number : ℕ) (m m' : Me (CountedJob J) (View J)) : Type 0 where
    pub before : CountedJob J
    pub value : J
    pub held : m.1 ≡ (number, before) ∷ []
    pub changed : Changes g f before.job value
    pub after : m' ≡ (m.0, (number, counted value (next before.rounds)) ∷ [])

  -- one more job has run, and is home
  pub record RunsOne (slots : ℕ) (v v' : View J) : Type 0 where
    pub number : ℕ
    pub value : J
    pub called : IsOneCall v.start (job_run number value)
    pub fewer : length v.runs < slots
    pub after : v' ≡ listing number value v

  -- a seat that so many workers can share, each with at least one share, and whose jobs f accepts
  pub record CanSpread (table : TableId) (count workers : ℕ) (seat : Seat (CountedJob J) (View J)) : Type 0 where
    pub own : seat.table_id ≡ table
    pub two_words : table.words ≡ 2
    pub counted : table.slots ≡ count
    pub worker : IsWorker seat.me.0.round seat.me.0.shares seat.me.0.start seat.me
    pub some_worker : 0 < workers
    pub enough : workers ≤ seat.me.0.shares
    pub no_miss : seat.me.0.misses ≡ 0
    pub accepts : AcceptsAll g f seat.me.0.start

  -- the seat after its workers have run what they drew. One miss shows that no job is left to draw
  pub record HasSpread (before after : Seat (CountedJob J) (View J)) : Type 0 where
    pub own : after.table_id ≡ before.table_id
    pub worker : IsWorker before.me.0.round before.me.0.shares before.me.0.start after.me
    pub missed : 0 < after.me.0.misses

  -- each job ran once, and the next round begins with what that left
  pub record RunsRound (m m' : Me (CountedJob J) (View J)) : Type 0 where
    pub values : List J
    pub long : length values ≡ length m.0.start
    pub changed : ChangesAll g f m.0.start values
    pub after : m' ≡ (fresh (next m.0.round) m.0.shares values, [])
