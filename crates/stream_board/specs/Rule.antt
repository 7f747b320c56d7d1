-- The rule over the table of a board.
use Rattle.std.specs.Prelude.{◌≡◌, ◌⊎◌, ℕ, ◌+◌, ◌^◌, ◌<◌, ◌≤◌, List, [], length, slice_index}
use mathlib.Core.Option.{Option, none, some}
use lib.ListN.{get_elem?}
use Rattle.atomic_table.specs.Table.{State}
use Rattle.stream_board.specs.declared.rule.CountedJob.{CountedJob}
use Rattle.stream_board.specs.declared.rule.View.{View}
use Rattle.stream_board.specs.declared.rule.Stage.TheVariants.{Resting, Spent}
use Rattle.stream_board.specs.Views.{total, Each, next, counted, shares, misses, awake, holds, lists, drawn, in_round}

-- What one seat knows. `before` is how often the jobs had run when this run began, `start` their values then
pub record Sits {J : Type 0} (before : ℕ) (start : List J) (homes : List (Option (CountedJob J))) (v : View J) : Type 0 where
  pub missed : v.misses ≤ v.shares
  pub of_round : 0 < v.shares → (v.round ≡ next before) × (v.start ≡ start)
  pub spent : v.shares ≡ 0 → (v.stage ≡ Spent) × (v.runs ≡ [])
  pub only_spent : v.stage ≡ Spent → v.shares ≡ 0
  pub rests : v.stage ≡ Resting → (v.shares ≡ 16) × (0 < v.misses)
  pub listed : Each (λ e. get_elem? homes e.number ≡ some (some (counted e.value (next before)))) v.runs

-- Where the job j is: it waits to be drawn, is out with one seat, or is back, listed by one seat. `holders` and `listers` say how many seats hold and list it
pub data Place {J : Type 0} (before claim : ℕ) (start : List J) (j : ℕ) (home : Option (Option (CountedJob J))) (holders listers : ℕ) : Type 0 where
  waits : (x : J) → claim ≤ j → get_elem? start j ≡ some x → home ≡ some (some (counted x before)) → holders ≡ 0 → listers ≡ 0 → Place before claim start j home holders listers
  out : j < claim → home ≡ some none → holders ≡ 1 → listers ≡ 0 → Place before claim start j home holders listers
  back : (y : J) → j < claim → home ≡ some (some (counted y (next before))) → holders ≡ 0 → listers ≡ 1 → Place before claim start j home holders listers
  beyond : home ≡ none → holders ≡ 0 → listers ≡ 0 → Place before claim start j home holders listers

-- What holds between any two steps
pub record Rule {J : Type 0} (s : State (CountedJob J) (View J)) : Type 0 where
  -- how often a job that waits has run, the claim word (while a seat rests, what it was before), and the jobs' values before this run
  pub before : ℕ
  pub claim : ℕ
  pub start : List J
  pub fits : before < 2 ^ 64
  pub two : length s.words ≡ 2
  pub few : length s.homes ≤ 16
  pub wide : length start ≡ length s.homes
  -- the shares of all seats add up to 16, so that a seat with 16 is the only one
  pub parts : total shares s.views ≡ 16
  -- no seat rests, or the only one does and the claim word is 0
  pub word : ((total awake s.views ≡ 16) × (slice_index s.words 0 ≡ claim)) ⊎ ((total awake s.views ≡ 0) × (slice_index s.words 0 ≡ 0))
  -- each draw found a job or is a miss, and none missed while a job was left
  pub most : claim ≤ length s.homes + total misses s.views
  pub least : 0 < total misses s.views → length s.homes ≤ claim
  pub draws : claim ≡ total drawn s.views
  pub each_view : (k : ℕ) (v : View J) → get_elem? s.views k ≡ some v → Sits before start s.homes v
  pub each_place : (j : ℕ) → Place before claim start j (get_elem? s.homes j) (total (holds j) s.views) (total (lists j) s.views)
  -- the done word is the number of jobs at home that have run in this round
  pub done : slice_index s.words 1 ≡ total (in_round (next before)) s.homes
