-- A board between two runs.
use Rattle.std.specs.Prelude.{◌≡◌, ℕ, ◌≤◌, List, [], ◌∷◌, length}
use Rattle.atomic_table.specs.Seated.{TableId}
use Rattle.stream_board.specs.declared.rule.View.{View}
use Rattle.stream_board.specs.Views.{fresh}

-- the jobs' values, of which the one seat knows
abbrev pub values_of : {J : Type 0} → List (View J) → List J
values_of [] = []
values_of (v ∷ vs) = v.start

-- the seat has all shares and has drawn nothing, and there is room for the jobs to come back
pub record Between {J : Type 0} (table seat : TableId) (views : List (View J)) (room : List J) (capacity : ℕ) : Type 0 where
  pub round : ℕ
  pub own : seat ≡ table
  pub two_words : table.words ≡ 2
  pub counted : table.slots ≡ length (values_of views)
  pub idle : views ≡ fresh round 16 (values_of views) ∷ []
  pub empty : room ≡ []
  pub enough : length (values_of views) ≤ capacity
