-- What a step takes of changes that are handed over: those of other spaces, and of pages that the space doesn't have, are passed over.
use Rattle.std.specs.Prelude.{◌≡◌, ℕ, List, take, drop, filter, Bool, ◌&&◌, ◌==◌, nat_lt}
use Rattle.log_history.specs.Effects.{Change}
use Rattle.lane_ways.specs.Steps.{step_of, step_pages}

-- a change of a page that the space has
abbrev pub is_own : (space count : ℕ) → Change → Bool
is_own space count change = (change.patch.space == space) && nat_lt change.patch.page count

-- the changes of the space's own pages, in order
abbrev pub own : (space count : ℕ) → List Change → List Change
own space count list = filter (λ change. is_own space count change) list

-- So many at the front of a list are a step: of the space's own changes as many as a step takes, and those that it leaves lie behind. Its
-- pages are those of the step.
pub record Chooses (space count : ℕ) (list : List Change) (front : ℕ) (pages : List ℕ) : Type 0 where
  pub taken : own space count (take front list) ≡ take (step_of 16 (own space count list)) (own space count list)
  pub left : own space count (drop front list) ≡ drop (step_of 16 (own space count list)) (own space count list)
  pub listed : pages ≡ step_pages 16 (own space count list)
