-- Matches that are given one after another.
use Rattle.std.specs.Prelude.{◌≡◌, ℕ, List, [], ◌∷◌, drop, Option, Some, None}
use Rattle.bsa_session.specs.declared.state.Matches.{Matches}
use Rattle.bsa_session.specs.declared.state.Work.{Work}
use Rattle.bsa_session.specs.declared.state.Work.TheVariants.{Waiting, Querying}

-- these are left to be given
pub record LeavesRest (rest : List ℕ) (work : Work) : Type 0 where
  pub matches : Matches
  pub is : work ≡ Querying matches
  pub left : drop matches.given matches.copies.items ≡ rest

-- the first that is left is given, and the others are left; where none is, the query is ended
abbrev pub IsNextOf : List ℕ → Option ℕ → Work → Type 0
IsNextOf [] next work = (next ≡ None) × (work ≡ Waiting)
IsNextOf (copy ∷ rest) next work = (next ≡ Some copy) × LeavesRest rest work
