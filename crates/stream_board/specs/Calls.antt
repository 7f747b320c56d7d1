-- What the calls of a function at a `&mut` to each job may leave.
-- A pair that begins with an equation of one term with itself shows `grind` the term at which to use the rest, so that a caller needs no proof file.
use Rattle.std.specs.Prelude.{◌≡◌, ℕ, ◌<◌, List, length, slice_index_or}
use mathlib.Core.Option.{some}
use lib.ListN.{get_elem?}
use denote.Ref.{MutBor}
use denote.Param.Members.{Shared}

module _ {F J : Type 0} (g : Shared F (MutBor J × Unit {0}) (Unit {0} × (MutBor J × Unit {0}))) (f : F) where
  -- f may be called with a `&mut` to x
  abbrev pub Accepts : J → Type 0
  Accepts x = (p : MutBor J) → p.now ≡ x → g.pre f (p, tt)

  -- a call of f with a `&mut` to x may leave y there
  pub record Changes (x y : J) : Type 0 where
    pub argument : MutBor J
    pub argument_is : argument.now ≡ x
    pub after_call : MutBor J
    pub call : g.post f (argument, tt) (tt, (after_call, tt))
    pub left : after_call.now ≡ y

  -- f may be called with a `&mut` to each of xs
  abbrev pub AcceptsEach : List J → Type 0
  AcceptsEach xs = (i : ℕ) (p : MutBor J) → i < length xs → p.now ≡ slice_index_or xs i p.now → g.pre f (p, tt)

  -- each of ys is what one call of f left where xs has its value
  abbrev pub ChangesEach : List J → List J → Type 0
  ChangesEach xs ys = (i : ℕ) (d : J) → i < length xs → (slice_index_or ys i d ≡ slice_index_or ys i d) × Changes (slice_index_or xs i d) (slice_index_or ys i d)

  -- the same two by the places of lists that may lack them
  abbrev pub AcceptsAll : List J → Type 0
  AcceptsAll xs = (j : ℕ) (x : J) → get_elem? xs j ≡ some x → Accepts x

  pub record ChangesAll (xs ys : List J) : Type 0 where
    pub at : (j : ℕ) (x y : J) → get_elem? xs j ≡ some x → get_elem? ys j ≡ some y → Changes x y
