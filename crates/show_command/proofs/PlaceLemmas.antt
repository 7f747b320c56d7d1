-- The place of a space with a name.
use Rattle.std.proofs.Common.{◌≡◌, ◌∙◌, ℕ, suc, ◌+◌, ◌<◌, List, [], ◌∷◌, length, Bool, Some, inl, inr, sym, ap, arith}
use Rattle.std.specs.Prelude.{nat_eq, if◌then◌else◌}
use Rattle.std.specs.Cmp.Lexicographic.{pointwise}
use Rattle.std.proofs.lemmas.Bool.{cases_Bool}
use Rattle.onbar_grammar.specs.Script.{Space, place_from, place_of}
use Rattle.site_worlds.specs.Lanes.{pages_of_space}
use Rattle.world_laws.specs.ListLaws.{none_some}

from_there : (name : List ℕ) (from : ℕ) (spaces : List Space) (found : ℕ × ℕ) → place_from from name spaces ≡ Some found
    → (k : ℕ) × (found.0 ≡ from + k) × (k < length spaces) × (pages_of_space spaces k ≡ found.1)
from_there name from [] found is = absurd (none_some is)
from_there name from (space ∷ spaces) found is = elim (cases_Bool (pointwise nat_eq space.name name)) [
  | inl same ↦
      let here : Some (from, space.pages) ≡ Some found = ap (λ (b : Bool). if b then Some (from, space.pages) else place_from (suc from) name spaces) (sym same) ∙ is in
      let pair : (from, space.pages) ≡ found = cc in
      (0, (let a : found.0 ≡ from + 0 = omega (arith, ap (λ (p : ℕ × ℕ). p.0) pair) in a), omega arith, ap (λ (p : ℕ × ℕ). p.1) pair)
  | inr other ↦
      let later : place_from (suc from) name spaces ≡ Some found = ap (λ (b : Bool). if b then Some (from, space.pages) else place_from (suc from) name spaces) (sym other) ∙ is in
      let rest = from_there name (suc from) spaces found later in
      (suc rest.0, (let a : found.0 ≡ from + suc rest.0 = omega (arith, rest.1) in a), omega (arith, rest.2), rest.3)
]

pub place_within : (name : List ℕ) (from : ℕ) (spaces : List Space) (found : ℕ × ℕ) → place_from from name spaces ≡ Some found → found.0 < from + length spaces
place_within name from spaces found is = let it = from_there name from spaces found is in omega (arith, it.1, it.2)

pub place_pages : (name : List ℕ) (spaces : List Space) (space pages : ℕ) → place_of name spaces ≡ Some (space, pages) → pages_of_space spaces space ≡ pages
place_pages name spaces space pages is =
    let it = from_there name 0 spaces (space, pages) is in
    let here : space ≡ it.0 = omega (arith, it.1) in ap (pages_of_space spaces) here ∙ it.3
