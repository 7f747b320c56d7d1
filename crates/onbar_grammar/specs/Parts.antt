-- The parts of a text.
use Rattle.std.specs.Prelude.{ℕ, List, [], ◌∷◌, ◌==◌, if◌then◌else◌, Option, None, Some}
use Rattle.std.specs.Option.{option_map}

-- the parts before and behind the first such character
abbrev pub parted_at : ℕ → List ℕ → Option (List ℕ × List ℕ)
parted_at c [] = None
parted_at c (x ∷ xs) = if x == c then Some ([], xs) else option_map (λ parts. (x ∷ parts.0, parts.1)) (parted_at c xs)
