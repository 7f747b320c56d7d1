-- What a pattern matches: `*` stands for any run of characters, `?` for one, another character for itself.
use Rattle.std.specs.Prelude.{ℕ, Bool, true, false, ◌==◌, ◌||◌, ◌&&◌, if◌then◌else◌, List, [], ◌∷◌}

-- the test passes on some suffix of the text
abbrev pub any_suffix : (List ℕ → Bool) → List ℕ → Bool
any_suffix passes [] = passes []
any_suffix passes (character ∷ text) = passes (character ∷ text) || any_suffix passes text

-- `?`, which is 63, stands for any character, another one for itself
abbrev pub stands_for : ℕ → ℕ → Bool
stands_for symbol character = symbol == 63 || symbol == character

-- the text begins with a character that the symbol stands for, and the test passes on the rest
abbrev pub behind_one : ℕ → (List ℕ → Bool) → List ℕ → Bool
behind_one symbol passes [] = false
behind_one symbol passes (character ∷ text) = stands_for symbol character && passes text

abbrev pub is_empty : List ℕ → Bool
is_empty [] = true
is_empty (character ∷ text) = false

-- An empty pattern matches the empty text alone. `*`, which is 42, and a pattern match a text if the pattern matches a suffix
-- of it. Another symbol and a pattern match a text if the symbol stands for its first character, and the pattern matches the rest.
abbrev pub is_wild_match : List ℕ → List ℕ → Bool
is_wild_match [] = is_empty
is_wild_match (symbol ∷ pattern) = λ text.
    if symbol == 42 then any_suffix (is_wild_match pattern) text else behind_one symbol (is_wild_match pattern) text
