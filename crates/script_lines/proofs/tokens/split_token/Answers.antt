use Rattle.std.proofs.Common.{◌≡◌, [], ◌∷◌, List, ℕ, Bor, Option, None, Some, refl}
use Rattle.std.specs.Prelude.{MatchOption, MatchResult}
use Rattle.std.specs.Option.{ok_or}
use Rattle.onbar_grammar.specs.declared.Why.TheVariants.{Words}
use Rattle.onbar_grammar.specs.Script.{tokens_of}
use Rattle.onbar_grammar.specs.Parts.{parted_at}
use Rattle.script_lines.proofs.TokenLemmas.{tokens_of-parts, tokens_of-whole}
use Rattle.script_lines.proofs.tokens.split_token.Goals as goal

first_token : (bytes : List ℕ) (parts : Option (Bor (List ℕ) × Bor (List ℕ)))
    → MatchOption parts (parted_at 32 bytes ≡ None) (λ parts. parted_at 32 bytes ≡ Some (parts.0.now, parts.1.now))
    → MatchResult (ok_or parts Words) (λ parts. tokens_of bytes ≡ parts.0.now ∷ tokens_of parts.1.now)
    (λ why. (why ≡ Words) × (tokens_of bytes ≡ bytes ∷ []))
first_token bytes None is = (refl, tokens_of-whole bytes is)
first_token bytes (Some parts) is = tokens_of-parts bytes parts.0.now parts.1.now is

pub returns : goal.returns
returns c = rw c.ok_or.ensures.value (first_token c.args.bytes.now c.parts_at.result c.parts_at.ensures)
