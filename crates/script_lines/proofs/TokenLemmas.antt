-- The tokens of a line by the parts around its first space, and words of more hexadecimal digits than a line may have.
use Rattle.std.proofs.Common.{◌≡◌, ◌*◌, ◌/◌, ◌<◌, ℕ, List, [], ◌∷◌, length, Bool, true, false, ◌==◌, nat_le, ◌&&◌, cond, Option, None, Some, Result, Ok, Err, refl, ap, subst, ◌∙◌, arith}
use Rattle.std.proofs.lemmas.Option.{same_Some}
use Rattle.std.proofs.lemmas.Bool.Decides.{nat_tests}
use Rattle.std.specs.Prelude.{if◌then◌else◌}
use Rattle.std.specs.Option.{option_map, option_and_then}
use Rattle.std.specs.Result.{result_ok}
use Rattle.hex.specs.declared.error.FromHexError.{FromHexError}
use Rattle.hex.specs.Hex.{decode_of}
use Rattle.hex.proofs.HexLemmas.{decode_of-ok}
use Rattle.onbar_grammar.specs.Numbers.{hex_bytes}
use Rattle.onbar_grammar.specs.Script.{tokens_of, with_character}
use Rattle.onbar_grammar.specs.Parts.{parted_at}

-- ---- tokens

-- the parts behind one more character
abbrev begun_with : ℕ → Option (List ℕ × List ℕ) → Option (List ℕ × List ℕ)
begun_with c parts = option_map (λ parts. (c ∷ parts.0, parts.1)) parts

-- a line that has a space
record IsParted (tokens : List (List ℕ)) (parts : List ℕ × List ℕ) : Type 0 where
  are : tokens ≡ parts.0 ∷ tokens_of parts.1

IsParted-begun : (c : ℕ) (bytes : List ℕ) (read : Option (List ℕ × List ℕ)) (parts : List ℕ × List ℕ)
    → ((found : List ℕ × List ℕ) → read ≡ Some found → IsParted (tokens_of bytes) found)
    → begun_with c read ≡ Some parts → IsParted (with_character c (tokens_of bytes)) parts
IsParted-begun c bytes (Some found) parts further is =
    let same : (c ∷ found.0, found.1) ≡ parts = same_Some _ parts is in
    subst (IsParted (with_character c (tokens_of bytes))) same
    (record { are = ap (λ tokens. with_character c tokens) (further found refl).are })
IsParted-begun c bytes None parts further is = cc is

IsParted-first : (c : ℕ) (bytes : List ℕ) (parts : List ℕ × List ℕ) → (space : Bool)
    → ((found : List ℕ × List ℕ) → parted_at 32 bytes ≡ Some found → IsParted (tokens_of bytes) found)
    → (if space then Some ([], bytes) else begun_with c (parted_at 32 bytes)) ≡ Some parts
    → IsParted (if space then [] ∷ tokens_of bytes else with_character c (tokens_of bytes)) parts
IsParted-first c bytes parts true further is =
    subst (IsParted ([] ∷ tokens_of bytes)) (same_Some ([], bytes) parts is) (record { are = refl })
IsParted-first c bytes parts false further is = IsParted-begun c bytes (parted_at 32 bytes) parts further is

IsParted-tokens_of : (bytes : List ℕ) (parts : List ℕ × List ℕ) → parted_at 32 bytes ≡ Some parts → IsParted (tokens_of bytes) parts
IsParted-tokens_of [] parts is = cc is
IsParted-tokens_of (c ∷ bytes) parts is = IsParted-first c bytes parts (c == 32) (IsParted-tokens_of bytes) is

pub tokens_of-parts : (bytes first rest : List ℕ) → parted_at 32 bytes ≡ Some (first, rest) → tokens_of bytes ≡ first ∷ tokens_of rest
tokens_of-parts bytes first rest is = (IsParted-tokens_of bytes (first, rest) is).are

tokens_of-begun : (c : ℕ) (bytes : List ℕ) (read : Option (List ℕ × List ℕ)) → (read ≡ None → tokens_of bytes ≡ bytes ∷ [])
    → begun_with c read ≡ None → with_character c (tokens_of bytes) ≡ (c ∷ bytes) ∷ []
tokens_of-begun c bytes (Some found) further is = cc is
tokens_of-begun c bytes None further is = ap (λ tokens. with_character c tokens) (further refl)

tokens_of-other : (c : ℕ) (bytes : List ℕ) (space : Bool) → (parted_at 32 bytes ≡ None → tokens_of bytes ≡ bytes ∷ [])
    → (if space then Some ([], bytes) else begun_with c (parted_at 32 bytes)) ≡ None
    → (if space then [] ∷ tokens_of bytes else with_character c (tokens_of bytes)) ≡ (c ∷ bytes) ∷ []
tokens_of-other c bytes true further is = cc is
tokens_of-other c bytes false further is = tokens_of-begun c bytes (parted_at 32 bytes) further is

pub tokens_of-whole : (bytes : List ℕ) → parted_at 32 bytes ≡ None → tokens_of bytes ≡ bytes ∷ []
tokens_of-whole [] is = refl
tokens_of-whole (c ∷ bytes) is = tokens_of-other c bytes (c == 32) (tokens_of-whole bytes) is

-- ---- bytes

hex_bytes-Ok : (word : List ℕ) (read : Result (List ℕ) FromHexError) → decode_of word ≡ read → 64 < length word / 2
    → option_and_then (λ bytes. cond (nat_le 1 (length bytes) && nat_le (length bytes) 64) (Some bytes) None) (result_ok read) ≡ None
hex_bytes-Ok word (Ok bytes) is long =
    let twice : length word ≡ 2 * length bytes = (decode_of-ok word bytes is).2 in
    grind (arith, nat_tests)
hex_bytes-Ok word (Err e) is long = refl

pub hex_bytes-long : (word : List ℕ) → 64 < length word / 2 → hex_bytes word ≡ None
hex_bytes-long word long = hex_bytes-Ok word (decode_of word) refl long
