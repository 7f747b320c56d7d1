-- The parts of bytes before and behind the first of some character.
use Rattle.std.proofs.Common.{◌≡◌, ◌≢◌, ℕ, suc, ◌+◌, ◌<◌, List, [], ◌∷◌, ◌++◌, length, take, drop, get_or, Option, None, Some, refl, sym, ap, ◌∙◌, arith}
use Rattle.std.proofs.lemmas.Bool.{ne_eqb, eq-eqb, eqb-true}
use Rattle.std.proofs.lemmas.List.{take-append-drop, drop_more, get_or-take, length-take-le}
use Rattle.std.specs.Option.{option_map}
use Rattle.memchr.specs.Find.{IsFirstByte, is_byte}
use Rattle.onbar_grammar.specs.Parts.{parted_at}

-- ---- the first of some character

-- the bytes have no such character
abbrev HasNo : ℕ → List ℕ → Type 0
HasNo c bytes = (k : ℕ) → k < length bytes → get_or bytes k 0 ≢ c

HasNo-tail : (c byte : ℕ) (bytes : List ℕ) → HasNo c (byte ∷ bytes) → HasNo c bytes
HasNo-tail c byte bytes none k below = none (suc k) (omega arith)

-- the bytes around the first such character
record Around (c : ℕ) (bytes : List ℕ) (at : ℕ) : Type 0 where
  none : HasNo c (take at bytes)
  are : bytes ≡ take at bytes ++ c ∷ drop (at + 1) bytes

Around-first : (c : ℕ) (bytes : List ℕ) (at : ℕ) → IsFirstByte (is_byte c) bytes (Some at) → Around c bytes at
Around-first c bytes at found =
    let inside : at < length bytes = found.0.high in
    let is : get_or bytes at 0 ≡ c = eqb-true (get_or bytes at 0) c found.1 in
    record {
      none = λ k below same.
          let lt : k < at = omega (arith, length-take-le at bytes) in
          found.0.before k (omega arith) lt (eq-eqb (get_or bytes k 0) c (sym (get_or-take at bytes k 0 lt) ∙ same));
      are = sym (take-append-drop at bytes) ∙ ap (λ rest. take at bytes ++ rest)
          (drop_more bytes at 0 inside ∙ ap (λ byte. byte ∷ drop (at + 1) bytes) is);
    }

HasNo-first : (c : ℕ) (bytes : List ℕ) → IsFirstByte (is_byte c) bytes None → HasNo c bytes
HasNo-first c bytes found k below is = found k (omega arith) below (eq-eqb (get_or bytes k 0) c is)

-- ---- the parts around it

-- a part that begins with one more character
abbrev begun_with : ℕ → Option (List ℕ × List ℕ) → Option (List ℕ × List ℕ)
begun_with c parts = option_map (λ parts. (c ∷ parts.0, parts.1)) parts

parted_at-cons : (c byte : ℕ) (bytes : List ℕ) → byte ≢ c → parted_at c (byte ∷ bytes) ≡ begun_with byte (parted_at c bytes)
parted_at-cons c byte bytes ne = rw (ne_eqb byte c ne)

parted_at-first : (c : ℕ) (front rest : List ℕ) → HasNo c front → parted_at c (front ++ c ∷ rest) ≡ Some (front, rest)
parted_at-first c [] rest none = rw (eq-eqb c c refl)
parted_at-first c (byte ∷ front) rest none =
    parted_at-cons c byte (front ++ c ∷ rest) (none 0 (omega arith))
    ∙ ap (λ parts. begun_with byte parts) (parted_at-first c front rest (HasNo-tail c byte front none))

parted_at-none : (c : ℕ) (bytes : List ℕ) → HasNo c bytes → parted_at c bytes ≡ None
parted_at-none c [] none = refl
parted_at-none c (byte ∷ bytes) none =
    parted_at-cons c byte bytes (none 0 (omega arith)) ∙ ap (λ parts. begun_with byte parts) (parted_at-none c bytes (HasNo-tail c byte bytes none))

pub parted_at-Some : (c : ℕ) (bytes : List ℕ) (at : ℕ) → IsFirstByte (is_byte c) bytes (Some at)
    → parted_at c bytes ≡ Some (take at bytes, drop (at + 1) bytes)
parted_at-Some c bytes at found =
    let around = Around-first c bytes at found in
    ap (λ bytes. parted_at c bytes) around.are ∙ parted_at-first c (take at bytes) (drop (at + 1) bytes) around.none

pub parted_at-None : (c : ℕ) (bytes : List ℕ) → IsFirstByte (is_byte c) bytes None → parted_at c bytes ≡ None
parted_at-None c bytes found = parted_at-none c bytes (HasNo-first c bytes found)
