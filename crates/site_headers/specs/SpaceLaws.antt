-- Laws of the bytes of spaces.
use Rattle.std.specs.Prelude.{◌≡◌, ℕ, ◌*◌, ◌<◌, ◌≤◌, ◌&&◌, nat_le, IsTrue, List, [], ◌∷◌, length, take, drop, All}
use Rattle.std.specs.List.{AllByRecursion, flat_map, list_all}
use Rattle.std.specs.Int.{to_be_bytes, w32}
use Rattle.std.proofs.Common.{arith, ap, sym, ◌∙◌, refl}
use Rattle.std.proofs.lemmas.Bool.{and_parts, leb-true}
use Rattle.std.proofs.lemmas.Bool.Decides.{nat_tests}
use Rattle.std.proofs.lemmas.List.{length-append, take_at, drop_at}
use Rattle.std.proofs.lemmas.List.Elements.{All-cons, All-nil}
use Rattle.byte_fields.specs.Fields.{padded}
use Rattle.byte_fields.proofs.FieldLemmas.{length-padded, same_number, same_text}
use Rattle.bsa_descriptor.specs.Text.{IsPrinted, IsText}
use Rattle.bsa_descriptor.proofs.TextLemmas.{FitsField-text}
use Rattle.onbar_grammar.specs.Script.{Space}
use Rattle.onbar_grammar.specs.Numbers.{is_name, is_letter, is_name_character}
use Rattle.site_headers.specs.Heads.{IsSpace}
use Rattle.site_headers.specs.Headers.{space_bytes}

printed_character : (c : ℕ) → IsTrue (is_name_character c) → IsPrinted c
printed_character c h = grind (arith, nat_tests)

printed_letter : (c : ℕ) → IsTrue (is_letter c) → IsPrinted c
printed_letter c h = grind (arith, nat_tests)

printed_characters : (cs : List ℕ) → IsTrue (list_all is_name_character cs) → All IsPrinted cs
printed_characters [] h = All-nil IsPrinted
printed_characters (c ∷ cs) h =
    let parts = and_parts (is_name_character c) (list_all is_name_character cs) h in
    All-cons IsPrinted c cs (printed_character c parts.0) (printed_characters cs parts.1)

-- a name is a text of each field that has room for it
pub IsText-name : (width : ℕ) (name : List ℕ) → 18 < width → IsTrue (is_name name) → IsText width name
IsText-name width [] wide h = grind arith
IsText-name width (c ∷ cs) wide h =
    let parts = and_parts (is_letter c && list_all is_name_character cs) (nat_le (length cs) 17) h in
    let front = and_parts (is_letter c) (list_all is_name_character cs) parts.0 in
    record {
      shorter = omega (arith, leb-true (length cs) 17 parts.1);
      printed = All-cons IsPrinted c cs (printed_letter c front.0) (printed_characters cs front.1);
    }

-- a name fits its field
pub name_fits : (space : Space) → IsSpace space → IsText 20 space.name
name_fits space is = IsText-name 20 space.name (omega arith) is.named

pub length-name_field : (space : Space) → IsSpace space → length (padded 20 space.name) ≡ 20
length-name_field space is = length-padded 20 space.name (omega (arith, (name_fits space is).shorter))

pub length-space_bytes : (space : Space) → IsSpace space → length (space_bytes space) ≡ 24
unfolding space_bytes
length-space_bytes space is = omega (arith, length-append (padded 20 space.name) (to_be_bytes w32 space.pages), length-name_field space is)

pub take-space_bytes : (space : Space) → IsSpace space → take 20 (space_bytes space) ≡ padded 20 space.name
unfolding space_bytes
take-space_bytes space is = take_at (padded 20 space.name) (to_be_bytes w32 space.pages) 20 (length-name_field space is)

pub drop-space_bytes : (space : Space) → IsSpace space → drop 20 (space_bytes space) ≡ to_be_bytes w32 space.pages
unfolding space_bytes
drop-space_bytes space is = drop_at (padded 20 space.name) (to_be_bytes w32 space.pages) 20 (length-name_field space is)

abbrev space_with : List ℕ → ℕ → Space
space_with name pages = record { name = name; pages = pages }

pub same_fields : (a b : Space) → a.name ≡ b.name → a.pages ≡ b.pages → a ≡ b
same_fields a b names pages = ap (λ (name : List ℕ). space_with name a.pages) names ∙ ap (λ (n : ℕ). space_with b.name n) pages

-- the bytes of a space are no other's
pub same_space : (a b : Space) → IsSpace a → IsSpace b → space_bytes a ≡ space_bytes b → a ≡ b
same_space a b is_a is_b e =
    let names : a.name ≡ b.name = same_text 20 a.name b.name (FitsField-text 20 a.name (name_fits a is_a)) (FitsField-text 20 b.name (name_fits b is_b)) (sym (take-space_bytes a is_a) ∙ ap (take 20) e ∙ take-space_bytes b is_b) in
    let a_few : a.pages ≤ 65536 = is_a.few in
    let b_few : b.pages ≤ 65536 = is_b.few in
    let pages : a.pages ≡ b.pages = same_number w32 a.pages b.pages (omega arith) (omega arith) (omega arith) (sym (drop-space_bytes a is_a) ∙ ap (drop 20) e ∙ drop-space_bytes b is_b) in
    same_fields a b names pages

pub length-spaces : (spaces : List Space) → AllByRecursion IsSpace spaces → length (flat_map space_bytes spaces) ≡ 24 * length spaces
length-spaces [] each = refl
length-spaces (space ∷ spaces) each =
    omega (arith, length-append (space_bytes space) (flat_map space_bytes spaces), length-space_bytes space each.0, length-spaces spaces each.1)

-- the bytes of so many spaces are no others'
pub same_spaces : (xs ys : List Space) → AllByRecursion IsSpace xs → AllByRecursion IsSpace ys → length xs ≡ length ys
    → flat_map space_bytes xs ≡ flat_map space_bytes ys → xs ≡ ys
same_spaces [] [] each_x each_y lengths e = refl
same_spaces [] (y ∷ ys) each_x each_y lengths e = absurd (omega arith)
same_spaces (x ∷ xs) [] each_x each_y lengths e = absurd (omega arith)
same_spaces (x ∷ xs) (y ∷ ys) each_x each_y lengths e =
    let first : space_bytes x ≡ space_bytes y =
    sym (take_at (space_bytes x) (flat_map space_bytes xs) 24 (length-space_bytes x each_x.0)) ∙ ap (take 24) e
    ∙ take_at (space_bytes y) (flat_map space_bytes ys) 24 (length-space_bytes y each_y.0) in
    let others : flat_map space_bytes xs ≡ flat_map space_bytes ys =
    sym (drop_at (space_bytes x) (flat_map space_bytes xs) 24 (length-space_bytes x each_x.0)) ∙ ap (drop 24) e
    ∙ drop_at (space_bytes y) (flat_map space_bytes ys) 24 (length-space_bytes y each_y.0) in
    let same : x ≡ y = same_space x y each_x.0 each_y.0 first in
    let rest : xs ≡ ys = same_spaces xs ys each_x.1 each_y.1 (omega arith) others in
    ap (λ (z : Space). z ∷ xs) same ∙ ap (λ (zs : List Space). y ∷ zs) rest
