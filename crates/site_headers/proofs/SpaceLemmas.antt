-- The bytes of spaces, one space after another.
use Rattle.std.proofs.Common.{◌≡◌, ◌≢◌, ℕ, ◌+◌, ◌*◌, ◌^◌, ◌<◌, ◌≤◌, List, [], ◌∷◌, ◌++◌, length, take, drop, map, All, refl, sym, ap, ◌∙◌, zero, suc, arith}
use Rattle.std.specs.List.{AllByRecursion, flat_map}
use Rattle.std.proofs.lemmas.List.{flat_map_more, length-append, take_at, drop_at, take-take, drop-take, drop-drop}
use Rattle.std.proofs.lemmas.List.Concat.{flat_map-append}
use Rattle.std.proofs.lemmas.List.Elements.{All-from_recursion, recursion_from_All, All-push}
use Rattle.std.proofs.Math.Seq.{take-add}
use Rattle.onbar_grammar.specs.Script.{Space}
use Rattle.site_disk.specs.Bytes.{extent}
use Rattle.site_disk.specs.BytesLaws.{extent-same_front}
use Rattle.site_headers.specs.Heads.{IsSpace, IsFresh, AreDistinct}
use Rattle.site_headers.specs.Headers.{space_bytes}
use Rattle.site_headers.specs.Parts.{HasSpace, HasNewSpace, BeginsWithSpaces}
use Rattle.site_headers.specs.Views.{space_of}
use Rattle.site_headers.specs.declared.heads.SpaceHead.{SpaceHead}
use Rattle.site_headers.specs.SpaceLaws.{length-space_bytes, take-space_bytes, drop-space_bytes, length-spaces, same_spaces}

-- a space stands at a place exactly where its bytes do
pub IsSpace-HasSpace : (at : ℕ) (bytes : List ℕ) (space : Space) → HasSpace at bytes space → IsSpace space
IsSpace-HasSpace at bytes space has = record { named = has.name_stands.named; some = has.some; few = has.few }

pub extent-HasSpace : (at : ℕ) (bytes : List ℕ) (space : Space) → HasSpace at bytes space → extent at 24 bytes ≡ space_bytes space
unfolding space_bytes
extent-HasSpace at bytes space has = rw (take-add 20 4 (drop at bytes), has.name_stands.stands, drop-drop 20 at bytes, has.pages_stand.stands) refl

pub HasSpace-extent : (at : ℕ) (bytes : List ℕ) (space : Space) → IsSpace space → extent at 24 bytes ≡ space_bytes space → HasSpace at bytes space
HasSpace-extent at bytes space is e = record {
  name_stands = record {
    named = is.named;
    stands = sym (take-take 20 24 (drop at bytes) (omega arith)) ∙ ap (take 20) e ∙ take-space_bytes space is;
  };
  some = is.some;
  few = is.few;
  pages_stand = record {
    fits = few_pages space.pages is.few;
    stands = ap (take 4) (sym (drop-drop 20 at bytes)) ∙ sym (drop-take 20 4 (drop at bytes)) ∙ ap (drop 20) e ∙ drop-space_bytes space is;
  };
}
  where
    few_pages : (n : ℕ) → n ≤ 65536 → n < 2 ^ 32
    few_pages n few = omega arith

-- no space has a name exactly where each has another
pub IsFresh-all : (name : List ℕ) (heads : List SpaceHead) → All (λ head. head.name ≢ name) heads → IsFresh name (map space_of heads)
IsFresh-all name heads all = fresh heads (recursion_from_All (λ head. head.name ≢ name) heads all)
  where
    fresh : (xs : List SpaceHead) → AllByRecursion (λ (head : SpaceHead). head.name ≢ name) xs → IsFresh name (map space_of xs)
    fresh [] h = tt
    fresh (x ∷ xs) h = (h.0, fresh xs h.1)

pub all-IsFresh : (name : List ℕ) (heads : List SpaceHead) → IsFresh name (map space_of heads) → All (λ head. head.name ≢ name) heads
all-IsFresh name heads fresh = All-from_recursion (λ head. head.name ≢ name) heads (each heads fresh)
  where
    each : (xs : List SpaceHead) → IsFresh name (map space_of xs) → AllByRecursion (λ (head : SpaceHead). head.name ≢ name) xs
    each [] h = tt
    each (x ∷ xs) h = (h.0, each xs h.1)

IsFresh-push : (name : List ℕ) (spaces : List Space) (space : Space) → IsFresh name spaces → (space.name ≡ name → ⊥) → IsFresh name (spaces ++ space ∷ [])
IsFresh-push name [] space fresh other = (other, tt)
IsFresh-push name (x ∷ xs) space fresh other = (fresh.0, IsFresh-push name xs space fresh.1 other)

-- one more space with a name of its own
pub AreDistinct-push : (spaces : List Space) (space : Space) → AreDistinct spaces → IsFresh space.name spaces → AreDistinct (spaces ++ space ∷ [])
AreDistinct-push [] space distinct fresh = (tt, tt)
AreDistinct-push (x ∷ xs) space distinct fresh =
    (IsFresh-push x.name xs space distinct.0 (λ (e : space.name ≡ x.name). fresh.0 (sym e)), AreDistinct-push xs space distinct.1 fresh.1)

IsFresh-at : (name : List ℕ) (before : List Space) (space : Space) (behind : List Space) → IsFresh name (before ++ space ∷ behind) → space.name ≡ name → ⊥
IsFresh-at name [] space behind fresh = fresh.0
IsFresh-at name (x ∷ xs) space behind fresh = IsFresh-at name xs space behind fresh.1

-- of distinct spaces none has the name of one before it
pub AreDistinct-fresh : (before : List Space) (space : Space) (behind : List Space) → AreDistinct (before ++ space ∷ behind) → IsFresh space.name before
AreDistinct-fresh [] space behind distinct = tt
AreDistinct-fresh (x ∷ xs) space behind distinct =
    (λ (e : x.name ≡ space.name). IsFresh-at x.name xs space behind distinct.0 (sym e), AreDistinct-fresh xs space behind distinct.1)

each_around : (front : List Space) (space : Space) (behind : List Space) → AllByRecursion IsSpace (front ++ space ∷ behind) → AllByRecursion IsSpace front × IsSpace space
each_around [] space behind each = (tt, each.0)
each_around (x ∷ xs) space behind each = let rest = each_around xs space behind each.1 in ((each.0, rest.0), rest.1)

-- what stands where bytes begin with spaces
spelled_split : (bytes : List ℕ) (front : List Space) (space : Space) (behind : List Space) → AllByRecursion IsSpace (front ++ space ∷ behind)
    → take (24 * length (front ++ space ∷ behind)) bytes ≡ flat_map space_bytes (front ++ space ∷ behind)
    → (take (24 * length front) bytes ≡ flat_map space_bytes front) × (extent (24 * length front) 24 bytes ≡ space_bytes space)
spelled_split bytes front space behind each stands =
    let around = each_around front space behind each in
    let long : length (front ++ space ∷ behind) ≡ length front + suc (length behind) = length-append front (space ∷ behind) in
    let counted : length (flat_map space_bytes front) ≡ 24 * length front = length-spaces front around.0 in
    let joined : take (24 * length (front ++ space ∷ behind)) bytes ≡ flat_map space_bytes front ++ (space_bytes space ++ flat_map space_bytes behind) =
    stands ∙ flat_map-append space_bytes front (space ∷ behind) in (
      sym (take-take (24 * length front) (24 * length (front ++ space ∷ behind)) bytes (omega arith)) ∙ ap (take (24 * length front)) joined
          ∙ take_at (flat_map space_bytes front) (space_bytes space ++ flat_map space_bytes behind) (24 * length front) counted,
      extent-same_front (24 * length front) 24 (24 * length (front ++ space ∷ behind)) bytes (take (24 * length (front ++ space ∷ behind)) bytes) (omega arith)
          (sym (take-take (24 * length (front ++ space ∷ behind)) (24 * length (front ++ space ∷ behind)) bytes (omega arith)))
          ∙ ap (extent (24 * length front) 24) joined
          ∙ ap (take 24) (drop_at (flat_map space_bytes front) (space_bytes space ++ flat_map space_bytes behind) (24 * length front) counted)
          ∙ take_at (space_bytes space) (flat_map space_bytes behind) 24 (length-space_bytes space around.1),
    )

-- a list around one of its places
split_at : (n : ℕ) (spaces : List Space) → n < length spaces
    → (front : List Space) × (space : Space) × (behind : List Space) × (spaces ≡ front ++ space ∷ behind) × (length front ≡ n)
split_at n [] within = absurd (omega arith)
split_at zero (x ∷ xs) within = ([], x, xs, refl, refl)
split_at (suc n) (x ∷ xs) within =
    let rest = split_at n xs (omega arith) in
    (x ∷ rest.0, rest.1, rest.2, ap (λ (zs : List Space). x ∷ zs) rest.3, ap suc rest.4)

next_at : (bytes : List ℕ) (before front : List Space) (space : Space) (behind : List Space) → BeginsWithSpaces bytes before
    → BeginsWithSpaces bytes (front ++ space ∷ behind) → length before ≡ length front → HasNewSpace (24 * length before) bytes before space
next_at bytes before front space behind first whole counted =
    let parts = spelled_split bytes front space behind whole.each whole.stands in
    let each = each_around front space behind whole.each in
    let same : before ≡ front = same_spaces before front first.each each.0 counted
    (sym first.stands ∙ ap (λ (n : ℕ). take (24 * n) bytes) counted ∙ parts.0) in
    record {
      has_space = HasSpace-extent (24 * length before) bytes space each.1 (ap (λ (n : ℕ). extent (24 * n) 24 bytes) counted ∙ parts.1);
      is_fresh = rw same (AreDistinct-fresh front space behind whole.distinct);
    }

-- where bytes begin with more spaces, one more stands behind those before
pub next_space : (bytes : List ℕ) (before spaces : List Space) → BeginsWithSpaces bytes before → BeginsWithSpaces bytes spaces → length before < length spaces
    → (space : Space) × HasNewSpace (24 * length before) bytes before space
next_space bytes before spaces first whole more =
    let parts = split_at (length before) spaces more in
    (parts.1, next_at bytes before parts.0 parts.1 parts.2 first (rw parts.3 at whole) (sym parts.4))

-- one more space
pub BeginsWithSpaces-push : (bytes : List ℕ) (spaces : List Space) (space : Space) → BeginsWithSpaces bytes spaces
    → HasNewSpace (24 * length spaces) bytes spaces space → BeginsWithSpaces bytes (spaces ++ space ∷ [])
BeginsWithSpaces-push bytes spaces space begins has = record {
  each = recursion_from_All IsSpace (spaces ++ space ∷ []) (All-push IsSpace spaces space (All-from_recursion IsSpace spaces begins.each)
      (IsSpace-HasSpace (24 * length spaces) bytes space has.has_space));
  distinct = AreDistinct-push spaces space begins.distinct has.is_fresh;
  stands = more;
}
  where
    more : take (24 * length (spaces ++ space ∷ [])) bytes ≡ flat_map space_bytes (spaces ++ space ∷ [])
    more =
        let long : 24 * length (spaces ++ space ∷ []) ≡ 24 * length spaces + 24 = omega (arith, length-append spaces (space ∷ [])) in
        ap (λ (n : ℕ). take n bytes) long ∙ take-add (24 * length spaces) 24 bytes ∙ ap (λ (zs : List ℕ). zs ++ extent (24 * length spaces) 24 bytes) begins.stands
        ∙ ap (λ (zs : List ℕ). flat_map space_bytes spaces ++ zs) (extent-HasSpace (24 * length spaces) bytes space has.has_space)
        ∙ flat_map_more space_bytes [] spaces space
