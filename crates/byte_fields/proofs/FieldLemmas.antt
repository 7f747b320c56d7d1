-- Lemmas of fields, for the crates whose layouts are made of them.
use Rattle.std.proofs.Common.{◌≡◌, ◌≢◌, ℕ, ◌+◌, ◌-◌, ◌*◌, ◌^◌, ◌<◌, ◌≤◌, false, nat_eq, List, [], ◌∷◌, ◌++◌, length, take, drop, replicate, position, All, Some, refl, sym, ap, ◌∙◌, arith, suc, append_assoc, get_or, eq-eqb}
use Rattle.std.proofs.lemmas.List.{length-take-le, length-drop, length-append, length-replicate, take-append-drop, take-take, drop-take, drop-drop, take_at, drop_at, ext_get_or, get_or-replicate, get_or-take}
use Rattle.std.proofs.lemmas.List.Elements.{All-head, All-tail, All-replicate, All-same, All-from_get_or}
use Rattle.std.proofs.lemmas.List.Quantifiers.{position-Some}
use Rattle.std.proofs.lemmas.Bool.{ne_eqb, lt-ltb, false≢true}
use Rattle.std.proofs.lemmas.Nat.{from_be_bytes-to_be_bytes_2, from_be_bytes-to_be_bytes_4, from_be_bytes-to_be_bytes_8}
use Rattle.std.specs.List.{position_or_len}
use Rattle.std.specs.Int.{Width, w8, w16, w32, w64, w128, byte_len, from_be_bytes, to_be_bytes}
use Rattle.byte_fields.specs.Fields.{field, padded, FitsField, HasNumber, HasText}

-- zeros

zeros_are_replicated : (xs : List ℕ) → All (λ byte. byte ≡ 0) xs → xs ≡ replicate (length xs) 0
zeros_are_replicated xs zeros = ext_get_or 0 xs (replicate (length xs) 0) (sym (length-replicate (length xs) 0)) (λ i h. zeros i 0 h ∙ sym (get_or-replicate (length xs) i 0 0 h))

-- bytes are so many zeros exactly where there are so many and each is zero
pub replicate-zeros : (n : ℕ) (xs : List ℕ) → length xs ≡ n → All (λ byte. byte ≡ 0) xs → xs ≡ replicate n 0
replicate-zeros n xs long zeros = zeros_are_replicated xs zeros ∙ ap (λ (k : ℕ). replicate {A = ℕ} k 0) long

pub zeros-replicate : (n : ℕ) (xs : List ℕ) → xs ≡ replicate n 0 → All (λ byte. byte ≡ 0) xs
zeros-replicate n xs e = All-same (λ byte. byte ≡ 0) xs (replicate {A = ℕ} n 0) e (All-replicate (λ byte. byte ≡ 0) n 0 refl)

-- fields one behind another

-- the last field of a front is what stands behind the front before it
pub last_field : (offset width : ℕ) (bytes front own : List ℕ) → offset + width ≤ length bytes → length own ≡ width
    → take (offset + width) bytes ≡ front ++ own → (take offset bytes ≡ front) × (field offset width bytes ≡ own)
last_field offset width bytes front own within wide split =
    let at_front : length front ≡ offset = omega (arith, length-take-le (offset + width) bytes within, ap length split, length-append front own) in (
      sym (take-take offset (offset + width) bytes (omega arith)) ∙ ap (take offset) split ∙ take_at front own offset at_front,
      sym (drop-take offset width bytes) ∙ ap (drop offset) split ∙ drop_at front own offset at_front,
    )

-- one piece written behind another
pub written_behind : (offset m n k : ℕ) (old mid new p q : List ℕ) → take (offset + m) mid ≡ take offset old ++ p
    → take (offset + m + n) new ≡ take (offset + m) mid ++ q → k ≡ m + n → take (offset + k) new ≡ take offset old ++ (p ++ q)
written_behind offset m n k old mid new p q first second sum =
    let place : offset + k ≡ offset + m + n = omega arith in
    ap (λ (n : ℕ). take n new) place ∙ second ∙ ap (λ (l : List ℕ). l ++ q) first ∙ append_assoc (take offset old) p q

-- what stands behind an offset stands behind a later one
pub same_behind : (from offset : ℕ) (old new : List ℕ) → from ≤ offset → drop from new ≡ drop from old → drop offset new ≡ drop offset old
same_behind from offset old new le same =
    let place : offset ≡ from + (offset - from) = omega arith in
    ap (λ (n : ℕ). drop n new) place ∙ sym (drop-drop (offset - from) from new) ∙ ap (drop (offset - from)) same
    ∙ drop-drop (offset - from) from old ∙ ap (λ (n : ℕ). drop n old) (sym place)

-- numbers

from_be_bytes-to_be_bytes : (w : Width) (n : ℕ) → byte_len w ≤ 8 → n < 2 ^ (8 * byte_len w) → from_be_bytes w (to_be_bytes w n) ≡ n
from_be_bytes-to_be_bytes w8 n small fits = omega arith
from_be_bytes-to_be_bytes w16 n small fits = from_be_bytes-to_be_bytes_2 n fits
from_be_bytes-to_be_bytes w32 n small fits = from_be_bytes-to_be_bytes_4 n fits
from_be_bytes-to_be_bytes w64 n small fits = from_be_bytes-to_be_bytes_8 n fits
from_be_bytes-to_be_bytes w128 n small fits = absurd (omega arith)

-- the bytes of a number of at most eight bytes are no other's
pub same_number : (w : Width) (m n : ℕ) → byte_len w ≤ 8 → m < 2 ^ (8 * byte_len w) → n < 2 ^ (8 * byte_len w) → to_be_bytes w m ≡ to_be_bytes w n → m ≡ n
same_number w m n small m_fits n_fits e =
    sym (from_be_bytes-to_be_bytes w m small m_fits) ∙ ap (from_be_bytes w) e ∙ from_be_bytes-to_be_bytes w n small n_fits

-- one number stands in a field
pub one_number : (w : Width) (offset : ℕ) (bytes : List ℕ) (m n : ℕ) → byte_len w ≤ 8 → HasNumber w offset bytes m → HasNumber w offset bytes n → m ≡ n
one_number w offset bytes m n small first second = same_number w m n small first.fits second.fits (sym first.stands ∙ second.stands)

-- texts

pub length-padded : (width : ℕ) (text : List ℕ) → length text ≤ width → length (padded width text) ≡ width
length-padded width text fits = omega (arith, length-append text (replicate {A = ℕ} (width - length text) 0), length-replicate {A = ℕ} (width - length text) 0)

-- the first zero stands behind the bytes before it
position_or_len-nonzero : (text zeros : List ℕ) → All (λ byte. byte ≢ 0) text → position_or_len (λ byte. nat_eq byte 0) (text ++ 0 ∷ zeros) ≡ length text
position_or_len-nonzero [] zeros nonzero = refl
position_or_len-nonzero (x ∷ xs) zeros nonzero =
    let other : nat_eq x 0 ≡ false = ne_eqb x 0 (All-head (λ (byte : ℕ). byte ≢ 0) x xs nonzero) in
    let rest : position_or_len (λ byte. nat_eq byte 0) (xs ++ 0 ∷ zeros) ≡ length xs = position_or_len-nonzero xs zeros (All-tail (λ (byte : ℕ). byte ≢ 0) x xs nonzero) in
    rw other (omega (arith, rest))

-- a text has at least one zero behind it
replicate-padding : (width : ℕ) (text : List ℕ) → length text < width → replicate {A = ℕ} (width - length text) 0 ≡ 0 ∷ replicate {A = ℕ} (width - length text - 1) 0
replicate-padding width text shorter =
    let more : width - length text ≡ suc (width - length text - 1) = omega arith in
    ap (λ (n : ℕ). replicate {A = ℕ} n 0) more

-- the first zero of a field stands right behind its text
position-padded : (width : ℕ) (text xs : List ℕ) → FitsField width text → xs ≡ padded width text → position (λ byte. nat_eq byte 0) xs ≡ Some (length text)
position-padded width text xs fits e =
    let zeros : List ℕ = replicate {A = ℕ} (width - length text - 1) 0 in
    let split : xs ≡ text ++ 0 ∷ zeros = e ∙ ap (λ (zs : List ℕ). text ++ zs) (replicate-padding width text fits.shorter) in
    let first : position_or_len (λ byte. nat_eq byte 0) xs ≡ length text = ap (position_or_len (λ byte. nat_eq byte 0)) split ∙ position_or_len-nonzero text zeros fits.nonzero in
    let within : length text < length xs = omega (arith, ap length split, length-append text (0 ∷ zeros)) in
    rw (first, lt-ltb (length text) (length xs) within)

take-padded : (width end : ℕ) (text xs : List ℕ) → xs ≡ padded width text → end ≡ length text → take end xs ≡ text
take-padded width end text xs e behind = rw (e, behind) (take_at text (replicate (width - length text) 0) (length text) refl)

zeros_behind : (width end : ℕ) (text xs : List ℕ) → xs ≡ padded width text → end ≡ length text → All (λ byte. byte ≡ 0) (drop end xs)
zeros_behind width end text xs e behind =
    zeros-replicate (width - length text) (drop end xs) (rw (e, behind) (drop_at text (replicate (width - length text) 0) (length text) refl))

same_Some : (i j : ℕ) → Some i ≡ Some j → i ≡ j
same_Some i j e = cc

-- no two texts fill a field in the same way
pub same_text : (width : ℕ) (text other : List ℕ) → FitsField width text → FitsField width other → padded width text ≡ padded width other → text ≡ other
same_text width text other fits other_fits e =
    let first = position-padded width text (padded width text) fits refl in
    let second = position-padded width other (padded width text) other_fits e in
    let same : length text ≡ length other = same_Some (length text) (length other) (sym first ∙ second) in
    sym (take-padded width (length text) text (padded width text) refl refl) ∙ take-padded width (length text) other (padded width text) e same

pub one_text : (offset width : ℕ) (bytes text other : List ℕ) → HasText offset width bytes text → HasText offset width bytes other → text ≡ other
one_text offset width bytes text other first second = same_text width text other first.fits second.fits (sym first.stands ∙ second.stands)

-- no byte before the first zero is zero
nonzero_before : (end : ℕ) (own : List ℕ) → end ≤ length own → ((i : ℕ) → i < end → nat_eq (get_or own i 0) 0 ≡ false) → All (λ byte. byte ≢ 0) (take end own)
nonzero_before end own within before =
    All-from_get_or (λ byte. byte ≢ 0) (take end own) 0
    (λ i h. let lt : i < end = omega (arith, h, length-take-le end own within) in
    λ (zero : get_or (take end own) i 0 ≡ 0). false≢true (sym (before i lt) ∙ eq-eqb (get_or own i 0) 0 (sym (get_or-take end own i 0 lt) ∙ zero)))

-- the bytes before the first zero are a field's text, where only zeros stand behind them
module _ (offset width k end : ℕ) (bytes : List ℕ) (is : k ≡ width) (within : offset + width ≤ length bytes)
    (first : Some end ≡ position (λ byte. nat_eq byte 0) (take k (drop offset bytes))) where
  pub HasText-front : All (λ byte. byte ≡ 0) (drop end (take k (drop offset bytes))) → HasText offset width bytes (take end (take k (drop offset bytes)))
  HasText-front zeros =
      let own : List ℕ = take k (drop offset bytes) in
      let long : length own ≡ k = length-take-le k (drop offset bytes) (omega (arith, length-drop offset bytes)) in
      let found = position-Some (λ byte. nat_eq byte 0) own end 0 (sym first) in
      let front : length (take end own) ≡ end = length-take-le end own (omega (arith, found.0)) in
      record {
        fits = record { shorter = omega (arith, found.0); nonzero = nonzero_before end own (omega (arith, found.0)) found.2 };
        stands = ap (λ (n : ℕ). take n (drop offset bytes)) (sym is) ∙ sym (take-append-drop end own)
            ∙ ap (λ (zs : List ℕ). take end own ++ zs) (replicate-zeros (width - length (take end own)) (drop end own) (omega (arith, length-drop end own)) zeros);
      }

  stands_so : (text : List ℕ) → HasText offset width bytes text → take k (drop offset bytes) ≡ padded width text
  stands_so text has = ap (λ (n : ℕ). take n (drop offset bytes)) is ∙ has.stands

  ends_so : (text : List ℕ) → HasText offset width bytes text → end ≡ length text
  ends_so text has = same_Some end (length text) (first ∙ position-padded width text (take k (drop offset bytes)) has.fits (stands_so text has))

  -- and no other text stands there
  pub front-HasText : (text : List ℕ) → HasText offset width bytes text → take end (take k (drop offset bytes)) ≡ text
  front-HasText text has = take-padded width end text (take k (drop offset bytes)) (stands_so text has) (ends_so text has)

  pub zeros-HasText : (text : List ℕ) → HasText offset width bytes text → All (λ byte. byte ≡ 0) (drop end (take k (drop offset bytes)))
  zeros-HasText text has = zeros_behind width end text (take k (drop offset bytes)) (stands_so text has) (ends_so text has)

-- a field with a text has a zero byte
pub first-HasText : (offset width k : ℕ) (bytes text : List ℕ) → k ≡ width → HasText offset width bytes text
    → position (λ byte. nat_eq byte 0) (take k (drop offset bytes)) ≡ Some (length text)
first-HasText offset width k bytes text is has =
    position-padded width text (take k (drop offset bytes)) has.fits (ap (λ (n : ℕ). take n (drop offset bytes)) is ∙ has.stands)
