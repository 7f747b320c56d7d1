-- Laws of headers.
use Rattle.std.specs.Prelude.{◌≡◌, ◌⊎◌, ℕ, zero, suc, ◌+◌, ◌-◌, ◌≤◌, List, [], ◌∷◌, ◌++◌, length, take, drop, slice_index, refl}
use mathlib.Core.Logic.{inl, inr}
use Rattle.std.proofs.Common.{arith, ap, sym, subst, ◌∙◌, ⊎_elim, get_or, length-drop}
use Rattle.std.proofs.lemmas.List.{drop_all, drop_at, length-take, length-take-le, append_assoc}
use Rattle.site_disk.specs.Bytes.{extent, written, filled, Elsewhere, Torn}
use Rattle.site_disk.specs.BytesLaws.{extent-written, extent-one, filled_there, length-written, torn_whole}
use Rattle.site_disk.specs.Gates.{IsShut}
use Rattle.site_disk.specs.Images.{Seen, IsSynced}
use Rattle.site_disk.specs.SeenLaws.{in_each_image}
use Rattle.gated_slots.specs.Header.{IsHeader, IsClosed, StandsClosed, MayClose, MayOpen}
use Rattle.gated_slots.specs.Slots.{Zeroes}
use Rattle.gated_slots.specs.Writes.{with_batch, MayAdd}

-- a disk whose first byte is 0 has no header
pub closed_no_header : (bytes : List ℕ) → IsClosed bytes → IsHeader bytes → ⊥
closed_no_header bytes closed header = header.gate closed.gate

-- its gate is that at place 0
pub closed_shut : (bytes : List ℕ) → IsClosed bytes → IsShut 0 bytes
closed_shut bytes closed = extent-one 0 bytes (omega (arith, closed.some)) ∙ ap (λ (b : ℕ). b ∷ []) closed.gate

pub shut_closed : (bytes : List ℕ) → IsShut 0 bytes → IsClosed bytes
shut_closed bytes shut =
    let some : 1 ≤ length bytes = omega (arith, ap (λ (l : List ℕ). length l) shut, length-take 1 (drop 0 bytes), length-drop 0 bytes) in record {
      some = some;
      gate = ap (λ (l : List ℕ). get_or l 0 0) (sym (extent-one 0 bytes (omega (arith, some))) ∙ shut);
    }

pub closed_or_not : (bytes : List ℕ) → IsClosed bytes ⊎ (IsClosed bytes → ⊥)
closed_or_not [] = inr (λ closed. absurd (omega (arith, closed.some)))
closed_or_not (zero ∷ bytes) = inl (record { some = omega arith; gate = refl })
closed_or_not (suc gate ∷ bytes) = inr (λ closed. absurd (omega (arith, closed.gate)))

-- the first byte is decided by its extent
pub first_by_extent : (old new : List ℕ) → 1 ≤ length old → length old ≤ length new → extent 0 1 new ≡ extent 0 1 old → slice_index new 0 ≡ slice_index old 0
first_by_extent old new some le same = ap (λ (l : List ℕ). get_or l 0 0) (sym (extent-one 0 new (omega arith)) ∙ same ∙ extent-one 0 old some)

-- what is closed stays so where the first byte stays
pub closed_still : (old new : List ℕ) → IsClosed old → length old ≤ length new → extent 0 1 new ≡ extent 0 1 old → IsClosed new
closed_still old new closed le same = record {
  some = omega (arith, closed.some, le);
  gate = first_by_extent old new closed.some le same ∙ closed.gate;
}

-- as after a change of another range, a torn write among them
pub closed_elsewhere : (at n : ℕ) (old new : List ℕ) → 1 ≤ at → IsClosed old → length old ≤ length new → Elsewhere at n old new → IsClosed new
closed_elsewhere at n old new behind closed le same = closed_still old new closed le (same 0 1 (inl (omega (arith, behind))))

-- and after zero bytes behind it
pub closed_zeroes : (from to : ℕ) (old new : List ℕ) → 1 ≤ from → IsClosed old → Zeroes from to old new → IsClosed new
closed_zeroes from to old new behind closed zeroes = closed_elsewhere from (to - from) old new behind closed (omega (arith, zeroes.long)) zeroes.elsewhere

-- written as 0, it is closed
pub closed_written : (old new : List ℕ) → new ≡ written 0 (0 ∷ []) old → IsClosed new
closed_written old new is = subst IsClosed (sym is) (record { some = omega (arith, length-written 0 (0 ∷ []) old (omega arith)); gate = refl })

-- closed in what a read gives, after a sync
pub stands_closed : (disk : Seen) → IsSynced disk → IsClosed disk.bytes → StandsClosed disk
stands_closed disk synced closed = record { now = closed; later = in_each_image IsClosed disk synced closed }

-- what the closing leaves is no header where there was no whole page
pub may_close : (old new : List ℕ) → Torn 0 1 old new → MayClose old new
may_close old new torn = record { torn = torn; none = λ short header. absurd (omega (arith, short, torn.no_longer, header.long)) }

-- a first byte written as 0 where it is 0 already
pub written_closed : (old : List ℕ) → IsClosed old → written 0 (0 ∷ []) old ≡ old
written_closed [] closed = absurd (omega (arith, closed.some))
written_closed (x ∷ old) closed = ap (λ (b : ℕ). b ∷ old) (sym closed.gate)

-- the page's other bytes, and then its gate, are the whole page
pub page_written : (rest old : List ℕ) → 1 ≤ length old → with_batch 1 rest 0 old ≡ written 0 (1 ∷ rest) old
page_written rest old some =
    ap (λ (l : List ℕ). 1 ∷ l) (
    ap (λ (l : List ℕ). drop 1 l) (append_assoc (take 1 old) rest (drop (1 + length rest) old))
    ∙ drop_at (take 1 old) (rest ++ drop (1 + length rest) old) 1 (length-take-le 1 old some)
    ∙ ap (λ (k : ℕ). rest ++ drop k old) (omega arith))

behind_gate : (n : ℕ) (rest old new : List ℕ) → length rest ≡ n → 1 ≤ length old → Torn 0 1 (written 1 rest old) new → extent 1 n new ≡ rest
behind_gate n rest old new long some torn =
    torn.elsewhere 1 n (inr (omega arith)) ∙ ap (λ (k : ℕ). extent 1 k (written 1 rest old)) (sym long) ∙ extent-written 1 rest old some

beyond : (n : ℕ) (bytes : List ℕ) → length bytes ≤ n → drop n bytes ≡ drop n []
beyond n bytes le = drop_all n bytes le ∙ sym (drop_all n [] (omega arith))

-- also where the disk was empty and was filled up to the page's second byte
pub filled_page_written : (rest old : List ℕ) → with_batch 1 rest 0 (filled 1 old) ≡ written 0 (1 ∷ rest) old
filled_page_written rest [] = page_written rest (0 ∷ []) (omega arith) ∙ ap (λ (l : List ℕ). 1 ∷ (rest ++ l)) (beyond (0 + length (1 ∷ rest)) (0 ∷ []) (omega arith))
filled_page_written rest (x ∷ old) = ap (λ (l : List ℕ). with_batch 1 rest 0 l) (filled_there 1 (x ∷ old) (omega arith)) ∙ page_written rest (x ∷ old) (omega arith)

-- what a stop within the opening leaves
pub may_open : (page old new : List ℕ) → length page ≡ 4096 → IsClosed old → MayAdd 1 (drop 1 page) 0 old new → MayOpen page old new
may_open page old new long closed may =
    let rest = drop 1 page in
    let size : length rest ≡ 4095 = omega (arith, length-drop 1 page, long) in
    ⊎_elim
    (λ torn. record {
      header = λ header. absurd (header.gate (first_by_extent old new closed.some torn.no_shorter (torn.elsewhere 0 1 (inl (omega arith))) ∙ closed.gate));
      elsewhere = λ from len le. torn.elsewhere from len (inr (omega (arith, le, size)));
      no_shorter = torn.no_shorter;
    })
    (λ added. record {
      header = λ header. behind_gate 4095 rest old new size added.0 added.1;
      elsewhere = λ from len le. added.1.elsewhere from len (inr (omega (arith, le))) ∙ (torn_whole 1 rest old added.0).elsewhere from len (inr (omega (arith, le, size)));
      no_shorter = omega (arith, added.1.no_shorter, (torn_whole 1 rest old added.0).no_shorter);
    }) may

-- what the opening has written is the page, with 1 as its gate
pub extent-header : (page old : List ℕ) → length page ≡ 4096 → extent 0 4096 (written 0 (1 ∷ drop 1 page) old) ≡ 1 ∷ drop 1 page
extent-header page old long =
    let size : length (1 ∷ drop 1 page) ≡ 4096 = omega (arith, length-drop 1 page, long) in
    ap (λ (k : ℕ). extent 0 k (written 0 (1 ∷ drop 1 page) old)) (sym size) ∙ extent-written 0 (1 ∷ drop 1 page) old (omega arith)

-- and so a header
pub header_written : (page old : List ℕ) → length page ≡ 4096 → IsHeader (written 0 (1 ∷ drop 1 page) old)
header_written page old long = record {
  long = omega (arith, length-written 0 (1 ∷ drop 1 page) old (omega arith), length-drop 1 page, long);
  gate = λ shut. absurd (omega (arith, shut));
}
