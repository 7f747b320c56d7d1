-- The header of a chunk, by its parts.
use Rattle.std.proofs.Common.{◌≡◌, ℕ, zero, suc, ◌-◌, ◌<◌, ◌≤◌, List, [], ◌∷◌, ◌++◌, length, take, drop, replicate, get_or, codes, refl, sym, ap, ◌∙◌, arith, length-append}
use Rattle.std.specs.Int.{to_be_bytes, w16, w32, w64}
use Rattle.std.proofs.lemmas.List.{length-replicate}
use Rattle.site_disk.specs.Bytes.{extent, written}
use Rattle.site_disk.specs.BytesLaws.{extent-extent, extent-one}
use Rattle.gated_slots.specs.Header.{IsHeader}
use Rattle.gated_slots.specs.HeaderLaws.{extent-header}
use Rattle.site_headers.specs.Headers.{HasHeader, header_tail, volume_own}
use Rattle.site_headers.specs.HeaderLaws.{HasHeader-extent, HasHeader-same, length-HasHeader, length-header_tail}
use Rattle.space_lane.specs.Chunks.{chunk_tail}

pub length-chunk_tail : (site space count : ℕ) → length (chunk_tail site space count) ≡ 4095
unfolding volume_own
length-chunk_tail site space count =
    length-header_tail 6 space site (volume_own count) (omega (arith, length-append (to_be_bytes w32 count) (replicate {A = ℕ} 4076 0), length-replicate {A = ℕ} 4076 0))

chunk_page : (site space count n : ℕ) → n ≡ 4076
    → (1 ∷ codes "OBS" ++ 6 ∷ 1 ∷ [] ++ to_be_bytes w16 space ++ to_be_bytes w64 site) ++ to_be_bytes w32 count ++ replicate {A = ℕ} n 0 ≡ 1 ∷ chunk_tail site space count
unfolding header_tail volume_own
chunk_page site space count n e =
    ap (λ (k : ℕ). (1 ∷ codes "OBS" ++ 6 ∷ 1 ∷ [] ++ to_be_bytes w16 space ++ to_be_bytes w64 site) ++ to_be_bytes w32 count ++ replicate {A = ℕ} k 0) e

-- written part by part
pub written_chunk : (site space count : ℕ) (first second third : List ℕ) → length second ≡ 4096
    → take 16 first ≡ 1 ∷ codes "OBS" ++ 6 ∷ 1 ∷ [] ++ to_be_bytes w16 space ++ to_be_bytes w64 site
    → take 20 second ≡ take 16 first ++ to_be_bytes w32 count
    → third ≡ take 20 second ++ replicate {A = ℕ} (length second - 20) 0
    → third ≡ 1 ∷ chunk_tail site space count
written_chunk site space count first second third fills front sizes zeros =
    zeros ∙ ap (λ (l : List ℕ). l ++ replicate {A = ℕ} (length second - 20) 0) (sizes ∙ ap (λ (l : List ℕ). l ++ to_be_bytes w32 count) front)
    ∙ chunk_page site space count (length second - 20) (omega (arith, fills))

positive : (n : ℕ) → (n ≡ 0 → ⊥) → 0 < n
positive zero isnt = absurd (isnt refl)
positive (suc n) isnt = omega arith

-- a page is a header where its gate is open and the other bytes are those of the header
pub page_header : (tail page own : List ℕ) (gate : ℕ) → extent 0 1 page ≡ gate ∷ [] → (gate ≡ 0 → ⊥) → extent 1 (length own) page ≡ own → own ≡ tail → length tail ≡ 4095
    → HasHeader tail page
page_header tail page own gate first isnt stands is fills =
    let size : length own ≡ 4095 = ap (λ (l : List ℕ). length l) is ∙ fills in record {
      gate = gate;
      is_open = positive gate isnt;
      gate_stands = first;
      tail_stands = ap (λ (n : ℕ). extent 1 n page) (sym size) ∙ stands ∙ is;
    }

pub header_open : (tail page : List ℕ) (gate : ℕ) → extent 0 1 page ≡ gate ∷ [] → gate ≡ 0 → HasHeader tail page → ⊥
header_open tail page gate first shut has =
    let same : has.gate ∷ [] ≡ gate ∷ [] = sym has.gate_stands ∙ first in
    let is : has.gate ≡ gate = cc in
    omega (arith, has.is_open, is, shut)

pub header_rest : (tail page own : List ℕ) → own ≡ tail → length tail ≡ 4095 → HasHeader tail page → extent 1 (length own) page ≡ own
header_rest tail page own is fills has =
    let size : length own ≡ 4095 = ap (λ (l : List ℕ). length l) is ∙ fills in
    ap (λ (n : ℕ). extent 1 n page) size ∙ has.tail_stands ∙ sym is

-- a disk has a header exactly where its first page is one
pub header_of_page : (tail bytes page : List ℕ) → page ≡ extent 0 4096 bytes → HasHeader tail page → HasHeader tail bytes
header_of_page tail bytes page is has = HasHeader-same tail page bytes (sym (ap (extent 0 4096) is ∙ extent-extent 0 4096 0 4096 bytes (omega arith))) has

pub page_of_header : (tail bytes page : List ℕ) → page ≡ extent 0 4096 bytes → HasHeader tail bytes → HasHeader tail page
page_of_header tail bytes page is has = HasHeader-same tail bytes page (ap (extent 0 4096) is ∙ extent-extent 0 4096 0 4096 bytes (omega arith)) has

first_byte : (gate : ℕ) (bytes : List ℕ) → 1 ≤ length bytes → extent 0 1 bytes ≡ gate ∷ [] → get_or bytes 0 0 ≡ gate
first_byte gate bytes some is =
    let same : get_or bytes 0 0 ∷ [] ≡ gate ∷ [] = sym (extent-one 0 bytes (omega (arith, some))) ∙ is in cc

pub header_is : (tail bytes : List ℕ) → length tail ≡ 4095 → HasHeader tail bytes → IsHeader bytes
header_is tail bytes fills has =
    let long : 4096 ≤ length bytes = length-HasHeader tail bytes fills has in record {
      long = long;
      gate = λ shut. omega (arith, first_byte has.gate bytes (omega (arith, long)) has.gate_stands, has.is_open, shut);
    }

pub header_with : (tail bytes : List ℕ) → IsHeader bytes → extent 1 4095 bytes ≡ tail → HasHeader tail bytes
header_with tail bytes header stands = record {
  gate = get_or bytes 0 0;
  is_open = positive (get_or bytes 0 0) header.gate;
  gate_stands = extent-one 0 bytes (omega (arith, header.long));
  tail_stands = stands;
}

pub opened_header : (tail page old new : List ℕ) → length tail ≡ 4095 → length page ≡ 4096 → page ≡ 1 ∷ tail → new ≡ written 0 (1 ∷ drop 1 page) old → HasHeader tail new
opened_header tail page old new fills long is e =
    HasHeader-extent 1 tail new (omega arith) fills (ap (extent 0 4096) e ∙ extent-header page old long ∙ ap (λ (l : List ℕ). 1 ∷ drop 1 l) is)
