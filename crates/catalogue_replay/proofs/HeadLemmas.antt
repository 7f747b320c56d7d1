-- Headers that were written, and pages that were read.
use Rattle.std.proofs.Common.{◌≡◌, ℕ, ◌≤◌, List, [], ◌∷◌, length, drop, replicate, All, get_or, refl, sym, ap, ◌∙◌, subst, arith}
use Rattle.std.proofs.lemmas.List.{take_all}
use Rattle.std.proofs.lemmas.List.Elements.{All-same, All-replicate}
use Rattle.byte_fields.proofs.FieldLemmas.{replicate-zeros}
use Rattle.site_disk.specs.Bytes.{extent, written}
use Rattle.site_disk.specs.BytesLaws.{extent-one}
use Rattle.gated_slots.specs.Header.{IsHeader}
use Rattle.gated_slots.specs.HeaderLaws.{extent-header}
use Rattle.site_headers.specs.Headers.{HasHeader}
use Rattle.site_headers.specs.HeaderLaws.{HasHeader-extent, HasHeader-same, length-HasHeader}
use Rattle.catalogue_replay.specs.Places.{area_record}

pub zeros_area : (bytes : List ℕ) → length bytes ≡ 255 → All (λ byte. byte ≡ 0) bytes → bytes ≡ area_record
unfolding area_record
zeros_area = replicate-zeros 255

pub area_zeros : (bytes : List ℕ) → bytes ≡ area_record → All (λ byte. byte ≡ 0) bytes
unfolding area_record
area_zeros bytes e = All-same (λ byte. byte ≡ 0) bytes (replicate {A = ℕ} 255 0) e (All-replicate (λ byte. byte ≡ 0) 255 0 refl)

-- a page that was read has the header that its disk has
pub page_has : (tail page file : List ℕ) → length page ≡ 4096 → page ≡ extent 0 4096 file → HasHeader tail page → HasHeader tail file
page_has tail page file fills e has = HasHeader-same tail page file (sym e ∙ sym (take_all 4096 page (omega arith))) has

pub file_has : (tail page file : List ℕ) → length page ≡ 4096 → page ≡ extent 0 4096 file → HasHeader tail file → HasHeader tail page
file_has tail page file fills e has = HasHeader-same tail file page (take_all 4096 page (omega arith) ∙ e) has

-- a disk with a header has an open page
pub is_header : (tail file : List ℕ) → length tail ≡ 4095 → HasHeader tail file → IsHeader file
is_header tail file fills has =
    let long : 4096 ≤ length file = length-HasHeader tail file fills has in record {
      long = long;
      gate = λ (shut : get_or file 0 0 ≡ 0).
          let gate : get_or file 0 0 ∷ [] ≡ has.gate ∷ [] = sym (extent-one 0 file (omega arith)) ∙ has.gate_stands in
          let same : get_or file 0 0 ≡ has.gate = cc in
          absurd (omega (arith, same, has.is_open));
    }
