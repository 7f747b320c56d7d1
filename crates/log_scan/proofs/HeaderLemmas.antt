-- A header's page as it is read.
use Rattle.std.proofs.Common.{◌≡◌, ◌↔◌, ℕ, List, [], ◌∷◌, length, get_or, Bool, false, IsTrue, sym, ◌∙◌, ap, arith}
use Rattle.std.proofs.lemmas.Bool.{both_ways}
use Rattle.site_disk.specs.Bytes.{extent}
use Rattle.site_disk.specs.BytesLaws.{extent-extent}
use Rattle.gated_slots.specs.Header.{IsHeader}
use Rattle.site_disk.specs.BytesLaws.{extent-one}
use Rattle.site_headers.specs.Headers.{HasHeader}
use Rattle.site_headers.specs.HeaderLaws.{length-HasHeader, HasHeader-same}

-- a header is a page with an open gate
pub is_header : (tail file : List ℕ) → length tail ≡ 4095 → HasHeader tail file → IsHeader file
is_header tail file fills has =
    let long = length-HasHeader tail file fills has in
    let one : extent 0 1 file ≡ get_or file 0 0 ∷ [] = extent-one 0 file (omega arith) in
    let first : get_or file 0 0 ≡ has.gate = let both = sym one ∙ has.gate_stands in ap (λ (l : List ℕ). get_or l 0 0) both in
    record { long = long; gate = λ none. (let open_gate = has.is_open in omega (arith, first, none)) }

page_is : (page file : List ℕ) → page ≡ extent 0 4096 file → extent 0 4096 page ≡ extent 0 4096 file
page_is page file is = ap (extent 0 4096) is ∙ extent-extent 0 4096 0 4096 file (omega arith)

pub page_has : (tail page file : List ℕ) → page ≡ extent 0 4096 file → HasHeader tail page → HasHeader tail file
page_has tail page file is has = HasHeader-same tail page file (sym (page_is page file is)) has

pub file_has : (tail page file : List ℕ) → page ≡ extent 0 4096 file → HasHeader tail file → HasHeader tail page
file_has tail page file is has = HasHeader-same tail file page (page_is page file is) has

-- a header is found
pub found_where_it_is : (tail file : List ℕ) (found : Bool) → length tail ≡ 4095 → (IsTrue found ↔ IsHeader file) → found ≡ false → HasHeader tail file → ⊥
found_where_it_is tail file found fills iff isnt has = both_ways found isnt (iff.1 (is_header tail file fills has))
