-- A header by its front and its own bytes.
use Rattle.std.proofs.Common.{◌≡◌, ℕ, ◌-◌, ◌^◌, ◌<◌, ◌≤◌, List, [], ◌∷◌, ◌++◌, length, take, drop, replicate, codes, All, refl, sym, ap, ◌∙◌, subst, arith}
use Rattle.std.specs.Int.{to_be_bytes, w16, w32, w64}
use Rattle.std.proofs.lemmas.List.{take-append-drop, drop-drop, length-drop}
use Rattle.std.proofs.Math.Seq.{take-add}
use Rattle.byte_fields.proofs.FieldLemmas.{replicate-zeros, zeros-replicate}
use Rattle.site_headers.specs.Headers.{header_tail, no_own, volume_own, plain_tail, volume_tail, IsVolumeSize, HasHeader}
use Rattle.site_headers.specs.Parts.{HasFront, HasVolumeSize}
use Rattle.site_headers.specs.HeaderLaws.{length-header_tail, HasHeader-page, page-HasHeader}

take-HasFront : (kind number site : ℕ) (page : List ℕ) (has : HasFront kind number page site)
    → take 16 page ≡ has.gate ∷ codes "OBS" ++ kind ∷ 1 ∷ [] ++ to_be_bytes w16 number ++ to_be_bytes w64 site
take-HasFront kind number site page has =
    rw (take-add 8 8 page, take-add 6 2 page, take-add 1 5 page, has.gate_stands, has.named, has.number_stands, has.site_stands.stands) refl

page-HasFront : (kind number site : ℕ) (own page : List ℕ) (has : HasFront kind number page site) → drop 16 page ≡ own → page ≡ has.gate ∷ header_tail kind number site own
unfolding header_tail
page-HasFront kind number site own page has e = sym (take-append-drop 16 page) ∙ rw (take-HasFront kind number site page has, e) refl

-- an open front before the kind's own bytes is a header
pub HasHeader-front : (kind number site : ℕ) (own page : List ℕ) → length page ≡ 4096 → HasFront kind number page site → drop 16 page ≡ own
    → HasHeader (header_tail kind number site own) page
HasHeader-front kind number site own page fills has e =
    HasHeader-page has.gate (header_tail kind number site own) page has.is_open
    (length-header_tail kind number site own (omega (arith, ap length e, length-drop 16 page, fills))) (page-HasFront kind number site own page has e)

module _ (kind number site : ℕ) (own page : List ℕ) (fills : length page ≡ 4096) (has : HasHeader (header_tail kind number site own) page) where
  -- a header has its front
  pub HasFront-header : site < 2 ^ 64 → HasFront kind number page site
  unfolding header_tail
  HasFront-header fits =
      let e = page-HasHeader (header_tail kind number site own) page fills has in
      subst (λ (bytes : List ℕ). HasFront kind number bytes site) (sym e)
      (record { gate = has.gate; is_open = has.is_open; gate_stands = refl; named = refl; number_stands = refl; site_stands = record { fits = fits; stands = refl } })

  -- and the kind's own bytes behind it
  pub drop-header : drop 16 page ≡ own
  unfolding header_tail
  drop-header = ap (drop 16) (page-HasHeader (header_tail kind number site own) page fills has)

pub zeros_no_own : (bytes : List ℕ) → length bytes ≡ 4080 → All (λ byte. byte ≡ 0) bytes → bytes ≡ no_own
unfolding no_own
zeros_no_own = replicate-zeros 4080

pub no_own_zeros : (bytes : List ℕ) → bytes ≡ no_own → All (λ byte. byte ≡ 0) bytes
unfolding no_own
no_own_zeros = zeros-replicate 4080

-- a header with no bytes of its own as it is written
pub plain_page : (kind site n : ℕ) → n ≡ 4080
    → (1 ∷ codes "OBS" ++ kind ∷ 1 ∷ [] ++ to_be_bytes w16 0 ++ to_be_bytes w64 site) ++ replicate {A = ℕ} n 0 ≡ 1 ∷ plain_tail kind site
unfolding header_tail no_own
plain_page kind site n e = ap (λ (k : ℕ). (1 ∷ codes "OBS" ++ kind ∷ 1 ∷ [] ++ to_be_bytes w16 0 ++ to_be_bytes w64 site) ++ replicate {A = ℕ} k 0) e

-- a volume's own bytes by their parts
pub HasVolumeSize-own : (page : List ℕ) (blocks : ℕ) → length page ≡ 4096 → HasVolumeSize page blocks → drop 16 page ≡ volume_own blocks
unfolding volume_own
HasVolumeSize-own page blocks fills has =
    let zeros : drop 20 page ≡ replicate {A = ℕ} 4076 0 = replicate-zeros 4076 (drop 20 page) (omega (arith, length-drop 20 page, fills)) has.zeros in
    sym (take-append-drop 4 (drop 16 page)) ∙ ap (λ (l : List ℕ). l ++ drop 4 (drop 16 page)) has.blocks_stand.stands
    ∙ ap (λ (l : List ℕ). to_be_bytes w32 blocks ++ l) (drop-drop 4 16 page ∙ zeros)

pub own-HasVolumeSize : (page : List ℕ) (blocks : ℕ) → IsVolumeSize blocks → drop 16 page ≡ volume_own blocks → HasVolumeSize page blocks
unfolding volume_own
own-HasVolumeSize page blocks size e = record {
  some = size.some;
  few = size.few;
  blocks_stand = record { fits = fits blocks size.few; stands = ap (take 4) e };
  zeros = zeros-replicate 4076 (drop 20 page) (sym (drop-drop 4 16 page) ∙ ap (drop 4) e);
}
  where
    fits : (n : ℕ) → n ≤ 1048576 → n < 2 ^ 32
    fits n few = omega arith

-- a volume's header as it is written
pub volume_page : (number site blocks n : ℕ) → n ≡ 4076
    → (1 ∷ codes "OBS" ++ 5 ∷ 1 ∷ [] ++ to_be_bytes w16 number ++ to_be_bytes w64 site) ++ to_be_bytes w32 blocks ++ replicate {A = ℕ} n 0 ≡ 1 ∷ volume_tail number site blocks
unfolding header_tail volume_own
volume_page number site blocks n e =
    ap (λ (k : ℕ). (1 ∷ codes "OBS" ++ 5 ∷ 1 ∷ [] ++ to_be_bytes w16 number ++ to_be_bytes w64 site) ++ to_be_bytes w32 blocks ++ replicate {A = ℕ} k 0) e

-- written part by part
pub written_volume : (number site blocks : ℕ) (first second third : List ℕ) → length second ≡ 4096
    → take 16 first ≡ 1 ∷ codes "OBS" ++ 5 ∷ 1 ∷ [] ++ to_be_bytes w16 number ++ to_be_bytes w64 site
    → take 20 second ≡ take 16 first ++ to_be_bytes w32 blocks
    → third ≡ take 20 second ++ replicate {A = ℕ} (length second - 20) 0
    → third ≡ 1 ∷ volume_tail number site blocks
written_volume number site blocks first second third fills front sizes zeros =
    zeros ∙ ap (λ (l : List ℕ). l ++ replicate {A = ℕ} (length second - 20) 0) (sizes ∙ ap (λ (l : List ℕ). l ++ to_be_bytes w32 blocks) front)
    ∙ volume_page number site blocks (length second - 20) (omega (arith, fills))
