-- The catalogue's header by its parts.
use Rattle.std.proofs.Common.{◌≡◌, ℕ, ◌+◌, ◌-◌, ◌*◌, ◌≤◌, List, [], ◌∷◌, ◌++◌, length, take, drop, replicate, codes, All, refl, sym, ap, ◌∙◌, arith}
use Rattle.std.specs.List.{flat_map}
use Rattle.std.specs.Int.{to_be_bytes, w16, w32, w64}
use Rattle.std.proofs.lemmas.List.{take-append-drop, drop-drop, length-drop}
use Rattle.std.proofs.Math.Seq.{take-add}
use Rattle.byte_fields.proofs.FieldLemmas.{replicate-zeros, zeros-replicate}
use Rattle.onbar_grammar.specs.Script.{Space}
use Rattle.site_disk.specs.Bytes.{extent}
use Rattle.site_headers.specs.Heads.{Head, IsHead}
use Rattle.site_headers.specs.Headers.{header_tail, space_bytes, catalogue_own, catalogue_tail, HasHeader}
use Rattle.site_headers.specs.Parts.{HasFront, HasSizes, BeginsWithSpaces}
use Rattle.site_headers.specs.HeaderLaws.{spaces-catalogue_own, zeros-catalogue_own, one_catalogue_header}
use Rattle.site_headers.specs.declared.sizes.Sizes.{Sizes}
use Rattle.site_headers.proofs.FrontLemmas.{HasHeader-front, HasFront-header, drop-header}

-- the catalogue's header as it is written
pub catalogue_page : (head : Head) (n : ℕ) → n ≡ 4064 - 24 * length head.spaces
    → (1 ∷ codes "OBS" ++ 1 ∷ 1 ∷ [] ++ to_be_bytes w16 0 ++ to_be_bytes w64 head.site
    ++ (to_be_bytes w16 (length head.spaces) ++ replicate 6 0 ++ to_be_bytes w32 head.blocks ++ replicate 4 0)) ++ flat_map space_bytes head.spaces
    ++ replicate {A = ℕ} n 0 ≡ 1 ∷ catalogue_tail head
unfolding header_tail catalogue_own
catalogue_page head n e = rw e refl

-- written part by part
pub written_catalogue : (head : Head) (count : ℕ) (first second third page : List ℕ) → count ≡ length head.spaces → length head.spaces ≤ 16 → length third ≡ 4096
    → take 16 first ≡ 1 ∷ codes "OBS" ++ 1 ∷ 1 ∷ [] ++ to_be_bytes w16 0 ++ to_be_bytes w64 head.site
    → take 32 second ≡ take 16 first ++ to_be_bytes w16 count ++ replicate 6 0 ++ to_be_bytes w32 head.blocks ++ replicate 4 0
    → take (32 + 24 * count) third ≡ take 32 second ++ flat_map space_bytes head.spaces
    → page ≡ take (32 + 24 * count) third ++ replicate {A = ℕ} (length third - (32 + 24 * count)) 0
    → page ≡ 1 ∷ catalogue_tail head
written_catalogue head count first second third page counted few fills front sizes spaces whole =
    let n : ℕ = length third - (32 + 24 * count) in
    let behind : n ≡ 4064 - 24 * length head.spaces = omega arith in
    whole ∙ ap (λ (bytes : List ℕ). bytes ++ replicate {A = ℕ} n 0) (spaces ∙ ap (λ (bytes : List ℕ). bytes ++ flat_map space_bytes head.spaces)
    (sizes ∙ ap (λ (k : ℕ). take 16 first ++ to_be_bytes w16 k ++ replicate 6 0 ++ to_be_bytes w32 head.blocks ++ replicate 4 0) counted
    ∙ ap (λ (bytes : List ℕ). bytes ++ to_be_bytes w16 (length head.spaces) ++ replicate 6 0 ++ to_be_bytes w32 head.blocks ++ replicate 4 0) front))
    ∙ catalogue_page head n behind

abbrev pub head_with : ℕ → Sizes → List Space → Head
head_with site sizes spaces = record { site = site; blocks = sizes.blocks; spaces = spaces }

abbrev pub sizes_in : Head → Sizes
sizes_in head = record { spaces = length head.spaces; blocks = head.blocks }

-- bytes 16 to 31 as they stand
extent-HasSizes : (page : List ℕ) (sizes : Sizes) → HasSizes page sizes
    → extent 16 16 page ≡ to_be_bytes w16 sizes.spaces ++ replicate 6 0 ++ to_be_bytes w32 sizes.blocks ++ replicate 4 0
extent-HasSizes page sizes has =
    rw (
      take-add 12 4 (drop 16 page),
      take-add 8 4 (drop 16 page),
      take-add 2 6 (drop 16 page),
      drop-drop 12 16 page,
      drop-drop 8 16 page,
      drop-drop 2 16 page,
      has.spaces_stand.stands,
      has.zeros,
      has.blocks_stand.stands,
      has.more_zeros,
    ) refl

module _ (page : List ℕ) (site : ℕ) (sizes : Sizes) (spaces : List Space) (fills : length page ≡ 4096) (counted : length spaces ≡ sizes.spaces)
    (front : HasFront 1 0 page site) (has : HasSizes page sizes) (begins : BeginsWithSpaces (drop 32 page) spaces)
    (zeros : All (λ byte. byte ≡ 0) (drop (32 + 24 * sizes.spaces) page)) where
  -- parts that stand in their places make a head
  pub IsHead-parts : IsHead (head_with site sizes spaces)
  IsHead-parts = record {
    site = front.site_stands.fits;
    some_blocks = has.some_blocks;
    few_blocks = has.few_blocks;
    some = omega (arith, counted, has.some);
    few = omega (arith, counted, has.few);
    each = begins.each;
    distinct = begins.distinct;
  }

  zeros_behind : drop (24 * length spaces) (drop 32 page) ≡ replicate (4064 - 24 * length spaces) 0
  zeros_behind =
      let same : drop (24 * length spaces) (drop 32 page) ≡ drop (32 + 24 * sizes.spaces) page =
      drop-drop (24 * length spaces) 32 page ∙ ap (λ (n : ℕ). drop (32 + 24 * n) page) counted in
      let size : length (drop (32 + 24 * sizes.spaces) page) ≡ 4064 - 24 * length spaces =
      omega (arith, length-drop (32 + 24 * sizes.spaces) page, fills, counted) in
      same ∙ replicate-zeros (4064 - 24 * length spaces) (drop (32 + 24 * sizes.spaces) page) size zeros

  own_parts : drop 16 page ≡ catalogue_own (head_with site sizes spaces)
  unfolding catalogue_own
  own_parts =
      let back : drop 32 page ≡ flat_map space_bytes spaces ++ replicate (4064 - 24 * length spaces) 0 =
      sym (take-append-drop (24 * length spaces) (drop 32 page)) ∙ rw (begins.stands, zeros_behind) refl in
      sym (take-append-drop 16 (drop 16 page)) ∙ rw (extent-HasSizes page sizes has, drop-drop 16 16 page, back, counted) refl

  -- and its header
  pub HasHeader-parts : HasHeader (catalogue_tail (head_with site sizes spaces)) page
  HasHeader-parts = HasHeader-front 1 0 site (catalogue_own (head_with site sizes spaces)) page fills front own_parts

-- no other head has that header
pub only_header : (page : List ℕ) (site : ℕ) (sizes : Sizes) (spaces : List Space) (head : Head) → length page ≡ 4096 → length spaces ≡ sizes.spaces
    → HasFront 1 0 page site → HasSizes page sizes → BeginsWithSpaces (drop 32 page) spaces → All (λ byte. byte ≡ 0) (drop (32 + 24 * sizes.spaces) page)
    → IsHead head → HasHeader (catalogue_tail head) page → head_with site sizes spaces ≡ head
only_header page site sizes spaces head fills counted front has begins zeros is header =
    let read : HasHeader (catalogue_tail (head_with site sizes spaces)) page = HasHeader-parts page site sizes spaces fills counted front has begins zeros in
    one_catalogue_header (head_with site sizes spaces) head (IsHead-parts page site sizes spaces fills counted front has begins zeros) is
    (sym read.tail_stands ∙ header.tail_stands)

module _ (page : List ℕ) (head : Head) (fills : length page ≡ 4096) (is : IsHead head) (has : HasHeader (catalogue_tail head) page) where
  -- a header has its parts in their places
  pub HasFront-catalogue : HasFront 1 0 page head.site
  HasFront-catalogue = HasFront-header 1 0 head.site (catalogue_own head) page fills has is.site

  own_stands : drop 16 page ≡ catalogue_own head
  own_stands = drop-header 1 0 head.site (catalogue_own head) page fills has

  behind : (k : ℕ) → drop (16 + k) page ≡ drop k (catalogue_own head)
  behind k = sym (drop-drop k 16 page) ∙ ap (drop k) own_stands

  pub HasSizes-catalogue : HasSizes page (sizes_in head)
  unfolding catalogue_own
  HasSizes-catalogue =
      let few : length head.spaces ≤ 16 = is.few in
      let few_blocks : head.blocks ≤ 1048576 = is.few_blocks in
      record {
        some = is.some;
        few = is.few;
        some_blocks = is.some_blocks;
        few_blocks = is.few_blocks;
        spaces_stand = record { fits = omega arith; stands = ap (take 2) own_stands };
        zeros = ap (take 6) (behind 2);
        blocks_stand = record { fits = omega arith; stands = ap (take 4) (behind 8) };
        more_zeros = ap (take 4) (behind 12);
      }

  pub BeginsWithSpaces-catalogue : BeginsWithSpaces (drop 32 page) head.spaces
  BeginsWithSpaces-catalogue = record {
    each = is.each;
    distinct = is.distinct;
    stands = ap (take (24 * length head.spaces)) (behind 16) ∙ spaces-catalogue_own head is;
  }

  pub zeros-catalogue : (count : ℕ) → count ≡ length head.spaces → All (λ byte. byte ≡ 0) (drop (32 + 24 * count) page)
  zeros-catalogue count counted =
      let n : ℕ = 24 * length head.spaces in
      let same : drop (32 + 24 * count) page ≡ replicate (4064 - 24 * length head.spaces) 0 =
      ap (λ (k : ℕ). drop (32 + 24 * k) page) counted ∙ sym (drop-drop n 32 page) ∙ ap (drop n) (behind 16) ∙ zeros-catalogue_own head is in
      zeros-replicate (4064 - 24 * length head.spaces) (drop (32 + 24 * count) page) same
