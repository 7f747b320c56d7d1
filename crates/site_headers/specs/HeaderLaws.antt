-- Laws of headers, for the layers above.
use Rattle.std.specs.Prelude.{◌≡◌, ℕ, ◌-◌, ◌*◌, ◌<◌, ◌≤◌, List, ◌∷◌, ◌++◌, length, take, drop, replicate}
use Rattle.std.specs.List.{flat_map}
use Rattle.std.specs.Int.{w16, w32, w64, to_be_bytes}
use Rattle.std.proofs.Common.{arith, ap, sym, ◌∙◌, refl}
use Rattle.std.proofs.lemmas.List.{take_all, take_at, drop_at, length-append, length-take, length-drop, length-replicate}
use Rattle.std.proofs.Math.Seq.{take-add}
use Rattle.onbar_grammar.specs.Script.{Space}
use Rattle.site_disk.specs.Bytes.{extent}
use Rattle.site_disk.specs.BytesLaws.{extent-extent}
use Rattle.site_headers.specs.Heads.{Head, IsHead}
use Rattle.site_headers.specs.Headers.{header_tail, space_bytes, catalogue_own, no_own, volume_own, catalogue_tail, log_tail, spare_tail, volume_tail, HasHeader}
use Rattle.site_headers.specs.SpaceLaws.{length-spaces, same_spaces}
use Rattle.byte_fields.proofs.FieldLemmas.{same_number}

pub length-header_tail : (kind number site : ℕ) (own : List ℕ) → length own ≡ 4080 → length (header_tail kind number site own) ≡ 4095
unfolding header_tail
length-header_tail kind number site own fills = omega (arith, fills)

length-no_own : length no_own ≡ 4080
unfolding no_own
length-no_own = length-replicate {A = ℕ} 4080 0

pub length-log_tail : (site : ℕ) → length (log_tail site) ≡ 4095
length-log_tail site = length-header_tail 4 0 site no_own length-no_own

pub length-spare_tail : (site : ℕ) → length (spare_tail site) ≡ 4095
length-spare_tail site = length-header_tail 2 0 site no_own length-no_own

length-volume_own : (blocks : ℕ) → length (volume_own blocks) ≡ 4080
unfolding volume_own
length-volume_own blocks = omega (arith, length-append (to_be_bytes w32 blocks) (replicate {A = ℕ} 4076 0), length-replicate {A = ℕ} 4076 0)

pub length-volume_tail : (number site blocks : ℕ) → length (volume_tail number site blocks) ≡ 4095
length-volume_tail number site blocks = length-header_tail 5 number site (volume_own blocks) (length-volume_own blocks)

length-catalogue_own : (head : Head) → IsHead head → length (catalogue_own head) ≡ 4080
unfolding catalogue_own
length-catalogue_own head is =
    let few : length head.spaces ≤ 16 = is.few in
    let n : ℕ = 4064 - 24 * length head.spaces in
    omega (arith, few, length-append (flat_map space_bytes head.spaces) (replicate {A = ℕ} n 0), length-spaces head.spaces is.each, length-replicate {A = ℕ} n 0)

pub length-catalogue_tail : (head : Head) → IsHead head → length (catalogue_tail head) ≡ 4095
length-catalogue_tail head is = length-header_tail 1 0 head.site (catalogue_own head) (length-catalogue_own head is)

-- the whole page of a header
pub extent-HasHeader : (tail file : List ℕ) (has : HasHeader tail file) → extent 0 4096 file ≡ has.gate ∷ tail
extent-HasHeader tail file has = rw (take-add 1 4095 file, has.gate_stands, has.tail_stands) refl

-- a disk with a header has its page
pub length-HasHeader : (tail file : List ℕ) → length tail ≡ 4095 → HasHeader tail file → 4096 ≤ length file
length-HasHeader tail file fills has =
    omega (arith, fills, ap length has.tail_stands, length-take 4095 (drop 1 file), length-drop 1 file)

-- a header stays where its page does
pub HasHeader-same : (tail old new : List ℕ) → extent 0 4096 new ≡ extent 0 4096 old → HasHeader tail old → HasHeader tail new
HasHeader-same tail old new same has = record {
  gate = has.gate;
  is_open = has.is_open;
  gate_stands = sym (extent-extent 0 1 0 4096 new (omega arith)) ∙ ap (extent 0 1) same ∙ extent-extent 0 1 0 4096 old (omega arith) ∙ has.gate_stands;
  tail_stands = sym (extent-extent 1 4095 0 4096 new (omega arith)) ∙ ap (extent 1 4095) same ∙ extent-extent 1 4095 0 4096 old (omega arith) ∙ has.tail_stands;
}

-- an open gate before the other bytes is a header
pub HasHeader-extent : (gate : ℕ) (tail file : List ℕ) → 0 < gate → length tail ≡ 4095 → extent 0 4096 file ≡ gate ∷ tail → HasHeader tail file
HasHeader-extent gate tail file is_open fills e = record {
  gate = gate;
  is_open = is_open;
  gate_stands = sym (extent-extent 0 1 0 4096 file (omega arith)) ∙ ap (extent 0 1) e;
  tail_stands = sym (extent-extent 1 4095 0 4096 file (omega arith)) ∙ ap (extent 1 4095) e ∙ take_all 4095 tail (omega (arith, fills));
}

pub HasHeader-page : (gate : ℕ) (tail page : List ℕ) → 0 < gate → length tail ≡ 4095 → page ≡ gate ∷ tail → HasHeader tail page
HasHeader-page gate tail page is_open fills e =
    let size : length page ≤ 4096 = omega (arith, ap length e, fills) in
    HasHeader-extent gate tail page is_open fills (take_all 4096 page size ∙ e)

-- a page that is a header has its gate and these bytes
pub page-HasHeader : (tail page : List ℕ) → length page ≡ 4096 → (has : HasHeader tail page) → page ≡ has.gate ∷ tail
page-HasHeader tail page fills has = sym (take_all 4096 page (omega (arith, fills))) ∙ extent-HasHeader tail page has

-- the parts of the catalogue's bytes
site-catalogue_tail : (head : Head) → take 8 (drop 7 (catalogue_tail head)) ≡ to_be_bytes w64 head.site
unfolding header_tail
site-catalogue_tail head = refl

module _ (head : Head) where
  count-catalogue_own : take 2 (catalogue_own head) ≡ to_be_bytes w16 (length head.spaces)
  unfolding catalogue_own
  count-catalogue_own = refl

  blocks-catalogue_own : take 4 (drop 8 (catalogue_own head)) ≡ to_be_bytes w32 head.blocks
  unfolding catalogue_own
  blocks-catalogue_own = refl

  drop-catalogue_own : drop 16 (catalogue_own head) ≡ flat_map space_bytes head.spaces ++ replicate (4064 - 24 * length head.spaces) 0
  unfolding catalogue_own
  drop-catalogue_own = refl

  own-catalogue_tail : drop 15 (catalogue_tail head) ≡ catalogue_own head
  unfolding header_tail
  own-catalogue_tail = refl

  pub spaces-catalogue_own : IsHead head → take (24 * length head.spaces) (drop 16 (catalogue_own head)) ≡ flat_map space_bytes head.spaces
  spaces-catalogue_own is =
      ap (take (24 * length head.spaces)) drop-catalogue_own
      ∙ take_at (flat_map space_bytes head.spaces) (replicate (4064 - 24 * length head.spaces) 0) (24 * length head.spaces) (length-spaces head.spaces is.each)

  pub zeros-catalogue_own : IsHead head → drop (24 * length head.spaces) (drop 16 (catalogue_own head)) ≡ replicate (4064 - 24 * length head.spaces) 0
  zeros-catalogue_own is =
      ap (drop (24 * length head.spaces)) drop-catalogue_own
      ∙ drop_at (flat_map space_bytes head.spaces) (replicate (4064 - 24 * length head.spaces) 0) (24 * length head.spaces) (length-spaces head.spaces is.each)

abbrev head_with : ℕ → ℕ → List Space → Head
head_with site blocks spaces = record { site = site; blocks = blocks; spaces = spaces }

pub same_parts : (a b : Head) → a.site ≡ b.site → a.blocks ≡ b.blocks → a.spaces ≡ b.spaces → a ≡ b
same_parts a b sites blocks spaces =
    ap (λ (n : ℕ). head_with n a.blocks a.spaces) sites ∙ ap (λ (n : ℕ). head_with b.site n a.spaces) blocks ∙ ap (λ (xs : List Space). head_with b.site b.blocks xs) spaces

-- the catalogue's bytes are those of one site
pub one_catalogue_header : (a b : Head) → IsHead a → IsHead b → catalogue_tail a ≡ catalogue_tail b → a ≡ b
one_catalogue_header a b is_a is_b e =
    let own : catalogue_own a ≡ catalogue_own b = sym (own-catalogue_tail a) ∙ ap (drop 15) e ∙ own-catalogue_tail b in
    let sites : a.site ≡ b.site = same_number w64 a.site b.site (omega arith) is_a.site is_b.site
    (sym (site-catalogue_tail a) ∙ ap (λ (bytes : List ℕ). take 8 (drop 7 bytes)) e ∙ site-catalogue_tail b) in
    let few_a : length a.spaces ≤ 16 = is_a.few in
    let few_b : length b.spaces ≤ 16 = is_b.few in
    let counts : length a.spaces ≡ length b.spaces = same_number w16 (length a.spaces) (length b.spaces) (omega arith) (omega arith) (omega arith)
    (sym (count-catalogue_own a) ∙ ap (take 2) own ∙ count-catalogue_own b) in
    let a_blocks : a.blocks ≤ 1048576 = is_a.few_blocks in
    let b_blocks : b.blocks ≤ 1048576 = is_b.few_blocks in
    let blocks : a.blocks ≡ b.blocks = same_number w32 a.blocks b.blocks (omega arith) (omega arith) (omega arith)
    (sym (blocks-catalogue_own a) ∙ ap (λ (bytes : List ℕ). take 4 (drop 8 bytes)) own ∙ blocks-catalogue_own b) in
    let spelled : flat_map space_bytes a.spaces ≡ flat_map space_bytes b.spaces =
    sym (spaces-catalogue_own a is_a) ∙ ap (λ (n : ℕ). take (24 * n) (drop 16 (catalogue_own a))) counts
    ∙ ap (λ (bytes : List ℕ). take (24 * length b.spaces) (drop 16 bytes)) own ∙ spaces-catalogue_own b is_b in
    same_parts a b sites blocks (same_spaces a.spaces b.spaces is_a.each is_b.each counts spelled)
