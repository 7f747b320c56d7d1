-- Headers of volumes, and the end of an object.
use Rattle.std.proofs.Common.{◌≡◌, ℕ, suc, ◌+◌, ◌%◌, ◌<◌, ◌≤◌, Bool, List, [], ◌∷◌, ◌++◌, length, take, drop, refl, arith, ap, sym, ◌∙◌, subst, Option, Some, None, length-append}
use Rattle.std.specs.Prelude.{IfSome, slice_index, ◌≢◌}
use Rattle.site_disk.specs.Bytes.{extent, written}
use Rattle.site_disk.specs.BytesLaws.{drop-written, extent-written, extent-extent}
use Rattle.site_headers.specs.Headers.{volume_tail, IsVolumeSize, HasHeader}
use Rattle.site_headers.specs.HeaderLaws.{HasHeader-same, HasHeader-extent, length-volume_tail, length-HasHeader}
use Rattle.gated_slots.specs.Header.{IsHeader}
use Rattle.block_chain.specs.Blocks.{times, blocks_for}
use Rattle.block_chain.specs.Table.{Table, blocks_of}
use Rattle.block_chain.specs.declared.lists.BlockList.{BlockList}
use Rattle.object_volume.specs.Objects.{place_of}
use Rattle.object_volume.specs.Headers.{HasVolume}
use Rattle.object_volume.specs.Sending.{part_block, part_end, Stored}
use Rattle.object_volume.proofs.SendingLemmas.{length-rest, length-message, length-part_block, last_below, part_block_listed}

-- the first page of a disk has the header that the disk has
same_page : (page file : List ℕ) → page ≡ extent 0 4096 file → extent 0 4096 page ≡ extent 0 4096 file
same_page page file is = ap (extent 0 4096) is ∙ extent-extent 0 4096 0 4096 file (omega arith)

pub volume_on_disk : (number site : ℕ) (page file : List ℕ) (named : Option ℕ) → page ≡ extent 0 4096 file
    → IfSome named (λ blocks. IsVolumeSize blocks × HasHeader (volume_tail number site blocks) page) → IfSome named (λ blocks. HasVolume number site blocks file)
volume_on_disk number site page file (Some blocks) is found = record {
  size = found.0;
  header = HasHeader-same (volume_tail number site blocks) page file (sym (same_page page file is)) found.1;
}
volume_on_disk number site page file None is found = tt

pub volume_on_page : (number site blocks : ℕ) (page file : List ℕ) → page ≡ extent 0 4096 file → HasVolume number site blocks file → HasHeader (volume_tail number site blocks) page
volume_on_page number site blocks page file is has = HasHeader-same (volume_tail number site blocks) file page (same_page page file is) has.header

-- a disk with a volume's header has a header
pub volume_has_header : (number site blocks : ℕ) (now file : List ℕ) → now ≡ file → HasVolume number site blocks file → IsHeader now
volume_has_header number site blocks now file same has = subst IsHeader (sym same) (record {
  long = length-HasHeader (volume_tail number site blocks) file (length-volume_tail number site blocks) has.header;
  gate = first_open file has.header.gate has.header.is_open has.header.gate_stands;
})
  where
    first_open : (file : List ℕ) (gate : ℕ) → 0 < gate → extent 0 1 file ≡ gate ∷ [] → slice_index file 0 ≢ 0
    first_open [] gate is_open stands = absurd (omega (arith, ap length stands))
    first_open (x ∷ xs) gate is_open stands =
        let same : x ≡ gate = ap (λ (l : List ℕ). slice_index l 0) stands in
        λ (shut : x ≡ 0). omega (arith, same, is_open, shut)

-- the header over a closed one
pub header_written : (tail closed old : List ℕ) → closed ≡ written 0 (0 ∷ []) old → written 0 (1 ∷ tail) closed ≡ written 0 (1 ∷ tail) old
header_written tail closed old is =
    let n : ℕ = length tail in
    let e : 0 + 1 + n ≡ 0 + suc n = omega arith in
    ap (λ (l : List ℕ). 1 ∷ (tail ++ l)) (
    ap (λ (k : ℕ). drop k closed) (sym e) ∙ ap (drop (0 + 1 + n)) is ∙ drop-written 0 (0 ∷ []) old (omega arith) n ∙ ap (λ (k : ℕ). drop k old) e)

pub volume_written : (number site blocks : ℕ) (old new : List ℕ) → IsVolumeSize blocks → new ≡ written 0 (1 ∷ volume_tail number site blocks) old → HasVolume number site blocks new
volume_written number site blocks old new size is =
    let tail : List ℕ = volume_tail number site blocks in
    let long : length (1 ∷ tail) ≡ 4096 = omega (arith, length-volume_tail number site blocks) in
    record {
      size = size;
      header = HasHeader-extent 1 tail new (omega arith) (length-volume_tail number site blocks)
          (ap (extent 0 4096) is ∙ ap (λ (k : ℕ). extent 0 k (written 0 (1 ∷ tail) old)) (sym long) ∙ extent-written 0 (1 ∷ tail) old (omega arith));
    }

module _ {tells : Bool} {file : List ℕ} {table : Table} {list : BlockList} {last : ℕ} {part message : List ℕ} (so_far : Stored tells file table list last part message) where
  -- the buffer's bytes are the part
  pub part_kept : (size : ℕ) → size ≡ length message → take (size % 4096) part ≡ so_far.rest
  part_kept size is =
      let e : length so_far.rest ≡ size % 4096 = length-rest so_far ∙ ap (λ (k : ℕ). k % 4096) (sym is) in
      ap (λ (k : ℕ). take k part) (sym e) ∙ so_far.kept

  pub part_within : (piece : List ℕ) → piece ≡ so_far.rest → part_end piece last ≡ part_end so_far.rest last
  part_within piece is = ap (λ (l : List ℕ). part_end l last) is

  pub part_before_end : (piece : List ℕ) → piece ≡ so_far.rest → part_end piece last ≤ place_of table.blocks
  part_before_end piece is = subst (λ (l : List ℕ). part_end l last ≤ place_of table.blocks) (sym is) (before so_far.rest refl so_far.few)
    where
      before : (rest : List ℕ) → rest ≡ so_far.rest → length rest < 4096 → part_end rest last ≤ place_of table.blocks
      before [] same few = omega arith
      before (x ∷ xs) same few =
          let some : 0 < length message % 4096 = omega (arith, length-rest so_far, ap length same) in
          omega (arith, few, last_below so_far some)

  pub blocks_are : length (blocks_of table list) ≡ blocks_for (length message)
  blocks_are = ap length so_far.blocks ∙ length-append so_far.full (part_block so_far.rest last)
      ∙ omega (arith, length-part_block so_far.rest last so_far.few, length-message so_far, so_far.few)

  -- the part's block is one of the list's
  pub part_among : (piece : List ℕ) → piece ≡ so_far.rest → (block : ℕ) → 0 < times block (part_block piece last) → 0 < times block (blocks_of table list)
  part_among piece is block some = part_block_listed so_far block (subst (λ (l : List ℕ). 0 < times block (part_block l last)) is some)
