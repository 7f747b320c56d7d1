-- An object that grows while it is being sent.
use Rattle.std.proofs.Common.{◌≡◌, ℕ, zero, suc, ◌+◌, ◌-◌, ◌*◌, ◌/◌, ◌%◌, ◌<◌, ◌≤◌, ◌⊎◌, Bool, IsTrue, List, [], ◌∷◌, ◌++◌, length, take, drop, refl, arith, ap, sym, ◌∙◌, subst, inl, inr, ⊎_elim, append_assoc, length-append}
use Rattle.std.proofs.lemmas.List.{append-nil, take_at, drop_at, take_all, take-append-drop, length-take}
use Rattle.std.proofs.lemmas.List.{length-drop}
use Rattle.std.proofs.lemmas.Slice.{take-put_mid}
use borrow.Rule.Slice.PartMut.{put_mid, post_of}
use Rattle.std.proofs.lemmas.List.{length-replicate}
use Rattle.std.proofs.Math.Seq.{take-add}
use Rattle.std.specs.Prelude.{replicate, ◌==◌, false}
use Rattle.site_disk.specs.Bytes.{extent, written, filled, Apart}
use Rattle.site_disk.specs.BytesLaws.{extent-written}
use Rattle.block_chain.specs.Blocks.{times, ascending, AreApart}
use Rattle.block_chain.specs.BlocksLaws.{times-append, times_head, times_single, length_of_distinct}
use Rattle.std.proofs.lemmas.Bool.{cases_lt}
use Rattle.site_disk.specs.Images.{Leaves}
use Rattle.site_disk.specs.ImagesLaws.{begins, weaker, goes_on}
use Rattle.site_disk.specs.Ledger.{Ledger, EraView, MayUse, Uses}
use Rattle.site_disk.specs.CallsLaws.{uses_nothing}
use Rattle.block_chain.specs.Table.{Table, blocks_of}
use Rattle.block_chain.specs.declared.lists.BlockList.{BlockList}
use Rattle.object_volume.specs.Objects.{place_of, places, bytes_at, Outside, Spares}
use Rattle.object_volume.specs.ObjectsLaws.{places-append, length-places, take-ascending, bytes_at-append, bytes_at-ascending, bytes_at-nil, spared_blocks, spares_none, spares_again, spares_less}
use Rattle.object_volume.specs.Taking.{Takes, TakesFor, PutsBlocks}
use Rattle.object_volume.specs.Sending.{part_block, part_end, Stored, Finished}
use Rattle.object_volume.proofs.TakingLemmas.{takes_again}
use Rattle.object_volume.proofs.OutsideLemmas.{written_outside, writes_again}
use Rattle.object_volume.proofs.PuttingLemmas.{run_stands, places-single}

-- one block
pub block_spares : (block limit : ℕ) (old new : List ℕ) → Outside (place_of block) 4096 limit old new → Spares (block ∷ []) limit old new
block_spares block limit old new outside = record {
  kept = λ place below apart. outside.kept place below (apart block (omega (arith, times_head block [])));
  no_shorter = outside.no_shorter;
}

part_block_more : (rest piece : List ℕ) (last : ℕ) → 0 < length rest → part_block (rest ++ piece) last ≡ part_block rest last
part_block_more [] piece last some = absurd (omega arith)
part_block_more (x ∷ xs) piece last some = refl

part_block_some : (rest : List ℕ) (last : ℕ) → 0 < length rest → part_block rest last ≡ last ∷ []
part_block_some [] last some = absurd (omega arith)
part_block_some (x ∷ xs) last some = refl

module _ {tells : Bool} {file : List ℕ} {table : Table} {list : BlockList} {last : ℕ} {part message : List ℕ} (so_far : Stored tells file table list last part message) where
  pub length-message : length message ≡ 4096 * length so_far.full + length so_far.rest
  length-message = ap length so_far.parts ∙ length-append so_far.front so_far.rest ∙ omega (arith, so_far.even)

  pub length-rest : length so_far.rest ≡ length message % 4096
  length-rest = omega (arith, length-message, so_far.few)

  -- nothing more
  pub sent_nothing : Stored tells file table list last part (message ++ [])
  sent_nothing = subst (λ (m : List ℕ). Stored tells file table list last part m) (sym (append-nil message)) so_far

  -- more bytes of a part
  pub part_grows : (piece after : List ℕ) → 0 < length so_far.rest → length so_far.rest + length piece < 4096
      → take (length so_far.rest + length piece) after ≡ take (length so_far.rest) part ++ piece → Stored tells file table list last after (message ++ piece)
  part_grows piece after some few is = record {
    full = so_far.full;
    front = so_far.front;
    rest = so_far.rest ++ piece;
    parts = ap (λ (m : List ℕ). m ++ piece) so_far.parts ∙ append_assoc so_far.front so_far.rest piece;
    even = so_far.even;
    few = omega (arith, few, length-append so_far.rest piece);
    own = so_far.own;
    blocks = so_far.blocks ∙ ap (λ (l : List ℕ). so_far.full ++ l) (sym (part_block_more so_far.rest piece last some));
    kept = ap (λ (k : ℕ). take k after) (length-append so_far.rest piece) ∙ is ∙ ap (λ (l : List ℕ). l ++ piece) so_far.kept;
    stands = so_far.stands;
  }

  -- the part's last bytes, after which its block is written
  pub part_fills : (piece after new : List ℕ) → 0 < length so_far.rest → length so_far.rest + length piece ≡ 4096 → after ≡ so_far.rest ++ piece
      → (IsTrue tells → new ≡ written (place_of last) after (filled (place_of last) file)) → Stored tells new table list last after (message ++ piece)
  part_fills piece after new some all is wrote =
      let block : List ℕ = so_far.rest ++ piece in
      let long : length block ≡ 4096 = length-append so_far.rest piece ∙ all in
      let from : ℕ = length so_far.front in
      let blocks = so_far.blocks ∙ ap (λ (l : List ℕ). so_far.full ++ l) (part_block_some so_far.rest last some) in
      record {
        full = so_far.full ++ last ∷ [];
        front = so_far.front ++ block;
        rest = [];
        parts = ap (λ (m : List ℕ). m ++ piece) so_far.parts ∙ append_assoc so_far.front so_far.rest piece ∙ sym (append-nil (so_far.front ++ block));
        even = omega (arith, length-append so_far.front block, long, so_far.even, length-append so_far.full (last ∷ []));
        few = omega arith;
        own = so_far.own;
        blocks = blocks ∙ sym (append-nil (so_far.full ++ last ∷ []));
        kept = refl;
        stands = λ told.
            run_stands (so_far.front ++ block) file new so_far.full (last ∷ []) block (place_of last) from (from + 4096) so_far.even (omega (arith, so_far.even))
            (omega (arith, length-append so_far.front block, long)) (places-single last ∙ ap (ascending (place_of last)) (one_block from))
            (sym (ap (take (from + 4096 - from)) (drop_at so_far.front block from refl) ∙ take_all (from + 4096 - from) block (omega (arith, long))))
            (wrote told ∙ ap (λ (l : List ℕ). written (place_of last) l (filled (place_of last) file)) is) (last_apart blocks)
            (so_far.stands told ∙ sym (take_at so_far.front block from refl))
            ∙ take_all (from + 4096) (so_far.front ++ block) (omega (arith, length-append so_far.front block, long));
      }
    where
      one_block : (from : ℕ) → 4096 ≡ from + 4096 - from
      one_block from = omega arith

      last_apart : blocks_of table list ≡ so_far.full ++ last ∷ [] → AreApart (last ∷ []) so_far.full
      last_apart blocks block some =
          let once : times block (blocks_of table list) ≤ 1 = so_far.own.sound.once block in
          omega (arith, some, once, ap (times block) blocks, times-append block so_far.full (last ∷ []))

-- a buffer of 4,096 bytes after bytes were put behind those that fill it up to a place
pub filled_front : (place k n : ℕ) (buffer bytes put : List ℕ) → place ≤ length buffer → put ≡ take n bytes → n ≤ length bytes
    → take (place + n) (put_mid place k buffer put) ≡ take place buffer ++ take n bytes
filled_front place k n buffer bytes put within is few =
    let long : place + n ≡ place + length put = omega (arith, ap length is, length-take n bytes) in
    take-put_mid place k buffer put (place + n) long within ∙ ap (λ (l : List ℕ). take place buffer ++ l) is

pub length-put : (place n : ℕ) (buffer put : List ℕ) → place + n ≤ length buffer → length put ≡ n → length (put_mid place (place + n - place) buffer put) ≡ length buffer
length-put place n buffer put within long =
    let k : ℕ = place + n - place in
    omega (
      arith,
      length-append (take place buffer) (put ++ post_of place k buffer),
      length-append put (post_of place k buffer),
      length-take place buffer,
      length-drop k (drop place buffer),
      length-drop place buffer,
      long,
    )

pub block_outside : (block place n limit : ℕ) (old new : List ℕ) → place ≡ place_of block → n ≡ 4096 → Outside place n limit old new → Spares (block ∷ []) limit old new
block_outside block place n limit old new at all outside =
    block_spares block limit old new (subst (λ (p : ℕ). Outside p 4096 limit old new) at (subst (λ (k : ℕ). Outside place k limit old new) all outside))

pub block_written : (block place : ℕ) (piece old new : List ℕ) → place ≡ place_of block → length piece ≡ 4096 → new ≡ written place piece (filled place old)
    → Spares (block ∷ []) (length old) old new
block_written block place piece old new at all wrote =
    block_outside block place (length piece) (length old) old new at all
    (subst (λ (l : List ℕ). Outside place (length piece) (length old) old l) (sym wrote) (written_outside place (length old) piece old (omega arith)))

pub length-part_block : (rest : List ℕ) (last : ℕ) → length rest < 4096 → length (part_block rest last) ≡ (length rest + 4095) / 4096
length-part_block [] last few = refl
length-part_block (x ∷ xs) last few = omega (arith, few)

-- the blocks that bytes take behind whole blocks
pub takes_for : (old mid new : Table) (before between after : BlockList) (tells : Bool) (was is bytes : List ℕ) (whole last : ℕ)
    → whole ≡ length bytes - length bytes % 4096 → PutsBlocks tells was is old mid before between (take whole bytes) → Takes mid new between after (part_block (take (length bytes - whole) (drop whole bytes)) last)
    → TakesFor old new before after ((length bytes + 4095) / 4096)
takes_for old mid new before between after tells was is bytes whole last split puts takes =
    let rest : List ℕ = take (length bytes - whole) (drop whole bytes) in
    let long : length rest ≡ length bytes % 4096 = omega (arith, length-take (length bytes - whole) (drop whole bytes), length-drop whole bytes, split) in
    let count = length-part_block rest last (omega (arith, long)) in
    record {
      taken = puts.taken ++ part_block rest last;
      takes = takes_again old mid new before between after puts.taken (part_block rest last) puts.takes takes;
      counted = omega (arith, length-append puts.taken (part_block rest last), puts.even, length-take whole bytes, count, long, split);
    }

-- bytes in two parts
two_parts : (whole : ℕ) (bytes : List ℕ) → take whole bytes ++ take (length bytes - whole) (drop whole bytes) ≡ bytes
two_parts whole bytes =
    ap (λ (l : List ℕ). take whole bytes ++ l) (take_all (length bytes - whole) (drop whole bytes) (omega (arith, length-drop whole bytes))) ∙ take-append-drop whole bytes

-- bytes behind whole blocks: whole blocks of them were put, and the others kept
pub rest_stored : {old mid new : Table} {before between after : BlockList} {tells : Bool} {was is part message : List ℕ} {last : ℕ}
    (so_far : Stored tells was old before last part message) (bytes part' : List ℕ) (whole last' : ℕ)
    → length message % 4096 ≡ 0 → whole ≡ length bytes - length bytes % 4096 → PutsBlocks tells was is old mid before between (take whole bytes)
    → Takes mid new between after (part_block (take (length bytes - whole) (drop whole bytes)) last')
    → take (length (take (length bytes - whole) (drop whole bytes))) part' ≡ take (length bytes - whole) (drop whole bytes)
    → Stored tells is new after last' part' (message ++ bytes)
rest_stored {old = old} {mid = mid} {new = new} {before = before} {between = between} {after = after} {was = was} {is = is} {message = message} {last = last} so_far bytes part' whole last' aligned split puts takes kept =
    let piece : List ℕ = take whole bytes in
    let rest : List ℕ = take (length bytes - whole) (drop whole bytes) in
    let none : so_far.rest ≡ [] = nothing so_far.rest (length-rest so_far ∙ aligned) in
    let front : message ≡ so_far.front = so_far.parts ∙ ap (λ (l : List ℕ). so_far.front ++ l) none ∙ append-nil so_far.front in
    let full : blocks_of old before ≡ so_far.full = so_far.blocks ∙ ap (λ (l : List ℕ). so_far.full ++ part_block l last) none ∙ append-nil so_far.full in
    let more = takes_again old mid new before between after puts.taken (part_block rest last') puts.takes takes in
    record {
      full = so_far.full ++ puts.taken;
      front = so_far.front ++ piece;
      rest = rest;
      parts = ap (λ (l : List ℕ). message ++ l) (sym (two_parts whole bytes)) ∙ ap (λ (l : List ℕ). l ++ (piece ++ rest)) front ∙ sym (append_assoc so_far.front piece rest);
      even = omega (arith, length-append so_far.front piece, length-append so_far.full puts.taken, so_far.even, puts.even);
      few = omega (arith, length-take (length bytes - whole) (drop whole bytes), length-drop whole bytes, split);
      own = more.own;
      blocks = more.list ∙ ap (λ (l : List ℕ). l ++ (puts.taken ++ part_block rest last')) full ∙ sym (append_assoc so_far.full puts.taken (part_block rest last'));
      kept = kept;
      stands = λ told. stands_more so_far.front so_far.full puts.taken piece was is (so_far.stands told) (puts.stands told) so_far.even (puts.spared told)
          (λ block some. full_apart block full puts.takes some);
    }
  where
    nothing : (l : List ℕ) → length l ≡ 0 → l ≡ []
    nothing [] is = refl
    nothing (x ∷ xs) is = absurd (omega (arith, is))

    full_apart : (block : ℕ) → blocks_of old before ≡ so_far.full → Takes old mid before between puts.taken → 0 < times block puts.taken → times block so_far.full ≡ 0
    full_apart block full takes some =
        let once : times block (blocks_of mid between) ≤ 1 = takes.own.sound.once block in
        omega (arith, some, once, ap (times block) takes.list, times-append block (blocks_of old before) puts.taken, ap (times block) full)

    stands_more : (front full taken piece was is : List ℕ) → bytes_at was (places full) ≡ front → bytes_at is (places taken) ≡ piece → length front ≡ 4096 * length full
        → Spares taken (length was) was is → AreApart taken full → bytes_at is (places (full ++ taken)) ≡ front ++ piece
    stands_more front full taken piece was is stood put even spared apart =
        let whole : length (bytes_at was (places full)) ≡ length (places full) = ap length stood ∙ even ∙ sym (length-places full) in
        let still = spared_blocks taken full (length was) was is spared apart (omega arith) whole in
        ap (bytes_at is) (places-append full taken)
        ∙ bytes_at-append is (places full) (places taken) (ap length still ∙ whole)
        ∙ ap (λ (l : List ℕ). l ++ bytes_at is (places taken)) (still ∙ stood)
        ∙ ap (λ (l : List ℕ). front ++ l) put

-- nothing was put and nothing kept
pub same_stored : {old mid new : Table} {before between after : BlockList} {tells : Bool} {was is part message : List ℕ} {last : ℕ}
    (so_far : Stored tells was old before last part message) (bytes part' : List ℕ) (whole last' : ℕ)
    → length bytes ≡ 0 → whole ≡ length bytes - length bytes % 4096 → PutsBlocks tells was is old mid before between (take whole bytes)
    → Takes mid new between after (part_block (take (length bytes - whole) (drop whole bytes)) last') → last' ≡ last → part' ≡ part
    → Stored tells is new after last' part' (message ++ bytes)
same_stored {old = old} {mid = mid} {new = new} {before = before} {between = between} {after = after} {tells = tells} {was = was} {is = is} {part = part} {message = message} {last = last} so_far bytes part' whole last' none split puts takes same_last same_part =
    let empty : bytes ≡ [] = nothing bytes none in
    let piece : List ℕ = take whole bytes in
    let rest : List ℕ = take (length bytes - whole) (drop whole bytes) in
    let no_rest : part_block rest last' ≡ [] = no_part rest last' (omega (arith, length-take (length bytes - whole) (drop whole bytes), none)) in
    let no_taken : puts.taken ≡ [] = nothing puts.taken (omega (arith, puts.even, length-take whole bytes, none)) in
    let more = takes_again old mid new before between after puts.taken (part_block rest last') puts.takes takes in
    let list : blocks_of new after ≡ blocks_of old before =
    more.list ∙ ap (λ (l : List ℕ). blocks_of old before ++ (l ++ part_block rest last')) no_taken ∙ ap (λ (l : List ℕ). blocks_of old before ++ l) no_rest ∙ append-nil (blocks_of old before) in
    subst (λ (k : ℕ). Stored tells is new after k part' (message ++ bytes)) (sym same_last)
    (subst (λ (l : List ℕ). Stored tells is new after last l (message ++ bytes)) (sym same_part)
    (record {
      full = so_far.full;
      front = so_far.front;
      rest = so_far.rest;
      parts = ap (λ (l : List ℕ). message ++ l) empty ∙ append-nil message ∙ so_far.parts;
      even = so_far.even;
      few = so_far.few;
      own = more.own;
      blocks = list ∙ so_far.blocks;
      kept = so_far.kept;
      stands = λ told.
          let whole_there : length (bytes_at was (places so_far.full)) ≡ length (places so_far.full) = ap length (so_far.stands told) ∙ so_far.even ∙ sym (length-places so_far.full) in
          spared_blocks puts.taken so_far.full (length was) was is (puts.spared told)
          (λ block some. absurd (omega (arith, some, ap (times block) no_taken))) (omega arith) whole_there ∙ so_far.stands told;
    }))
  where
    nothing : (l : List ℕ) → length l ≡ 0 → l ≡ []
    nothing [] is = refl
    nothing (x ∷ xs) is = absurd (omega (arith, is))

    no_part : (rest : List ℕ) (last : ℕ) → length rest ≡ 0 → part_block rest last ≡ []
    no_part [] last is = refl
    no_part (x ∷ xs) last is = absurd (omega (arith, is))

-- a slice that isn't empty
pub some_bytes : (n : ℕ) (empty : Bool) → empty ≡ (n == 0) → empty ≡ false → 0 < n
some_bytes zero empty is other = cc
some_bytes (suc n) empty is other = omega arith

-- the list of an object that is being sent has few blocks
pub sent_small : {tells : Bool} {file : List ℕ} {table : Table} {list : BlockList} {last : ℕ} {part message : List ℕ} → Stored tells file table list last part message
    → length message ≤ 4096 * table.blocks
sent_small {table = table} {list = list} {last = last} so_far =
    let few : length (blocks_of table list) ≤ table.blocks = length_of_distinct table.blocks (blocks_of table list) so_far.own.sound.once so_far.own.sound.below in
    let count = length-part_block so_far.rest last so_far.few in
    omega (arith, few, ap length so_far.blocks, length-append so_far.full (part_block so_far.rest last), count, length-message so_far, so_far.few)

-- the block of the part is one of the list's
pub last_listed : {tells : Bool} {file : List ℕ} {table : Table} {list : BlockList} {last : ℕ} {part message : List ℕ} → Stored tells file table list last part message
    → 0 < length message % 4096 → (block : ℕ) → 0 < times block (last ∷ []) → 0 < times block (blocks_of table list)
last_listed {table = table} {list = list} {last = last} so_far some block one =
    let rest_some : 0 < length so_far.rest = omega (arith, length-rest so_far, some) in
    omega (arith, one, ap (times block) so_far.blocks, times-append block so_far.full (part_block so_far.rest last), ap (times block) (part_block_some so_far.rest last rest_some))

pub last_below : {tells : Bool} {file : List ℕ} {table : Table} {list : BlockList} {last : ℕ} {part message : List ℕ} → Stored tells file table list last part message
    → 0 < length message % 4096 → last < table.blocks
last_below {last = last} so_far some = so_far.own.sound.below last (last_listed so_far some last (omega (arith, times_head last [])))

-- one call after another, of which the second touches fewer blocks
pub crash_joined : (e limit longer : ℕ) (own fewer : List ℕ) (was is new : ℕ → List ℕ → Type 0) → limit ≤ longer → ((block : ℕ) → 0 < times block fewer → 0 < times block own)
    → Leaves e (Spares own limit) was is → Leaves e (Spares fewer longer) is new → Leaves e (Spares own limit) was new
crash_joined e limit longer own fewer was is new le among first second =
    goes_on (Spares own limit) (Spares fewer longer) e was is new first second
    (λ f d b lt image spares. let from = first.later f d lt image in
    (from.0, from.1, spares_again own limit from.0 d b from.2 (spares_less fewer own longer limit d b among le spares)))

pub spares_joined : (limit longer : ℕ) (own fewer was is new : List ℕ) → limit ≤ longer → ((block : ℕ) → 0 < times block fewer → 0 < times block own)
    → Spares own limit was is → Spares fewer longer is new → Spares own limit was new
spares_joined limit longer own fewer was is new le among first second =
    spares_again own limit was is new first (spares_less fewer own longer limit is new among le second)

pub among_left : (xs ys : List ℕ) (block : ℕ) → 0 < times block xs → 0 < times block (xs ++ ys)
among_left xs ys block some = omega (arith, some, times-append block xs ys)

pub among_right : (xs ys : List ℕ) (block : ℕ) → 0 < times block ys → 0 < times block (xs ++ ys)
among_right xs ys block some = omega (arith, some, times-append block xs ys)

-- the blocks that a piece takes
pub blocks_counted : (size len n filled : ℕ) → filled ≡ size % 4096 → n ≤ len → filled + n ≤ 4096 → (filled ≡ 0 → n ≡ 0) → (n ≡ len) ⊎ ((filled + n) % 4096 ≡ 0)
    → (len - n + 4095) / 4096 ≡ (size + len + 4095) / 4096 - (size + 4095) / 4096
blocks_counted size len n filled is le within none even = ⊎_elim
    (λ (all : n ≡ len). ⊎_elim (λ (some : 0 < filled). omega (arith, is, all, within, some)) (λ (zero_filled : filled ≤ 0). let no_more = none (omega (arith, zero_filled)) in omega (arith, is, all, no_more, zero_filled)) (cases_lt 0 filled))
    (λ (full : (filled + n) % 4096 ≡ 0). ⊎_elim (λ (some : 0 < filled). omega (arith, is, full, within, some, le)) (λ (zero_filled : filled ≤ 0). let no_more = none (omega (arith, zero_filled)) in omega (arith, is, full, no_more, zero_filled)) (cases_lt 0 filled))
    even

-- a part that isn't there isn't written
module _ {D : Type 0} (filled last : ℕ) (own : List ℕ) (old new : D) (listed : 0 < filled → 0 < times last own) (unused : filled ≡ 0 → new ≡ old) where
  pub part_crash : (image : D → ℕ → List ℕ → Type 0) (e limit : ℕ) → Leaves e (Spares (last ∷ []) limit) (image old) (image new) → Leaves e (Spares own limit) (image old) (image new)
  part_crash image e limit crash = ⊎_elim
      (λ (some : 0 < filled). weaker (Spares own limit) (Spares (last ∷ []) limit) e (image old) (image old) (image new) crash
      (λ f d b lt here spares. spares_less (last ∷ []) own limit limit d b (only_last (listed some)) (omega arith) spares))
      (λ (none : filled ≤ 0). subst (λ (x : D). Leaves e (Spares own limit) (image old) (image x)) (sym (unused (omega (arith, none))))
      (begins (Spares own limit) (Spares own limit) e (image old) (image old) (image old) (λ b. spares_none own limit b)))
      (cases_lt 0 filled)
    where
      only_last : 0 < times last own → (block : ℕ) → 0 < times block (last ∷ []) → 0 < times block own
      only_last here block some = subst (λ (k : ℕ). 0 < times k own) (times_single block last some) here

  pub part_spares : (bytes : D → List ℕ) → Spares (last ∷ []) (length (bytes old)) (bytes old) (bytes new) → Spares own (length (bytes old)) (bytes old) (bytes new)
  part_spares bytes spares = ⊎_elim
      (λ (some : 0 < filled). spares_less (last ∷ []) own (length (bytes old)) (length (bytes old)) (bytes old) (bytes new) (only_last (listed some)) (omega arith) spares)
      (λ (none : filled ≤ 0). subst (λ (x : D). Spares own (length (bytes old)) (bytes old) (bytes x)) (sym (unused (omega (arith, none)))) (spares_none own (length (bytes old)) (bytes old)))
      (cases_lt 0 filled)
    where
      only_last : 0 < times last own → (block : ℕ) → 0 < times block (last ∷ []) → 0 < times block own
      only_last here block some = subst (λ (k : ℕ). 0 < times k own) (times_single block last some) here

pub part_uses : {D : Type 0} (ledger : D → Ledger) (filled last blocks : ℕ) (old new : D) {era : EraView} → (0 < filled → last < blocks) → (filled ≡ 0 → new ≡ old) → MayUse era (ledger old)
    → Uses era 0 (place_of last + 4096) (ledger old) (ledger new) → Uses era 0 (place_of blocks) (ledger old) (ledger new)
part_uses {D = D} ledger filled last blocks old new {era = era} below unused may uses = ⊎_elim
    (λ (some : 0 < filled). let low = below some in writes_again (uses_nothing may) uses (omega (arith, low)))
    (λ (none : filled ≤ 0). subst (λ (x : D). Uses era 0 (place_of blocks) (ledger old) (ledger x)) (sym (unused (omega (arith, none)))) (writes_again (uses_nothing may) (uses_nothing may) (omega arith)))
    (cases_lt 0 filled)

-- one write more, of those of a piece
pub more_writes : (q r x : ℕ) → q ≤ r → x + q * x ≤ (1 + r) * x
more_writes q r x le =
    let k : ℕ = r - q in
    let e : r ≡ q + k = omega arith in
    rw e (omega arith)

-- the front of a piece and its rest
pub piece_sent : (message bytes : List ℕ) (n : ℕ) → n ≤ length bytes → (message ++ take n bytes) ++ take (length bytes - n) (drop n bytes) ≡ message ++ bytes
piece_sent message bytes n le = append_assoc message (take n bytes) (take (length bytes - n) (drop n bytes)) ∙ ap (λ (l : List ℕ). message ++ l) (two_parts n bytes)

-- a part of a block
pub part_outside : (last place limit : ℕ) (piece old new : List ℕ) → place ≡ place_of last → 0 < length piece → length piece < 4096 → Outside place (length piece) limit old new
    → Spares (part_block piece last) limit old new
part_outside last place limit piece old new at some few outside = record {
  kept = λ byte below apart. outside.kept byte below (narrower byte (apart last (omega (arith, ap (times last) (part_block_some piece last some), times_head last []))));
  no_shorter = outside.no_shorter;
}
  where
    narrower : (byte : ℕ) → Apart (place_of last) 4096 byte 1 → Apart place (length piece) byte 1
    narrower byte apart = ⊎_elim (λ before. inl (omega (arith, before, at))) (λ behind. inr (omega (arith, behind, at, few))) apart

-- the part was written
pub part_finished : (last place : ℕ) (piece was is : List ℕ) → place ≡ place_of last → 0 < length piece → length piece < 4096 → is ≡ written place piece (filled place was) → Finished last piece was is
part_finished last place piece was is at some few wrote = record {
  stands = λ any. ap (λ (k : ℕ). extent k (length piece) is) (sym at) ∙ ap (extent place (length piece)) wrote ∙ extent-written place piece (filled place was) (reaches place was);
  spared = part_outside last place (length was) piece was is at some few
      (subst (λ (l : List ℕ). Outside place (length piece) (length was) was l) (sym wrote) (written_outside place (length was) piece was (omega arith)));
}
  where
    reaches : (start : ℕ) (file : List ℕ) → start ≤ length (filled start file)
    reaches start file = omega (arith, length-append file (replicate {A = ℕ} (start - length file) 0), length-replicate {A = ℕ} (start - length file) 0)

-- there was no part
pub nothing_finished : (last : ℕ) (piece was is : List ℕ) → length piece ≡ 0 → is ≡ was → Finished last piece was is
nothing_finished last piece was is none same = record {
  stands = λ some. absurd (omega (arith, some, none));
  spared = subst (λ (l : List ℕ). Spares (part_block piece last) (length was) was l) (sym same) (spares_none (part_block piece last) (length was) was);
}

-- the whole object stands in its blocks
pub object_stands : {tells : Bool} {was is : List ℕ} {table : Table} {list : BlockList} {last : ℕ} {part message : List ℕ} (so_far : Stored tells was table list last part message) (piece : List ℕ)
    → IsTrue tells → piece ≡ so_far.rest → Finished last piece was is → bytes_at is (take (length message) (places (blocks_of table list))) ≡ message
object_stands {tells = tells} {was = was} {is = is} {table = table} {list = list} {last = last} {message = message} so_far piece told same done =
    let full = so_far.full in
    let rest = so_far.rest in
    let long : length (places full) ≡ length so_far.front = length-places full ∙ sym so_far.even in
    let whole : length (bytes_at was (places full)) ≡ length (places full) = ap length (so_far.stands told) ∙ sym long in
    let spared : Spares (part_block rest last) (length was) was is = subst (λ (l : List ℕ). Spares (part_block l last) (length was) was is) same done.spared in
    let still = spared_blocks (part_block rest last) full (length was) was is spared (λ block some. apart block some) (omega arith) whole in
    let size : length message ≡ length (places full) + length rest = ap length so_far.parts ∙ length-append so_far.front rest ∙ omega (arith, long) in
    ap (λ (l : List ℕ). bytes_at is (take (length message) (places l))) so_far.blocks
    ∙ ap (λ (l : List ℕ). bytes_at is (take (length message) l)) (places-append full (part_block rest last))
    ∙ ap (λ (k : ℕ). bytes_at is (take k (places full ++ places (part_block rest last)))) size
    ∙ ap (bytes_at is) (take-add (length (places full)) (length rest) (places full ++ places (part_block rest last))
    ∙ ap (λ (l : List ℕ). l ++ take (length rest) (drop (length (places full)) (places full ++ places (part_block rest last)))) (take_at (places full) (places (part_block rest last)) (length (places full)) refl)
    ∙ ap (λ (l : List ℕ). places full ++ take (length rest) l) (drop_at (places full) (places (part_block rest last)) (length (places full)) refl))
    ∙ bytes_at-append is (places full) (take (length rest) (places (part_block rest last))) (ap length still ∙ whole)
    ∙ ap (λ (l : List ℕ). l ++ bytes_at is (take (length rest) (places (part_block rest last)))) (still ∙ so_far.stands told)
    ∙ ap (λ (l : List ℕ). so_far.front ++ l) (part_read rest so_far.few (λ some. subst (λ (l : List ℕ). extent (place_of last) (length l) is ≡ l) same (done.stands (omega (arith, ap length same, some)))))
    ∙ sym so_far.parts
  where
    apart : (block : ℕ) → 0 < times block (part_block so_far.rest last) → times block so_far.full ≡ 0
    apart block some =
        let once : times block (blocks_of table list) ≤ 1 = so_far.own.sound.once block in
        omega (arith, some, once, ap (times block) so_far.blocks, times-append block so_far.full (part_block so_far.rest last))

    part_read : (rest : List ℕ) → length rest < 4096 → (0 < length rest → extent (place_of last) (length rest) is ≡ rest) → bytes_at is (take (length rest) (places (part_block rest last))) ≡ rest
    part_read [] few stands = bytes_at-nil is
    part_read (x ∷ xs) few stands =
        ap (λ (l : List ℕ). bytes_at is (take (length (x ∷ xs)) l)) (places-single last)
        ∙ ap (bytes_at is) (take-ascending (length (x ∷ xs)) (place_of last) 4096 (omega (arith, few)))
        ∙ bytes_at-ascending is (place_of last) (length (x ∷ xs)) ∙ stands (omega arith)

pub part_block_listed : {tells : Bool} {file : List ℕ} {table : Table} {list : BlockList} {last : ℕ} {part message : List ℕ} (so_far : Stored tells file table list last part message)
    → (block : ℕ) → 0 < times block (part_block so_far.rest last) → 0 < times block (blocks_of table list)
part_block_listed {last = last} so_far block some = omega (arith, some, ap (times block) so_far.blocks, times-append block so_far.full (part_block so_far.rest last))

pub part_end_some : (piece : List ℕ) (last : ℕ) → 0 < length piece → place_of last + length piece ≡ part_end piece last
part_end_some [] last some = absurd (omega arith)
part_end_some (x ∷ xs) last some = refl
