-- Whole blocks of a piece on their way to the volume.
use Rattle.std.proofs.Common.{◌≡◌, ℕ, ◌+◌, ◌-◌, ◌*◌, ◌^◌, ◌<◌, ◌≤◌, Bool, IsTrue, List, [], ◌∷◌, ◌++◌, length, take, drop, max, replicate, arith, ap, sym, ◌∙◌, subst, length-append}
use Rattle.std.proofs.lemmas.List.{append-nil, length-take, length-drop, length-replicate}
use Rattle.std.proofs.Math.Seq.{take-add}
use Rattle.std.specs.Prelude.{Result, Ok, Err, OnOk}
use Rattle.site_disk.specs.Bytes.{extent, written, filled}
use Rattle.site_disk.specs.BytesLaws.{extent-written}
use Rattle.site_disk.specs.ImagesLaws.{goes_on}
use Rattle.block_chain.specs.Blocks.{AreApart}
use Rattle.block_chain.specs.BlocksLaws.{ascending-append, times-append}
use Rattle.block_chain.specs.Table.{blocks_of, IsListOf}
use Rattle.site_disk.specs.Images.{Leaves}
use Rattle.site_disk.specs.Ledger.{Ledger, EraView, Uses}
use Rattle.block_chain.specs.Blocks.{times, ascending}
use Rattle.block_chain.specs.Table.{Table}
use Rattle.block_chain.specs.declared.lists.BlockList.{BlockList}
use Rattle.object_volume.specs.Objects.{place_of, places, bytes_at, Spares, Outside}
use Rattle.object_volume.specs.ObjectsLaws.{places-append, places-cons, places-nil, length-places, bytes_at-ascending, bytes_at-append, bytes_at-nil, spares_none, spares_again, spares_less, spared_blocks}
use Rattle.object_volume.proofs.OutsideLemmas.{written_outside, outside_spares, writes_again, length-wrote}
use Rattle.object_volume.proofs.TakingLemmas.{taken_free, takes_nothing}
use Rattle.object_volume.specs.Taking.{Takes, PutsBlocks}

-- blocks were taken for the front of a piece; those of it were written but for the last run, whose blocks are neighbours
pub record Putting {D : Type 0} (tells : Bool) (bytes : D → List ℕ) (image : D → ℕ → List ℕ → Type 0) (ledger : D → Ledger) (era : EraView)
    (piece : List ℕ) (old now : Table) (before after : BlockList) (start from at reached : ℕ) (was is : D) : Type 0 where
  pub done : List ℕ
  pub run : List ℕ
  pub takes : Takes old now before after (done ++ run)
  pub first : from ≡ 4096 * length done
  pub upto : at ≡ 4096 * (length done + length run)
  pub some : 1 ≤ length run
  pub within : at ≤ length piece
  pub low : start ≤ 4096 * 2 ^ 32
  pub before_end : start + (at - from) ≤ place_of old.blocks
  pub neighbours : places run ≡ ascending start (at - from)
  pub stands : IsTrue tells → bytes_at (bytes is) (places done) ≡ take from piece
  pub spared : IsTrue tells → Spares done (length (bytes was)) (bytes was) (bytes is)
  pub crash : IsTrue tells → Leaves era.number (Spares old.free (length (bytes was))) (image was) (image is)
  pub uses : Uses era 0 (length done * place_of old.blocks) (ledger was) (ledger is)
  pub reaches : IsTrue tells → reached ≤ length (bytes is)
  pub grown : IsTrue tells → (ledger is).written ≤ (ledger was).written + from + (length (bytes is) - length (bytes was))
  pub ends : IsTrue tells → length (bytes is) ≤ max (length (bytes was)) (place_of old.blocks)

-- so many writes and one more, each of at most so many bytes
pub times_room : (d r q x y : ℕ) → 1 ≤ r → d + r ≤ q → y ≤ x → d * x + y ≤ q * x
times_room d r q x y some le few =
    let k : ℕ = q - d - 1 in
    let e : q ≡ d + 1 + k = omega arith in
    rw e (omega arith)

pub length-both : (xs ys : List ℕ) → length (xs ++ ys) ≡ length xs + length ys
length-both xs ys = length-append xs ys

-- one neighbouring block more
pub neighbours_more : (run : List ℕ) (block start n : ℕ) → places run ≡ ascending start n → place_of block ≡ start + n
    → places (run ++ block ∷ []) ≡ ascending start (n + 4096)
neighbours_more run block start n are next =
    places-append run (block ∷ [])
    ∙ ap (λ (l : List ℕ). l ++ places (block ∷ [])) are
    ∙ ap (λ (l : List ℕ). ascending start n ++ l) (one_place block ∙ ap (λ (k : ℕ). ascending k 4096) next)
    ∙ sym (ascending-append start n 4096)
  where
    one_place : (block : ℕ) → places (block ∷ []) ≡ ascending (place_of block) 4096
    one_place block = places-cons block [] ∙ ap (λ (l : List ℕ). ascending (place_of block) 4096 ++ l) places-nil ∙ append-nil (ascending (place_of block) 4096)

pub places-single : (block : ℕ) → places (block ∷ []) ≡ ascending (place_of block) 4096
places-single block = places-cons block [] ∙ ap (λ (l : List ℕ). ascending (place_of block) 4096 ++ l) places-nil ∙ append-nil (ascending (place_of block) 4096)

-- what a run of blocks leaves that is written from one place of a piece up to another
module _ (piece is new done run slice : List ℕ) (start from at : ℕ) (first : from ≡ 4096 * length done) (upto : at ≡ 4096 * (length done + length run)) (within : at ≤ length piece)
    (neighbours : places run ≡ ascending start (at - from)) (cut : slice ≡ take (at - from) (drop from piece)) where
  pub length-slice : length slice ≡ at - from
  length-slice = ap length cut ∙ omega (arith, length-take (at - from) (drop from piece), length-drop from piece)

  pub run_spares : (limit : ℕ) (own d b : List ℕ) → ((block : ℕ) → 0 < times block run → 0 < times block own) → Outside start (length slice) limit d b → Spares own limit d b
  run_spares limit own d b among outside = outside_spares start (at - from) limit run own d b neighbours among (subst (λ (n : ℕ). Outside start n limit d b) length-slice outside)

  pub run_written : new ≡ written start slice (filled start is) → Spares run (length is) is new
  run_written wrote = run_spares (length is) run is new (λ block some. some)
      (subst (λ (l : List ℕ). Outside start (length slice) (length is) is l) (sym wrote) (written_outside start (length is) slice is (omega arith)))

  -- with it the front of the piece stands in the blocks
  pub run_stands : new ≡ written start slice (filled start is) → AreApart run done → bytes_at is (places done) ≡ take from piece → bytes_at new (places (done ++ run)) ≡ take at piece
  run_stands wrote apart stood =
      let long : length (take from piece) ≡ from = omega (arith, length-take from piece) in
      let whole : length (bytes_at is (places done)) ≡ length (places done) = ap length stood ∙ long ∙ first ∙ sym (length-places done) in
      let kept : bytes_at new (places done) ≡ bytes_at is (places done) = spared_blocks run done (length is) is new (run_written wrote) apart (omega arith) whole in
      let sum : from + (at - from) ≡ at = omega (arith, first, upto) in
      let here : bytes_at new (places run) ≡ slice =
      ap (bytes_at new) neighbours ∙ bytes_at-ascending new start (at - from)
      ∙ ap (λ (k : ℕ). extent start k new) (sym length-slice) ∙ ap (λ (l : List ℕ). extent start (length slice) l) wrote
      ∙ extent-written start slice (filled start is) (reaches start is) in
      ap (bytes_at new) (places-append done run)
      ∙ bytes_at-append new (places done) (places run) (ap length kept ∙ whole)
      ∙ ap (λ (l : List ℕ). l ++ bytes_at new (places run)) (kept ∙ stood)
      ∙ ap (λ (l : List ℕ). take from piece ++ l) (here ∙ cut)
      ∙ sym (take-add from (at - from) piece) ∙ ap (λ (k : ℕ). take k piece) sum
    where
      reaches : (start : ℕ) (file : List ℕ) → start ≤ length (filled start file)
      reaches start file = omega (arith, length-append file (replicate {A = ℕ} (start - length file) 0), length-replicate {A = ℕ} (start - length file) 0)

-- blocks that were taken one after another are distinct
pub runs_apart : (old new : Table) (before after : BlockList) (done run : List ℕ) → Takes old new before after (done ++ run) → AreApart run done
runs_apart old new before after done run takes block some =
    let once : times block (blocks_of new after) ≤ 1 = takes.own.sound.once block in
    omega (arith, some, once, ap (times block) takes.list, times-append block (blocks_of old before) (done ++ run), times-append block done run)

pub run_among : (done run : List ℕ) (block : ℕ) → 0 < times block run → 0 < times block (done ++ run)
run_among done run block some = omega (arith, some, times-append block done run)

pub done_among : (done run : List ℕ) (block : ℕ) → 0 < times block done → 0 < times block (done ++ run)
done_among done run block some = omega (arith, some, times-append block done run)

-- the images where a run is written after others
pub crash_more : (e limit longer start n : ℕ) (own : List ℕ) (was is new : ℕ → List ℕ → Type 0) → limit ≤ longer
    → ((d b : List ℕ) → Outside start n longer d b → Spares own longer d b)
    → Leaves e (Spares own limit) was is → Leaves e (Outside start n longer) is new → Leaves e (Spares own limit) was new
crash_more e limit longer start n own was is new le spares first second =
    goes_on (Spares own limit) (Outside start n longer) e was is new first second
    (λ f d b lt image outside. let from = first.later f d lt image in
    (from.0, from.1, spares_again own limit from.0 d b from.2 (spares_less own own longer limit d b (λ block some. some) le (spares d b outside))))

module _ {D : Type 0} {tells : Bool} {bytes : D → List ℕ} {image : D → ℕ → List ℕ → Type 0} {ledger : D → Ledger} {era : EraView} {piece : List ℕ} {old now : Table} {before after : BlockList}
    {start from at reached : ℕ} {was is : D} (so_far : Putting tells bytes image ledger era piece old now before after start from at reached was is) (new : D) (slice : List ℕ)
    (cut : slice ≡ take (at - from) (drop from piece)) where
  -- the pending run is written, or its write fails
  pub flushed_crash : IsTrue tells → (IsTrue tells → Leaves era.number (Outside start (length slice) (length (bytes is))) (image is) (image new))
      → Leaves era.number (Spares old.free (length (bytes was))) (image was) (image new)
  flushed_crash told crashed =
      crash_more era.number (length (bytes was)) (length (bytes is)) start (length slice) old.free (image was) (image is) (image new) (so_far.spared told).no_shorter
      (λ d b outside. run_spares piece (bytes is) (bytes new) so_far.done so_far.run slice start from at so_far.first so_far.upto so_far.within so_far.neighbours cut (length (bytes is)) old.free d b
      (λ block some. taken_free old now before after (so_far.done ++ so_far.run) so_far.takes block (run_among so_far.done so_far.run block some)) outside)
      (so_far.crash told) (crashed told)

  pub flushed_uses : (q : ℕ) → length so_far.done + length so_far.run ≤ q → Uses era 0 (start + length slice) (ledger is) (ledger new) → Uses era 0 (q * place_of old.blocks) (ledger was) (ledger new)
  flushed_uses q le used =
      let long = length-slice piece (bytes is) (bytes new) so_far.done so_far.run slice start from at so_far.first so_far.upto so_far.within so_far.neighbours cut in
      writes_again so_far.uses used
      (times_room (length so_far.done) (length so_far.run) q (place_of old.blocks) (start + length slice) so_far.some le (omega (arith, long, so_far.before_end)))

  pub flushed_bound : IsTrue tells → (ledger new).written ≤ (ledger is).written + ((start - length (bytes is)) + length slice)
      → (ledger new).written ≤ (ledger was).written + at + (place_of old.blocks - length (bytes was))
  flushed_bound told spent =
      let long = length-slice piece (bytes is) (bytes new) so_far.done so_far.run slice start from at so_far.first so_far.upto so_far.within so_far.neighbours cut in
      let longer = (so_far.spared told).no_shorter in
      omega (arith, so_far.grown told, so_far.ends told, spent, long, longer, so_far.before_end, so_far.first, so_far.upto)

  pub flushed_grown : IsTrue tells → bytes new ≡ written start slice (filled start (bytes is))
      → (ledger new).written ≤ (ledger is).written + ((start - length (bytes is)) + length slice)
      → (ledger new).written ≤ (ledger was).written + at + (length (bytes new) - length (bytes was))
  flushed_grown told wrote spent =
      let long = length-slice piece (bytes is) (bytes new) so_far.done so_far.run slice start from at so_far.first so_far.upto so_far.within so_far.neighbours cut in
      let longer = (so_far.spared told).no_shorter in
      let size = length-wrote start slice (bytes is) (bytes new) wrote in
      omega (arith, so_far.grown told, spent, size, long, longer, so_far.first, so_far.upto)

  pub flushed_ends : IsTrue tells → bytes new ≡ written start slice (filled start (bytes is)) → length (bytes new) ≤ max (length (bytes was)) (place_of old.blocks)
  flushed_ends told wrote =
      let long = length-slice piece (bytes is) (bytes new) so_far.done so_far.run slice start from at so_far.first so_far.upto so_far.within so_far.neighbours cut in
      omega (arith, so_far.ends told, length-wrote start slice (bytes is) (bytes new) wrote, long, so_far.before_end)

  pub flushed_spares : IsTrue tells → (IsTrue tells → bytes new ≡ written start slice (filled start (bytes is))) → Spares (so_far.done ++ so_far.run) (length (bytes was)) (bytes was) (bytes new)
  flushed_spares told wrote =
      let spared = so_far.spared told in
      let limit : ℕ = length (bytes was) in
      spares_again (so_far.done ++ so_far.run) limit (bytes was) (bytes is) (bytes new)
      (spares_less so_far.done (so_far.done ++ so_far.run) limit limit (bytes was) (bytes is) (done_among so_far.done so_far.run) (omega arith) spared)
      (spares_less so_far.run (so_far.done ++ so_far.run) (length (bytes is)) limit (bytes is) (bytes new) (run_among so_far.done so_far.run) spared.no_shorter
      (run_written piece (bytes is) (bytes new) so_far.done so_far.run slice start from at so_far.first so_far.upto so_far.within so_far.neighbours cut (wrote told)))

  pub flushed_stands : IsTrue tells → (IsTrue tells → bytes new ≡ written start slice (filled start (bytes is))) → bytes_at (bytes new) (places (so_far.done ++ so_far.run)) ≡ take at piece
  flushed_stands told wrote =
      run_stands piece (bytes is) (bytes new) so_far.done so_far.run slice start from at so_far.first so_far.upto so_far.within so_far.neighbours cut (wrote told)
      (runs_apart old now before after so_far.done so_far.run so_far.takes) (so_far.stands told)

  pub length-flushed : length (so_far.done ++ so_far.run) ≡ length so_far.done + length so_far.run
  length-flushed = length-append so_far.done so_far.run

-- the same at the places where two branches meet
pub putting_at : {D : Type 0} {tells : Bool} {bytes : D → List ℕ} {image : D → ℕ → List ℕ → Type 0} {ledger : D → Ledger} {era : EraView} {piece : List ℕ} {old now : Table} {before after : BlockList}
    {start from at reached : ℕ} {was is : D} (start' from' reached' : ℕ) (is' : D) → start' ≡ start → from' ≡ from → reached' ≡ reached → is' ≡ is
    → Putting tells bytes image ledger era piece old now before after start from at reached was is → Putting tells bytes image ledger era piece old now before after start' from' at reached' was is'
putting_at {tells = tells} {bytes = bytes} {image = image} {ledger = ledger} {era = era} {piece = piece} {old = old} {now = now} {before = before} {after = after} {start = start} {from = from} {at = at} {reached = reached} {was = was} {is = is} start' from' reached' is' e f r d p =
    subst (λ s. Putting tells bytes image ledger era piece old now before after s from' at reached' was is') (sym e)
    (subst (λ k. Putting tells bytes image ledger era piece old now before after start k at reached' was is') (sym f)
    (subst (λ k. Putting tells bytes image ledger era piece old now before after start from at k was is') (sym r)
    (subst (λ x. Putting tells bytes image ledger era piece old now before after start from at reached was x) (sym d) p)))

-- all of the piece was put where the last write went well
pub put_all : {T E : Type 0} (result : Result T E) (tells : Bool) {was is : List ℕ} {old new : Table} {before after : BlockList} {piece now : List ℕ} (taken : List ℕ) → Takes old new before after taken
    → length piece ≡ 4096 * length taken
    → (IsTrue tells → is ≡ now → bytes_at is (places taken) ≡ piece) → (IsTrue tells → is ≡ now → Spares taken (length was) was is)
    → (IsTrue tells → OnOk result (is ≡ now)) → OnOk result (PutsBlocks tells was is old new before after piece)
put_all (Ok x) tells taken takes even stands spared wrote = record {
  taken = taken;
  takes = takes;
  even = even;
  stands = λ told. stands told (wrote told);
  spared = λ told. spared told (wrote told);
}
put_all (Err e) tells taken takes even stands spared wrote = tt

-- a piece without bytes
pub puts_nothing : (tells : Bool) (file : List ℕ) (table : Table) (list : BlockList) (piece : List ℕ) → IsListOf table list → piece ≡ [] → PutsBlocks tells file file table table list list piece
puts_nothing tells file table list piece own none = record {
  taken = [];
  takes = takes_nothing table list own;
  even = ap length none;
  stands = λ told. ap (bytes_at file) places-nil ∙ bytes_at-nil file ∙ sym none;
  spared = λ told. spares_none [] (length file) file;
}
