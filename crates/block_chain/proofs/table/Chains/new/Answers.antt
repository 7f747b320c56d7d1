use Rattle.std.proofs.Common.{◌≡◌, ℕ, ◌+◌, ◌++◌, [], List, None, Vec, Global, get_or, take, drop, length, ap, sym, subst, ◌∙◌, arith}
use Rattle.std.specs.Vec.{with_items}
use Rattle.std.proofs.lemmas.List.{append_assoc, take_all, take_more, with_items_is}
use Rattle.std.proofs.lemmas.List.Elements.{All-from_recursion}
use Rattle.std.proofs.lemmas.Result.{err_from_is_err_and}
use Rattle.block_chain.specs.Blocks.{blocks_of_runs, blocks_of_lists}
use Rattle.block_chain.specs.Table.{AreListed}
use Rattle.block_chain.specs.Layout.{table_of}
use Rattle.block_chain.specs.Placing.{AreLinked, ArePlaced, KeepsLinks, Explains}
use Rattle.block_chain.specs.declared.runs.Run.{Run}
use Rattle.block_chain.specs.declared.table.ChainFault.{ChainFault}
use Rattle.block_chain.specs.declared.table.ChainFault.TheVariants.{Overlap}
use Rattle.block_chain.proofs.PlaceLemmas.{Explains-more}
use Rattle.block_chain.proofs.OpenLemmas.{IsOpened, no_list, opened_sound, opened_laid_out, opened_free, each_listed, each_linked_more, ArePartition-others, blocks_of_lists-split, blocks_of_lists-take}
use Rattle.block_chain.proofs.table.Chains.new.Goals as goal

pub returns-in_err-place_list-clause-overlap : goal.returns-in_err-place_list-clause-overlap
returns-in_err-place_list-clause-overlap c block named =
    let p = err_from_is_err_and c.from_residual-in_err-place_list.result c.from_residual-in_err-place_list.ensures.1 in
    let live : List (Vec Run Global) = c.args.live.now in
    let i : ℕ = c.loop-runs.runs-index in
    let done : List ℕ = blocks_of_lists (take i live) in
    let own : List ℕ = blocks_of_runs c.deref.result.now in
    let rest : List ℕ = blocks_of_lists (drop (i + 1) live) in
    let item : (get_or live i c.runs-item.result).items ≡ c.deref.result.now = ap (λ (runs : Vec Run Global). runs.items) (sym c.runs-item.is) ∙ sym c.deref.ensures.value in
    let whole : (done ++ own) ++ rest ≡ blocks_of_lists live
    = append_assoc done own rest ∙ ap (λ (rs : List Run). done ++ (blocks_of_runs rs ++ rest)) (sym item) ∙ sym (blocks_of_lists-split live i c.runs-item.result c.loop-runs-test.true) in
    let is : c.in_err-place_list.field-0.0 ≡ Overlap block = cc (p.1, p.2) in
    let why : Explains c.args.blocks ((done ++ own) ++ rest) c.in_err-place_list.field-0.0
    = Explains-more c.args.blocks (done ++ own) rest c.in_err-place_list.field-0.0 (c.in_err-place_list.ensures.placed done c.loop-runs.invariant.placed) in
    let at_block : Explains c.args.blocks ((done ++ own) ++ rest) (Overlap block) = subst (λ (fault : ChainFault). Explains c.args.blocks ((done ++ own) ++ rest) fault) is why in
    subst (λ (xs : List ℕ). Explains c.args.blocks xs (Overlap block)) whole at_block

pub loop-runs-preserved : goal.loop-runs-preserved
loop-runs-preserved c =
    let live : List (Vec Run Global) = c.args.live.now in
    let i : ℕ = c.loop-runs.runs-index in
    let done : List ℕ = blocks_of_lists (take i live) in
    let same : get_or live i c.runs-item.result ≡ c.runs-item.result = sym c.runs-item.is in
    let more : blocks_of_lists (take (i + 1) live) ≡ done ++ blocks_of_runs c.deref.result.now
    = blocks_of_lists-take live i c.runs-item.result c.loop-runs-test.true ∙ ap (λ (runs : Vec Run Global). done ++ blocks_of_runs runs.items) same ∙ ap (λ (rs : List Run). done ++ blocks_of_runs rs) (sym c.deref.ensures.value) in
    let step : ArePlaced c.args.blocks c.place_list.new.next.items (done ++ blocks_of_runs c.deref.result.now) [] None × KeepsLinks c.loop-runs.next.items c.place_list.new.next.items done
    = c.in_ok-place_list.ensures.placed done c.loop-runs.invariant.placed in
    let linked : AreLinked c.place_list.new.next.items (blocks_of_runs c.runs-item.result.items)
    = subst (λ (rs : List Run). AreLinked c.place_list.new.next.items (blocks_of_runs rs)) c.deref.ensures.value (c.in_ok-place_list.ensures.linked done c.loop-runs.invariant.placed) in
    record {
      room = c.place_list.ensures.room;
      filled = c.place_list.ensures.filled;
      placed = rw more step.0;
      linked = rw (take_more live i c.runs-item.result c.loop-runs-test.true, same)
          (each_linked_more c.loop-runs.next.items c.place_list.new.next.items (take i live) c.runs-item.result step.1 linked c.loop-runs.invariant.linked);
    }

opened : (c : goal.After-empty) → IsOpened c.args.blocks c.loop-runs.next.cap (blocks_of_lists c.args.live.now) c.loop-runs.next.items c.link_holes-holes.new.next c.link_holes-holes.result
opened c = record {
  limit = c.ranges.blocks.fits;
  room = c.loop-runs.invariant.room;
  filled = omega (arith, c.loop-runs.invariant.filled, c.loop-runs.next.ok.0);
  same_length = c.link_holes-holes.auto.next ∙ ap (λ (xs : List ℕ). length xs) c.deref_mut.ensures.value;
  live = rw (take_all c.loop-runs.runs-index c.args.live.now c.loop-runs-test.false) at c.loop-runs.invariant.placed;
  chained = c.link_holes-holes.ensures.chain;
  list = rw c.deref_mut.ensures.value at c.link_holes-holes.ensures.holes;
  kept = rw c.deref_mut.ensures.value at c.link_holes-holes.ensures.others;
}

written : (c : goal.After-empty) → (with_items c.loop-runs.next c.link_holes-holes.new.next).items ≡ c.link_holes-holes.new.next
written c = with_items_is c.loop-runs.next c.link_holes-holes.new.next (omega (arith, c.link_holes-holes.auto.next, c.deref_mut.ensures.len))

pub invariant_of-result : goal.invariant_of-result
invariant_of-result c = rw (written c, c.empty.ensures) (opened_laid_out (opened c))

pub returns-clause-free : goal.returns-clause-free
returns-clause-free c = rw (written c, c.empty.ensures) (opened_free (opened c))

pub returns-clause-listed : goal.returns-clause-listed
returns-clause-listed c = rw (written c, c.empty.ensures)
    (All-from_recursion (λ (runs : Vec Run Global). AreListed (table_of c.args.blocks c.link_holes-holes.new.next c.link_holes-holes.result no_list) (blocks_of_runs runs.items)) c.args.live.now
    (each_listed (opened c) c.args.live.now (λ b. omega arith) (rw (take_all c.loop-runs.runs-index c.args.live.now c.loop-runs-test.false) at c.loop-runs.invariant.linked)))

pub returns-clause-parted : goal.returns-clause-parted
returns-clause-parted c = rw (written c, c.empty.ensures, opened_free (opened c)) (ArePartition-others c.args.blocks (blocks_of_lists c.args.live.now) (opened_sound (opened c)))
