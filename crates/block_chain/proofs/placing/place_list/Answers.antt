use Rattle.std.proofs.Common.{◌≡◌, ℕ, ◌+◌, ◌++◌, List, get_or, take, drop}
use Rattle.std.proofs.lemmas.List.{take_all, append_assoc}
use Rattle.std.proofs.lemmas.Result.{err_from_is_err_and}
use Rattle.block_chain.specs.Blocks.{ascending, blocks_of_runs}
use Rattle.block_chain.specs.Placing.{PlacesMore}
use Rattle.block_chain.specs.declared.runs.Run.{Run}
use Rattle.block_chain.proofs.RunLemmas.{blocks_of_runs-split, blocks_of_runs-take}
use Rattle.block_chain.proofs.PlaceLemmas.{PlacesMore-then, PlacesMore-done, Explains-more}
use Rattle.block_chain.proofs.placing.place_list.Goals as goal

pub returns-in_err-last-clause-placed : goal.returns-in_err-last-clause-placed
returns-in_err-last-clause-placed c done are =
    let p = err_from_is_err_and c.from_residual.result c.from_residual.ensures.1 in
    let runs : List Run = c.args.runs.now in
    let i : ℕ = c.loop-run.run-index in
    let none : Run = record { first = 0; count = 0 } in
    let own : List ℕ = blocks_of_runs (take i runs) in
    let more : List ℕ = ascending (get_or runs i none).first (get_or runs i none).count in
    let rest : List ℕ = blocks_of_runs (drop (i + 1) runs) in
    let whole : done ++ (own ++ (more ++ rest)) ≡ (done ++ (own ++ more)) ++ rest = simp append_assoc in
    rw (p.1, p.2, blocks_of_runs-split runs i none c.loop-run-test.true, whole)
    (Explains-more c.args.blocks (done ++ (own ++ more)) rest _ (c.in_err-last.ensures.placed done own (c.loop-run.invariant.placed done are).placed))

pub loop-run-preserved : goal.loop-run-preserved
loop-run-preserved c = record {
  room = c.place_run.ensures.room;
  filled = c.place_run.ensures.filled;
  marked = c.in_ok-last.ensures.last;
  placed = λ done are.
      let before : PlacesMore c.args.blocks c.args.next.now.items c.loop-run.next.items done (blocks_of_runs (take c.loop-run.run-index c.args.runs.now)) c.loop-run.last = c.loop-run.invariant.placed done are in
      rw (blocks_of_runs-take c.args.runs.now c.loop-run.run-index (record { first = 0; count = 0 }) c.loop-run-test.true)
      (PlacesMore-then c.args.blocks c.args.next.now.items c.loop-run.next.items c.place_run.new.next.items done (blocks_of_runs (take c.loop-run.run-index c.args.runs.now)) _ c.loop-run.last c.in_ok-last.last before
      (c.in_ok-last.ensures.placed done (blocks_of_runs (take c.loop-run.run-index c.args.runs.now)) before.placed));
}

pub returns-clause-placed : goal.returns-clause-placed
returns-clause-placed c done are =
    let all : take c.loop-run.run-index c.args.runs.now ≡ c.args.runs.now = take_all c.loop-run.run-index c.args.runs.now c.loop-run-test.false in
    let more : PlacesMore c.args.blocks c.args.next.now.items c.loop-run.next.items done (blocks_of_runs c.args.runs.now) c.loop-run.last = rw all at (c.loop-run.invariant.placed done are) in
    (PlacesMore-done c.args.blocks c.args.next.now.items c.loop-run.next.items done (blocks_of_runs c.args.runs.now) c.loop-run.last more, more.kept)
