use Rattle.std.proofs.Common.{ℕ, ◌+◌, ◌++◌, List, get_or, take, drop, arith, ap}
use Rattle.std.proofs.lemmas.List.{take_all}
use Rattle.block_chain.specs.Blocks.{AreSound, ascending, blocks_of_runs}
use Rattle.block_chain.specs.Table.{Table}
use Rattle.block_chain.specs.declared.runs.Run.{Run}
use Rattle.block_chain.specs.RunLaws.{run_fits}
use Rattle.block_chain.proofs.RunLemmas.{listed_sound, blocks_of_runs-split, blocks_of_runs-take, len_fits, Spans-joined, Spans-run, blocks_of-spanned, IsListOf-spanned}
use Rattle.block_chain.proofs.table.Chains.list_of.Goals as goal

pub as_list-requires : goal.as_list-requires
as_list-requires c some =
    let runs : List Run = c.args.runs.now in
    let i : ℕ = c.loop-run.run-index in
    let none : Run = record { first = 0; count = 0 } in
    let sound : AreSound c.args.self.now.blocks (blocks_of_runs (take i runs) ++ (ascending (get_or runs i none).first (get_or runs i none).count ++ blocks_of_runs (drop (i + 1) runs)))
    = rw (blocks_of_runs-split runs i none c.loop-run-test.true) at (listed_sound c.args.self.now (blocks_of_runs runs) c.requires.listed) in
    omega (arith, run_fits c.args.self.now.blocks (get_or runs i none).first (get_or runs i none).count (blocks_of_runs (take i runs)) (blocks_of_runs (drop (i + 1) runs)) sound some, ap (λ (t : Table). t.blocks) c.self.view_is)

pub join-requires : goal.join-requires
join-requires c =
    let runs : List Run = c.args.runs.now in
    let i : ℕ = c.loop-run.run-index in
    let none : Run = record { first = 0; count = 0 } in
    let sound : AreSound c.args.self.now.blocks (blocks_of_runs (take i runs) ++ (ascending (get_or runs i none).first (get_or runs i none).count ++ blocks_of_runs (drop (i + 1) runs)))
    = rw (blocks_of_runs-split runs i none c.loop-run-test.true) at (listed_sound c.args.self.now (blocks_of_runs runs) c.requires.listed) in
    rw c.as_list.ensures (omega (arith, len_fits c.args.self.now.blocks (get_or runs i none).first (get_or runs i none).count (blocks_of_runs (take i runs)) (blocks_of_runs (drop (i + 1) runs)) sound, c.loop-run.invariant.len, ap (λ (t : Table). t.blocks) c.self.view_is))

pub loop-run-preserved : goal.loop-run-preserved
loop-run-preserved c =
    let runs : List Run = c.args.runs.now in
    let i : ℕ = c.loop-run.run-index in
    let none : Run = record { first = 0; count = 0 } in
    rw (blocks_of_runs-take runs i none c.loop-run-test.true, c.join.ensures, c.as_list.ensures)
    (Spans-joined c.loop-run.list _ (blocks_of_runs (take i runs)) _ c.loop-run.invariant (Spans-run (get_or runs i none)))

pub returns-clause-own : goal.returns-clause-own
returns-clause-own c = IsListOf-spanned c.args.self.now c.loop-run.list (blocks_of_runs c.args.runs.now) c.requires.listed (rw (take_all c.loop-run.run-index c.args.runs.now c.loop-run-test.false) at c.loop-run.invariant)

pub returns-clause-list : goal.returns-clause-list
returns-clause-list c = blocks_of-spanned c.args.self.now c.loop-run.list (blocks_of_runs c.args.runs.now) c.requires.listed (rw (take_all c.loop-run.run-index c.args.runs.now c.loop-run-test.false) at c.loop-run.invariant)
