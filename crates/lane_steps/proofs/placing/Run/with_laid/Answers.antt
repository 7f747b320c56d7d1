use Rattle.std.proofs.Common.{◌+◌, ◌++◌, ◌≤◌, ◌∙◌, ℕ, List, arith, drop, length, map, subst, sym}
use Rattle.std.proofs.Math.ListN.{drop_of_length-le}
use Rattle.std.proofs.lemmas.List.{length-map}
use Rattle.log_history.specs.Effects.{Change}
use Rattle.txn_table.specs.Table.{change_of}
use Rattle.lane_ways.specs.ListLaws.{Rises}
use Rattle.lane_steps.specs.Choices.{own}
use Rattle.lane_steps.specs.declared.placing.Run.{Run}
use Rattle.lane_steps.proofs.RunLemmas.{RunsSoFar, onward_passed, onward_taken, run_passed, run_taken}
use Rattle.lane_steps.proofs.placing.Run.with_laid.Goals as goal
use Rattle.lane_steps.proofs.placing.Run.with_laid.Goals.{then-is_own, else-is_own}

pub loop-change-preserved : goal.loop-change-preserved
loop-change-preserved c =
    let i = c.loop-change.change-index in
    let list = map change_of c.args.changes.now in
    let lt = c.loop-change-test.true in
    let is = c.change-item.is in
    let change = c.change-item.result in
    let low = c.loop-change.run.commit in
    record {
      run = λ from laid run rises few.
          let all = laid ++ own c.args.space c.args.count list in
          let so_far = c.loop-change.invariant.run from laid run rises few in
          let goes = λ (r : Run). RunsSoFar from c.args.space c.args.count all (drop (i + 1) list) r.commit r.count r.whole in
          elim c.if-is_own.branch [
            | then-is_own w ↦ subst goes (sym w.run-is)
                (run_taken from c.args.space c.args.count c.args.changes.now i change lt is all few low c.loop-change.run.count c.loop-change.run.whole so_far
                w.and_one-run.result.commit w.and_one-run.result.count w.and_one-run.result.whole (sym c.is_own.ensures ∙ w.if-is_own.true) w.and_one-run.ensures.commit
                (λ same. w.and_one-run.ensures.same (sym w.and_one-run.ensures.commit ∙ same)) (λ differs. w.and_one-run.ensures.other (λ same. differs (w.and_one-run.ensures.commit ∙ same)))
                (λ same. w.and_one-run.ensures.same_whole (sym w.and_one-run.ensures.commit ∙ same)) (λ differs. w.and_one-run.ensures.other_whole (λ same. differs (w.and_one-run.ensures.commit ∙ same))))
            | else-is_own w ↦ subst goes (sym w.run-is)
                (run_passed from c.args.space c.args.count c.args.changes.now i change lt is all few low c.loop-change.run.count c.loop-change.run.whole so_far
                (sym c.is_own.ensures ∙ w.if-is_own.false))
          ];
      onward = λ rest rises.
          let goes = λ (r : Run). Rises r.commit (drop (i + 1) list ++ rest) in
          elim c.if-is_own.branch [
            | then-is_own w ↦ subst goes (sym w.run-is)
                (onward_taken c.args.changes.now i change lt is low w.and_one-run.result.commit rest w.and_one-run.ensures.commit (c.loop-change.invariant.onward rest rises))
            | else-is_own w ↦ subst goes (sym w.run-is) (onward_passed c.args.changes.now i change lt is low rest (c.loop-change.invariant.onward rest rises))
          ];
    }

pub returns-clause-onward : goal.returns-clause-onward
returns-clause-onward c rest rises =
    let list = map change_of c.args.changes.now in
    let i : ℕ = c.loop-change.change-index in
    let le : length list ≤ i = omega (arith, length-map c.args.changes.now change_of, c.loop-change-test.false) in
    subst (λ (l : List Change). Rises c.loop-change.run.commit (l ++ rest)) (drop_of_length-le list le) (c.loop-change.invariant.onward rest rises)
