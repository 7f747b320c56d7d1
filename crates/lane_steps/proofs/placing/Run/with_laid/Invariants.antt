use Rattle.std.proofs.Common.{◌<◌, ◌^◌, ◌++◌, ℕ, List, drop, length, map}
use Rattle.log_history.specs.Effects.{Change}
use Rattle.txn_table.specs.Table.{change_of}
use Rattle.lane_ways.specs.ListLaws.{Rises}
use Rattle.lane_steps.specs.Choices.{own}
use Rattle.lane_steps.specs.Runs.{IsRun}
use Rattle.lane_steps.proofs.RunLemmas.{RunsSoFar}
use Rattle.lane_steps.proofs.placing.Run.with_laid.Given as goal

abbrev pub invariant-loop-change : goal.invariant-loop-change
invariant-loop-change l = record {
  run : (from : ℕ) (laid : List Change) → IsRun from l.initial.run.commit l.initial.run.count l.initial.run.whole laid → Rises l.initial.run.commit (map change_of l.changes)
      → length (laid ++ own l.space l.count (map change_of l.changes)) < 2 ^ 32
      → RunsSoFar from l.space l.count (laid ++ own l.space l.count (map change_of l.changes)) (drop l.change-index (map change_of l.changes)) l.run.commit l.run.count l.run.whole;
  onward : (rest : List Change) → Rises l.initial.run.commit (map change_of l.changes ++ rest) → Rises l.run.commit (drop l.change-index (map change_of l.changes) ++ rest);
}
