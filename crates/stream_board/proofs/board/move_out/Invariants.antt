use Rattle.std.proofs.Common.{◌≡◌, ◌+◌, ◌≤◌, ◌++◌, map, reverse, vec_len, vec_capacity}
use Rattle.stream_board.specs.Views.{counted}
use Rattle.stream_board.proofs.board.move_out.Given as goal

abbrev pub invariant-loop-job : goal.invariant-loop-job
invariant-loop-job g l = record {
  room : vec_len l.slots + vec_len l.jobs ≤ vec_capacity l.slots;
  capacity : vec_capacity l.jobs ≡ vec_capacity l.initial.jobs;
  moved : map (λ x. counted x 0) l.jobs.items ++ reverse l.slots.items ≡ map (λ x. counted x 0) l.initial.jobs.items;
}

abbrev pub decreases-loop-job : goal.decreases-loop-job
decreases-loop-job g l = vec_len l.jobs
