use Rattle.std.proofs.Common.{◌≡◌, ◌+◌, ◌≤◌, ◌++◌, map, reverse, vec_len, vec_capacity}
use Rattle.stream_board.proofs.board.move_back.Given as goal

abbrev pub invariant-loop-job : goal.invariant-loop-job
invariant-loop-job g l = record {
  room : vec_len l.jobs + vec_len l.slots ≤ vec_capacity l.jobs;
  moved : map (λ s. s.job) l.slots.items ++ reverse l.jobs.items ≡ map (λ s. s.job) l.initial.slots.items;
}

abbrev pub decreases-loop-job : goal.decreases-loop-job
decreases-loop-job g l = vec_len l.slots
