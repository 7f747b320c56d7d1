use Rattle.std.proofs.Common.{◌≡◌, ℕ, ◌<◌, ◌≤◌, false, slice_index_or, take, map, vec_len, vec_capacity}
use Rattle.std.specs.Mem.Slots.{slots_items, slots_filled, slots_len}
use Rattle.std.specs.Mem.Slots.Ownership.{Filled}
use Rattle.stream_board.proofs.board.Board.close.Given as goal

abbrev pub invariant-loop-i : goal.invariant-loop-i
invariant-loop-i g l = record {
  len : slots_len l.closed.slots ≡ slots_len l.initial.closed.slots;
  items : slots_items l.closed.slots ≡ slots_items l.initial.closed.slots;
  left : Filled (slots_filled l.closed.slots) l.i (slots_len l.closed.slots);
  taken : (k : ℕ) → k < l.i → slice_index_or (slots_filled l.closed.slots) k false ≡ false;
  room : slots_len l.initial.closed.slots ≤ vec_capacity l.jobs;
  counted : vec_len l.jobs ≡ l.i;
  jobs : l.jobs.items ≡ map (λ s. s.job) (take l.i (slots_items l.initial.closed.slots));
}
