use Rattle.std.proofs.Common.{◌≡◌, ◌-◌, length}
use Rattle.stream_board.specs.Work.{IsWorker}
use Rattle.stream_board.proofs.worker.work.Given as goal

abbrev pub invariant-loop : goal.invariant-loop
invariant-loop g l = record {
  own : l.mine.table_id ≡ l.initial.mine.table_id;
  worker : IsWorker g.F.Fn l.f l.initial.mine.me.0.round l.initial.mine.me.0.shares l.initial.mine.me.0.start l.mine.me;
  no_miss : l.mine.me.0.misses ≡ l.initial.mine.me.0.misses;
}

abbrev pub decreases-loop : goal.decreases-loop
decreases-loop g l = l.count - length l.mine.me.0.runs
