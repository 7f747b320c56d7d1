use Rattle.std.proofs.Common.{◌≡◌, ◌≢◌, length, take, map, sym, ap, ◌∙◌, get_or-set_other, arith}
use Rattle.std.proofs.Math.Seq.{take-length}
use Rattle.std.specs.Mem.Slots.{slots_items, slots_counts}
use Rattle.stream_board.specs.Views.{fresh}
use Rattle.stream_board.specs.Between.{values_of}
use Rattle.stream_board.proofs.BetweenRuns.{only_view}
use Rattle.stream_board.proofs.Ends.{closes, jobs_are, took_one, emptied}
use Rattle.stream_board.proofs.board.Board.close.Goals as goal

pub loop-i-preserved : goal.loop-i-preserved
loop-i-preserved g c =
    let loop = c.loop-i.invariant in
    let took = c.take-job.ensures in
    let pushed = c.push_reserved.ensures in
    record {
      len = took.others.2 ∙ loop.len;
      items = took.others.0 ∙ loop.items;
      left = λ k after below. let ne : k ≢ c.loop-i.i = omega arith in rw (took.others.1, get_or-set_other) (loop.left k (omega arith) (omega (arith, took.others.2)));
      taken = λ k below. rw took.others.1 (emptied _ c.loop-i.i loop.taken k below);
      room = omega (arith, loop.room, pushed.capacity);
      counted = omega (arith, pushed.len, loop.counted);
      jobs = took_one c.loop-i.jobs.items c.push_reserved.new.self.items (slots_items c.loop-i.closed.slots) (slots_items c.close_with-closed.result.slots) c.loop-i.i c.take-job.result loop.items took.value loop.jobs pushed.items;
    }

pub returns : goal.returns
returns g c =
    let loop = c.loop-i.invariant in
    let closed = c.close_with-closed.ensures in
    let board = c.self.invariant in
    let values = values_of c.self.inside.seat.views in
    let slots = slots_items c.close_with-closed.result.slots in
    let counts = slots_counts c.close_with-closed.result.slots in
    let long : length slots ≡ length values = sym counts.0 ∙ closed.counts.1 ∙ board.counted in
    let is = only_view c.self.inside.seat.views c.into_seat.result.me.0 (fresh board.round 16 values) c.into_seat.ensures.2 board.idle in
    let ended : c.loop-i.i ≡ length slots = omega (arith, c.loop-i-test.false, c.loop-i.auto.i-end, c.slot_count-i-end.ensures, counts.0) in
    let whole : take c.loop-i.i slots ≡ slots = ap (λ k. take k slots) ended ∙ take-length slots in
    loop.jobs ∙ ap (map (λ s. s.job)) whole
    ∙ jobs_are slots values long (closes c.into_seat.result.id board.round c.into_seat.result.me.0 values _ slots is closed.values.2) ∙ c.self.view_is
