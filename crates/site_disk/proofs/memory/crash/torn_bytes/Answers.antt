use Rattle.site_disk.proofs.Replays.{call_end-le, no_gap_next, whole_more, torn_more}
use Rattle.site_disk.proofs.memory.crash.torn_bytes.Goals as goal

pub replay-requires-clause-there : goal.replay-requires-clause-there
replay-requires-clause-there c = call_end-le c.args.calls.now c.loop-i.i _ _ c.loop-i-test.true c.requires.there

pub replay-requires-clause-no_gap : goal.replay-requires-clause-no_gap
replay-requires-clause-no_gap c =
    no_gap_next c.args.start.now c.args.pieces.now c.loop-i.whole.items c.args.calls.now c.loop-i.i _ c.loop-i.invariant.whole_is c.requires.in_order c.loop-i-test.true

pub loop-i-preserved : goal.loop-i-preserved
loop-i-preserved c =
    let before = c.loop-i.invariant in
    let done = c.in_ok-replay.ensures in
    record {
      whole_is = whole_more c.args.start.now c.args.pieces.now c.loop-i.whole.items c.replay.new.whole.items c.loop-i.torn.items c.replay.new.torn.items
          c.args.calls.now c.loop-i.i _ c.loop-i-test.true before.whole_is before.torn_is done.whole done.torn;
      torn_is = torn_more c.args.start.now c.args.pieces.now c.loop-i.whole.items c.replay.new.whole.items c.loop-i.torn.items c.replay.new.torn.items
          c.args.calls.now c.loop-i.i _ c.loop-i-test.true before.whole_is before.torn_is done.whole done.torn;
    }
