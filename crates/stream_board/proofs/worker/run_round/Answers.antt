use Rattle.std.proofs.Common.{ap, ◌∙◌, arith}
use Rattle.stream_board.proofs.Calls.{runs_round}
use Rattle.stream_board.proofs.RestWake.{rests, wakes}
use Rattle.stream_board.proofs.worker.run_round.Goals as goal

pub store-requires : goal.store-requires
store-requires g c =
    let spread = c.spread-worker.ensures in (
      spread.own ∙ c.requires.spread.own,
      omega (arith, c.requires.spread.two_words),
      rests c.args.table.now.table_id.slots c.spread-worker.result.id c.spread-worker.result.me spread.worker.idle (spread.worker.has_shares ∙ c.requires.whole) spread.missed,
    )

pub store-requires-2 : goal.store-requires-2
store-requires-2 g c = (
  c.store.ensures.0 ∙ c.spread-worker.ensures.own ∙ c.requires.spread.own,
  omega (arith, c.requires.spread.two_words),
  wakes c.args.table.now.table_id.slots c.store.new.seat.id c.store.new.seat.me (ap (λ m. m.0.stage) c.store.ensures.2.0),
)

pub returns-clause-ran : goal.returns-clause-ran
returns-clause-ran g c =
    runs_round g.F.Fn c.args.f.now c.args.table.now.table_id.slots c.args.worker.me c.spread-worker.result.me c.store.new.seat.me c.store-2.new.seat.me
    c.spread-worker.ensures.worker c.store.ensures.2 c.store-2.ensures.2
