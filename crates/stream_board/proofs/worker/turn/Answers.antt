use Rattle.std.proofs.Common.{◌∙◌, arith}
use Rattle.stream_board.specs.Views.{counted}
use Rattle.stream_board.proofs.DrawFinish.{draws, finishes}
use Rattle.stream_board.proofs.Turns.{can_run, can_finish, has_run}
use Rattle.stream_board.proofs.worker.turn.Goals as goal

pub fetch_add-number-requires : goal.fetch_add-number-requires
fetch_add-number-requires g c =
    let w = c.requires.worker in
    (c.requires.own, omega (arith, c.requires.counts.0), draws c.args.table.now.table_id.slots c.args.worker.now.id c.args.worker.now.me w.0 w.2)

pub run_held-requires-clause-held : goal.run_held-requires-clause-held
run_held-requires-clause-held g c =
    let d = c.fetch_add-number.ensures.2.0 (omega (arith, c.if-number-count.false, c.requires.counts.1)) in
    can_run g.F.Fn c.args.f.now c.args.table.now.table_id.slots c.fetch_add-number.result c.args.worker.now.me c.fetch_add-number.new.seat.me d c.requires.worker.1 c.requires.accepts

pub fetch_add-requires : goal.fetch_add-requires
fetch_add-requires g c =
    let d = c.fetch_add-number.ensures.2.0 (omega (arith, c.if-number-count.false, c.requires.counts.1)) in
    let ready = can_finish g.F.Fn c.args.f.now c.args.table.now.table_id.slots c.fetch_add-number.result c.args.worker.now.me c.fetch_add-number.new.seat.me c.run_held.new.worker.me d c.requires.worker.1 c.run_held.ensures.ran in (
      c.run_held.ensures.own ∙ c.fetch_add-number.ensures.0 ∙ c.requires.own,
      omega (arith, c.requires.counts.0),
      finishes c.args.table.now.table_id.slots c.run_held.new.worker.id c.run_held.new.worker.me c.fetch_add-number.result (counted c.run_held.ensures.ran.value ready.rounds) ready.has ready.taken ready.of_round,
    )

pub returns-clause-none_held : goal.returns-clause-none_held
returns-clause-none_held g c =
    let d = c.fetch_add-number.ensures.2.0 (omega (arith, c.if-number-count.false, c.requires.counts.1)) in
    (has_run g.F.Fn c.args.f.now c.args.table.now.table_id.slots c.fetch_add-number.result c.args.worker.now.me c.fetch_add-number.new.seat.me c.run_held.new.worker.me d c.requires.worker.1 c.run_held.ensures.ran
    c.args.count c.fetch_add.new.seat.me c.requires.counts.1 c.fetch_add.ensures.2).0

pub returns-clause-turn : goal.returns-clause-turn
returns-clause-turn g c =
    let d = c.fetch_add-number.ensures.2.0 (omega (arith, c.if-number-count.false, c.requires.counts.1)) in
    (has_run g.F.Fn c.args.f.now c.args.table.now.table_id.slots c.fetch_add-number.result c.args.worker.now.me c.fetch_add-number.new.seat.me c.run_held.new.worker.me d c.requires.worker.1 c.run_held.ensures.ran
    c.args.count c.fetch_add.new.seat.me c.requires.counts.1 c.fetch_add.ensures.2).1
