use Rattle.std.proofs.Common.{vec_capacity}
use Rattle.stream_board.proofs.BetweenRuns.{can_spread, lies_again, each_changed}
use Rattle.stream_board.proofs.board.Board.run.Goals as goal

pub run_round-seat-requires-clause-spread : goal.run_round-seat-requires-clause-spread
run_round-seat-requires-clause-spread g c κs within =
    let seat = c.into_seat-seat.ensures in
    can_spread g.F.Fn c.args.f.now c.self.inside.table.shared.table_id c.self.inside.seat c.replace.result c.self.inside.room.items (vec_capacity c.self.inside.room) c.self.invariant c.replace.ensures.value
    c.into_seat-seat.result seat.0 seat.2 c.args.self.now c.self.view_is c.slot_count-count.result c.args.workers c.slot_count-count.ensures seat.3 c.requires.workers c.requires.accepts

pub invariant_of-self : goal.invariant_of-self
invariant_of-self g c =
    let seat = c.into_seat-seat.ensures in
    let ran = c.run_round-seat.ensures in
    lies_again g.F.Fn c.args.f.now c.self.inside.table.shared.table_id c.self.inside.seat c.replace.result c.self.inside.room.items (vec_capacity c.self.inside.room) c.self.invariant c.replace.ensures.value
    c.into_seat-seat.result seat.0 seat.2 c.args.self.now c.self.view_is c.run_round-seat.result ran.own ran.ran c.into_badge.result c.into_badge.ensures.0 c.into_badge.ensures.2

pub returns-clause-each : goal.returns-clause-each
returns-clause-each g c =
    let seat = c.into_seat-seat.ensures in
    let ran = c.run_round-seat.ensures in
    each_changed g.F.Fn c.args.f.now c.self.inside.table.shared.table_id c.self.inside.seat c.replace.result c.self.inside.room.items (vec_capacity c.self.inside.room) c.self.invariant c.replace.ensures.value
    c.into_seat-seat.result seat.0 seat.2 c.args.self.now c.self.view_is c.run_round-seat.result ran.own ran.ran c.into_badge.result c.into_badge.ensures.0 c.into_badge.ensures.2
