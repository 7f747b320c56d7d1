use Rattle.std.proofs.Common.{rules, ◌≤◌, length, map, sym, ap, ◌∙◌, arith, vec_capacity}
use lib.ListN.{length-map}
use Rattle.stream_board.specs.Views.{counted}
use Rattle.stream_board.proofs.BetweenRuns.{between}
use Rattle.stream_board.proofs.Ends.{opens, jobs_again}
use Rattle.stream_board.proofs.board.Board.new.Goals as goal

pub new-requires : goal.new-requires
new-requires g c =
    let same = ap (λ v. v.items) c.of-first.ensures in
    let few : length c.args.jobs.items ≤ 16 = search rules in
    opens c.of-first.result.value.items c.move_out.new.slots.items (omega (arith, few, ap length same)) (c.move_out.ensures.slots ∙ ap (map (λ x. counted x 0)) (sym same))

pub invariant_of-result : goal.invariant_of-result
invariant_of-result g c =
    let ok = c.in-Ok-new.ensures.ok in
    let badge = c.into_badge.ensures in
    let same = ap (λ v. v.items) c.of-first.ensures in
    let room : length c.args.jobs.items ≤ vec_capacity c.args.jobs = search rules in
    between 1 c.in-Ok-new.table.shared.table_id c.into_badge.result.table_id c.into_badge.result.views c.in-Ok-new.seat.me.0 c.of-first.result.value.items c.move_out.new.jobs.items (vec_capacity c.move_out.new.jobs)
    (badge.0 ∙ ok.2) ok.0 (ok.1 ∙ ap length c.move_out.ensures.slots ∙ length-map c.args.jobs.items (λ x. counted x 0) ∙ sym (ap length same)) badge.2 (ap (λ m. m.0) ok.4) c.move_out.ensures.jobs
    (omega (arith, room, ap length same, c.move_out.ensures.capacity))

pub returns-clause-err : goal.returns-clause-err
returns-clause-err g c =
    c.move_back.ensures ∙ ap (map (λ s. s.job)) (c.in-Err.ensures.err ∙ c.move_out.ensures.slots) ∙ jobs_again c.args.jobs.items
