use Rattle.std.proofs.lemmas.Result.{err_from_is_err_and}
use Rattle.log_record.specs.Entry.{history_of}
use Rattle.txn_table.specs.Table.{first_refusal}
use Rattle.txn_table.specs.OrderLaws.{in_order_not_refused}
use Rattle.txn_table.proofs.ReplayLemmas.{cause_at, only_memory}
use Rattle.txn_table.proofs.table.Open.replay.Goals as goal

pub returns-in_err-feed-clause-cause : goal.returns-in_err-feed-clause-cause
returns-in_err-feed-clause-cause c =
    let p = err_from_is_err_and c.from_residual.result c.from_residual.ensures.1 in
    rw (p.1, p.2) (cause_at _ c.args.records.now c.loop-i.i c.index-records-i.result c.loop-i.table c.in_err-feed.field-0.0
    c.loop-i-test.true c.index-records-i.is c.loop-i.invariant.so_far c.loop-i.invariant.in_order
    c.in_err-feed.ensures.refused c.in_err-feed.ensures.allowed)

pub returns-in_err-feed-clause-allowed : goal.returns-in_err-feed-clause-allowed
returns-in_err-feed-clause-allowed c =
    λ order.
    let p = err_from_is_err_and c.from_residual.result c.from_residual.ensures.1 in
    rw (p.1, p.2) (only_memory (first_refusal (history_of c.args.records.now)) c.in_err-feed.field-0.0 (in_order_not_refused (history_of c.args.records.now) order)
    (cause_at _ c.args.records.now c.loop-i.i c.index-records-i.result c.loop-i.table c.in_err-feed.field-0.0
    c.loop-i-test.true c.index-records-i.is c.loop-i.invariant.so_far c.loop-i.invariant.in_order
    c.in_err-feed.ensures.refused c.in_err-feed.ensures.allowed))
