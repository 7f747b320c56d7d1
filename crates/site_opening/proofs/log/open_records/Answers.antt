use Rattle.std.proofs.Common.{Err, ap}
use Rattle.std.proofs.lemmas.Result.{err_from_is_err_and}
use Rattle.held_log.specs.declared.faults.HeldFault.{HeldFault}
use Rattle.site_opening.proofs.LogLemmas.{misses_records, opens_records}
use Rattle.site_opening.proofs.log.open_records.Goals as goal

pub returns-in_err-read_open : goal.returns-in_err-read_open
returns-in_err-read_open g c =
    let p = err_from_is_err_and c.from_residual-in_err-read_open.result c.from_residual-in_err-read_open.ensures.1 in
    rw p.1
    (misses_records g.D.Disk c.args.era.now c.args.site c.args.log.now c.open.new.self c.open.ensures.crash c.open.ensures.ledger c.read_open.new.log c.read_open.ensures.opened c.read_open.ensures.crash c.read_open.ensures.ledger
    c.in_ok-open.ensures.bytes (λ tells. c.in_ok-open.ensures.stands tells) c.in_err-read_open.field-0.0 p.0 p.2
    (λ tells files slot stands e. c.in_err-read_open.ensures.refused tells c.args.site files slot stands (ap (λ (f : HeldFault). Err f) e))
    (λ e. c.in_err-read_open.ensures.failed (ap (λ (f : HeldFault). Err f) e)) c.in_err-read_open.ensures.kept)

pub returns : goal.returns
returns g c =
    opens_records g.D.Disk c.args.era.now c.args.site c.args.log.now c.open.new.self c.open.ensures.crash c.open.ensures.ledger c.read_open.new.log c.read_open.ensures.opened c.read_open.ensures.crash c.read_open.ensures.ledger
    c.in_ok-open.ensures.bytes (λ tells. c.in_ok-open.ensures.stands tells) c.in_ok-read_open.field-0 (λ tells. c.in_ok-open.ensures.durable tells)
    (λ tells files stands. c.in_ok-read_open.ensures.table tells c.args.site files stands) (λ tells files stands. c.in_ok-read_open.ensures.in_order tells c.args.site files stands)
    (λ tells files stands. c.in_ok-read_open.ensures.stands tells c.args.site files stands) c.in_ok-read_open.ensures.bytes c.in_ok-read_open.ensures.images
