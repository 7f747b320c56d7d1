use Rattle.std.proofs.lemmas.Result.{err_from_is_err_and}
use Rattle.log_scan.proofs.ScanLemmas.{handed_on}
use Rattle.held_log.proofs.reading.read_open.Goals as goal

pub returns-in_err-held-clause-refused : goal.returns-in_err-held-clause-refused
returns-in_err-held-clause-refused g c tells site files slot stands is =
    let p = err_from_is_err_and c.from_residual.result c.from_residual.ensures.1 in
    c.in_err-held.ensures.refused tells site files slot stands (handed_on c.from_residual.result c.in_err-held.field-0.0 _ _ p.1 p.2 is)
