use Rattle.log_scan.proofs.LawLemmas.{one_ring}
use Rattle.log_scan.proofs.laws.one_log.Goals as goal

pub returns : goal.returns
returns c = one_ring
