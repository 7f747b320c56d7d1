use Rattle.log_scan.proofs.LawLemmas.{not_refused}
use Rattle.log_scan.proofs.laws.one_answer.Goals as goal

pub returns-clause-held : goal.returns-clause-held
returns-clause-held c = not_refused
