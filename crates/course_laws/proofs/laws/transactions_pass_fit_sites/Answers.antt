use Rattle.course_laws.specs.Passing.{transactions_pass}
use Rattle.course_laws.proofs.laws.transactions_pass_fit_sites.Goals as goal

-- src/laws.rt:21:1
pub returns : goal.returns
returns c = transactions_pass
