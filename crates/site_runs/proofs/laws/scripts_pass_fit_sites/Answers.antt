use Rattle.site_runs.specs.Passing.{transactions_pass}
use Rattle.site_runs.proofs.laws.scripts_pass_fit_sites.Goals as goal

pub returns : goal.returns
returns c moment text site other fit on = transactions_pass moment text site other fit on
