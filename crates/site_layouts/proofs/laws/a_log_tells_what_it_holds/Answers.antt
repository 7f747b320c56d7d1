use Rattle.site_layouts.specs.LogLaws.{not_lost, one_log}
use Rattle.site_layouts.proofs.laws.a_log_tells_what_it_holds.Goals as goal

pub returns-clause-either : goal.returns-clause-either
returns-clause-either c = not_lost

pub returns-clause-files : goal.returns-clause-files
returns-clause-files c = one_log
