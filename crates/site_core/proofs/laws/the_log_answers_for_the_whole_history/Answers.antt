use Rattle.site_core.specs.AppendLaws.{takes_by_log}
use Rattle.site_core.proofs.laws.the_log_answers_for_the_whole_history.Goals as goal

pub returns : goal.returns
returns c = takes_by_log
