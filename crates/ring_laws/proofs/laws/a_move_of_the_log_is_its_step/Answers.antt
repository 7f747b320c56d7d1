use Rattle.ring_laws.specs.MovesLaws.{files_behind, files_behind_format}
use Rattle.ring_laws.proofs.laws.a_move_of_the_log_is_its_step.Goals as goal

pub returns-clause-step : goal.returns-clause-step
returns-clause-step c = files_behind

pub returns-clause-format : goal.returns-clause-format
returns-clause-format c = files_behind_format
