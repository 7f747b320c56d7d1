use Rattle.restore_planner.specs.WantedLaws.{files_wanted}
use Rattle.restore_planner.proofs.laws.a_plan_has_the_files_that_are_wanted.Goals as goal

pub returns : goal.returns
returns c = files_wanted
