use Rattle.restore_course_laws.specs.Passing.{restart_ends, restart_passes}
use Rattle.restore_course_laws.proofs.laws.a_restart_ends_the_restore.Goals as goal

pub returns-clause-passes : goal.returns-clause-passes
returns-clause-passes c = restart_passes

pub returns-clause-ends : goal.returns-clause-ends
returns-clause-ends c = restart_ends
