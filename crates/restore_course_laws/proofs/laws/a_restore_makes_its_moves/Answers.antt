use Rattle.restore_course_laws.specs.Passing.{restore_ends, restore_moves, restore_passes}
use Rattle.restore_course_laws.proofs.laws.a_restore_makes_its_moves.Goals as goal

pub returns-clause-moves : goal.returns-clause-moves
returns-clause-moves c = restore_moves

pub returns-clause-passes : goal.returns-clause-passes
returns-clause-passes c = restore_passes

pub returns-clause-ends : goal.returns-clause-ends
returns-clause-ends c = restore_ends
