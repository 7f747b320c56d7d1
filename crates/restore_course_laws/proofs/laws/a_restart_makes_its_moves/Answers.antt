use Rattle.restore_course_laws.specs.Passing.{restart_moves, restart_turns}
use Rattle.restore_course_laws.proofs.laws.a_restart_makes_its_moves.Goals as goal

pub returns-clause-moves : goal.returns-clause-moves
returns-clause-moves c = restart_moves

pub returns-clause-turns : goal.returns-clause-turns
returns-clause-turns c = restart_turns
