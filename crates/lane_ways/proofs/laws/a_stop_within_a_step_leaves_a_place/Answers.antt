use Rattle.lane_ways.specs.PictureLaws.{saving_shows, writing_shows, marking_moves}
use Rattle.lane_ways.proofs.laws.a_stop_within_a_step_leaves_a_place.Goals as goal

pub returns-clause-saving : goal.returns-clause-saving
returns-clause-saving c = saving_shows

pub returns-clause-writing : goal.returns-clause-writing
returns-clause-writing c = writing_shows

pub returns-clause-marking : goal.returns-clause-marking
returns-clause-marking c = marking_moves
