use Rattle.lane_ways.specs.StepLaws.{is_step, step_some, step_below}
use Rattle.lane_ways.proofs.laws.a_step_takes_what_it_can.Goals as goal

pub returns-clause-step : goal.returns-clause-step
returns-clause-step c = is_step

pub returns-clause-some : goal.returns-clause-some
returns-clause-some c = step_some

pub returns-clause-below : goal.returns-clause-below
returns-clause-below c = step_below
