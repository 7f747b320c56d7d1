use Rattle.lane_ways.specs.WayLaws.{idle_place, idle_laid}
use Rattle.lane_ways.proofs.laws.commits_elsewhere_move_nothing.Goals as goal

pub returns-clause-place : goal.returns-clause-place
returns-clause-place c = idle_place

pub returns-clause-laid : goal.returns-clause-laid
returns-clause-laid c = idle_laid
