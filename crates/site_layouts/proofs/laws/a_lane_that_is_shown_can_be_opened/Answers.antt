use Rattle.site_layouts.specs.LaneLaws.{lane_is_there, replaying_settles, standing_settles}
use Rattle.site_layouts.proofs.laws.a_lane_that_is_shown_can_be_opened.Goals as goal

pub returns-clause-there : goal.returns-clause-there
returns-clause-there c = lane_is_there

pub returns-clause-standing : goal.returns-clause-standing
returns-clause-standing c = standing_settles

pub returns-clause-replaying : goal.returns-clause-replaying
returns-clause-replaying c = replaying_settles
