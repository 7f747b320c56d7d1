use Rattle.site_layouts.specs.LaneLaws.{place_shows, replay_shows, replaying_shows, standing_shows}
use Rattle.site_layouts.proofs.laws.a_lane_at_a_place_is_shown.Goals as goal

pub returns-clause-standing : goal.returns-clause-standing
returns-clause-standing c = place_shows

pub returns-clause-replaying : goal.returns-clause-replaying
returns-clause-replaying c = replay_shows

pub returns-clause-standing_image : goal.returns-clause-standing_image
returns-clause-standing_image c = standing_shows

pub returns-clause-replaying_image : goal.returns-clause-replaying_image
returns-clause-replaying_image c = replaying_shows
