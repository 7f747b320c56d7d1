use Rattle.site_layouts.specs.LaneLaws.{opening_shows}
use Rattle.site_layouts.proofs.laws.an_opening_leaves_the_lane_shown.Goals as goal

pub returns : goal.returns
returns c = opening_shows
