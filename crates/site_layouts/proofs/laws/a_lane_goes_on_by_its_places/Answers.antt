use Rattle.site_layouts.specs.LaneLaws.{advance_shows, place_on_lane}
use Rattle.site_layouts.proofs.laws.a_lane_goes_on_by_its_places.Goals as goal

pub returns-clause-way : goal.returns-clause-way
returns-clause-way c = place_on_lane

pub returns-clause-image : goal.returns-clause-image
returns-clause-image c = advance_shows
