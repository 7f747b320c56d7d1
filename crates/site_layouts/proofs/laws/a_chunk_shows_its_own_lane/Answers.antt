use Rattle.site_layouts.specs.PhaseLaws.{own_lane, own_lane_back, same_lane}
use Rattle.site_layouts.proofs.laws.a_chunk_shows_its_own_lane.Goals as goal

pub returns-clause-shows : goal.returns-clause-shows
returns-clause-shows c = own_lane

pub returns-clause-only : goal.returns-clause-only
returns-clause-only c = own_lane_back

pub returns-clause-same : goal.returns-clause-same
returns-clause-same c = same_lane
