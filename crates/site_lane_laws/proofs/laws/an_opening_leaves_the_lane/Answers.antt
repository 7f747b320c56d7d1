use Rattle.site_lane_laws.specs.OpeningLaws.{one_shows}
use Rattle.site_lane_laws.proofs.laws.an_opening_leaves_the_lane.Goals as goal

pub returns : goal.returns
returns g c tells era site count history lines number active space lane was is before works f b le image =
    one_shows g.D.Disk tells era site count history lines number active space lane was is before works f b le image
