use Rattle.site_lane_laws.specs.AdvancingLaws.{all_shown}
use Rattle.site_lane_laws.specs.PhaseLaws.{lanes_go}
use Rattle.site_lane_laws.proofs.laws.lanes_go_on_along_their_ways.Goals as goal

pub returns : goal.returns
returns g c tells era site changes old new before as_many works n is lt behind f b le image =
    all_shown g.D.Disk tells era site changes old new before as_many works n is lt behind f b le image
