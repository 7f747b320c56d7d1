use Rattle.site_lane_laws.specs.AdvancingLaws.{all_agree, all_end}
use Rattle.site_lane_laws.proofs.laws.lanes_come_to_the_end.Goals as goal

pub returns-clause-agree : goal.returns-clause-agree
returns-clause-agree g c tells era site changes old new before as_many done = all_agree g.D.Disk tells era site changes old new before as_many done

pub returns-clause-shown : goal.returns-clause-shown
returns-clause-shown g c tells era site changes old new before as_many done n is lt behind f b le image =
    all_end g.D.Disk tells era site changes old new before as_many done n is lt behind f b le image
