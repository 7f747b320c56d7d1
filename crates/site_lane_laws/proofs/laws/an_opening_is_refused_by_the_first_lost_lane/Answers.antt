use Rattle.site_lane_laws.specs.RefusalLaws.{lost_is_first, none_is_bad, none_is_lost}
use Rattle.site_lane_laws.proofs.laws.an_opening_is_refused_by_the_first_lost_lane.Goals as goal

pub returns-clause-lost : goal.returns-clause-lost
returns-clause-lost g c tells era head heads history lines number active lanes old new before n explains =
    lost_is_first g.D.Disk tells era head heads history lines number active lanes old new before n explains

pub returns-clause-bad : goal.returns-clause-bad
returns-clause-bad g c tells era head heads history lines number active lanes old new before n explains =
    none_is_bad g.D.Disk tells era head heads history lines number active lanes old new before n explains

pub returns-clause-opened : goal.returns-clause-opened
returns-clause-opened g c tells era head heads history lines number active lanes old new before opened =
    none_is_lost g.D.Disk tells era head heads history lines number active lanes old new before opened
