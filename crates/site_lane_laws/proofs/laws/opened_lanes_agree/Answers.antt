use Rattle.site_lane_laws.specs.OpeningLaws.{opened_agree}
use Rattle.site_lane_laws.proofs.laws.opened_lanes_agree.Goals as goal

pub returns : goal.returns
returns g c tells era head heads history lines number active lanes old new before came works =
    opened_agree g.D.Disk tells era head heads history lines number active lanes old new before came works
