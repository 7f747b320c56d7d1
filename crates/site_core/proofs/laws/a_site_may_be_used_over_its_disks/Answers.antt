use Rattle.site_core.specs.DisksLaws.{site_may}
use Rattle.site_core.proofs.laws.a_site_may_be_used_over_its_disks.Goals as goal

pub returns : goal.returns
returns g c = site_may g.D.Disk c.args.era.now c.args.site.now c.args.disks.now
