use Rattle.site_model.specs.declared.disk_name.DiskName.TheVariants.{Boot}
use Rattle.site_opening.proofs.OpenLemmas.{answers, head, failed, in_order, only, opened, reads, refused_same, refuses, same, settled, stands, still_made, told}
use Rattle.site_opening.proofs.PartLemmas.{may_store}
use Rattle.site_opening.proofs.site.open_site.Goals as goal

pub open_parts-requires-clause-store_era : goal.open_parts-requires-clause-store_era
open_parts-requires-clause-store_era g c = may_store g.D.Disk c.args.era.now c.args.site.now c.requires.may c.requires.made

pub open_parts-requires-clause-boot_era : goal.open_parts-requires-clause-boot_era
open_parts-requires-clause-boot_era g c = c.requires.may Boot

pub returns-clause-stands : goal.returns-clause-stands
returns-clause-stands g c = stands g.D.Disk c.args.era.now c.args.site.now c.open_parts.new.site c.requires.may c.requires.made c.open_parts.result c.open_parts.ensures

pub returns-clause-answers : goal.returns-clause-answers
returns-clause-answers g c = answers g.D.Disk c.args.era.now c.args.site.now c.open_parts.new.site c.requires.may c.requires.made c.open_parts.result c.open_parts.ensures

pub returns-clause-refuses : goal.returns-clause-refuses
returns-clause-refuses g c = refuses g.D.Disk c.args.era.now c.args.site.now c.open_parts.new.site c.requires.may c.requires.made c.open_parts.result c.open_parts.ensures

pub returns-clause-told : goal.returns-clause-told
returns-clause-told g c = told g.D.Disk c.args.era.now c.args.site.now c.open_parts.new.site c.requires.may c.requires.made c.open_parts.result c.open_parts.ensures

pub returns-clause-failed : goal.returns-clause-failed
returns-clause-failed g c = failed g.D.Disk c.args.era.now c.args.site.now c.open_parts.new.site c.requires.may c.requires.made c.open_parts.result c.open_parts.ensures

pub returns-clause-opened : goal.returns-clause-opened
returns-clause-opened g c = opened g.D.Disk c.args.era.now c.args.site.now c.open_parts.new.site c.requires.may c.requires.made c.open_parts.result c.open_parts.ensures

pub returns-clause-settled : goal.returns-clause-settled
returns-clause-settled g c = settled g.D.Disk c.args.era.now c.args.site.now c.open_parts.new.site c.requires.may c.requires.made c.open_parts.result c.open_parts.ensures

pub returns-clause-order : goal.returns-clause-order
returns-clause-order g c = in_order g.D.Disk c.args.era.now c.args.site.now c.open_parts.new.site c.requires.may c.requires.made c.open_parts.result c.open_parts.ensures

pub returns-clause-made : goal.returns-clause-made
returns-clause-made g c = still_made g.D.Disk c.args.era.now c.args.site.now c.open_parts.new.site c.requires.may c.requires.made c.open_parts.result c.open_parts.ensures

pub returns-clause-reads : goal.returns-clause-reads
returns-clause-reads g c = reads g.D.Disk c.args.era.now c.args.site.now c.open_parts.new.site c.requires.may c.requires.made c.open_parts.result c.open_parts.ensures g.met.D.Disk.now_counts

pub returns-clause-same : goal.returns-clause-same
returns-clause-same g c = same g.D.Disk c.args.era.now c.args.site.now c.open_parts.new.site c.requires.may c.requires.made c.open_parts.result c.open_parts.ensures

pub returns-clause-refused_same : goal.returns-clause-refused_same
returns-clause-refused_same g c = refused_same g.D.Disk c.args.era.now c.args.site.now c.open_parts.new.site c.requires.may c.requires.made c.open_parts.result c.open_parts.ensures

pub returns-clause-only : goal.returns-clause-only
returns-clause-only g c = only g.D.Disk c.args.era.now c.args.site.now c.open_parts.new.site c.requires.may c.requires.made c.open_parts.result c.open_parts.ensures

pub returns-clause-head : goal.returns-clause-head
returns-clause-head g c = head g.D.Disk c.args.era.now c.args.site.now c.open_parts.new.site c.requires.may c.requires.made c.open_parts.result c.open_parts.ensures
