use Rattle.site_headers.specs.Views.{head_of}
use Rattle.site_model.specs.declared.disk_name.DiskName.TheVariants.{Log}
use Rattle.site_opening.proofs.LogOpenLemmas.{answers, only, reads, refuses, stands}
use Rattle.site_opening.proofs.log.open_site_log.Goals as goal

pub open_records-requires-clause-era : goal.open_records-requires-clause-era
open_records-requires-clause-era g c = c.requires.may Log

pub returns-clause-stands : goal.returns-clause-stands
returns-clause-stands g c = stands g.D.Disk c.args.era.now c.args.site.now (head_of c.args.head.now) c.open_records.new.log c.open_records.result c.open_records.ensures

pub returns-clause-answers : goal.returns-clause-answers
returns-clause-answers g c = answers g.D.Disk c.args.era.now c.args.site.now (head_of c.args.head.now) c.open_records.new.log c.open_records.result c.open_records.ensures

pub returns-clause-refuses : goal.returns-clause-refuses
returns-clause-refuses g c = refuses g.D.Disk c.args.era.now c.args.site.now (head_of c.args.head.now) c.open_records.new.log c.open_records.result c.open_records.ensures

pub returns-clause-reads : goal.returns-clause-reads
returns-clause-reads g c = reads g.D.Disk c.args.era.now c.args.site.now (head_of c.args.head.now) c.open_records.new.log c.open_records.result c.open_records.ensures g.met.D.Disk.now_counts c.requires.may

pub returns-clause-only : goal.returns-clause-only
returns-clause-only g c = only g.D.Disk c.args.era.now c.args.site.now (head_of c.args.head.now) c.open_records.new.log c.open_records.result c.open_records.ensures
