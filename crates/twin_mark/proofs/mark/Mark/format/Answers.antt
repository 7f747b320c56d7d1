use Rattle.std.proofs.Common.{arith}
use Rattle.site_disk.specs.Seen.{seen}
use Rattle.site_disk.specs.SeenLaws.{synced_after}
use Rattle.twin_mark.specs.MarksLaws.{agrees_synced}
use Rattle.twin_mark.proofs.Storing.{knows_formatted, record_formatted, stored_formatted}
use Rattle.twin_mark.proofs.mark.Mark.format.Goals as goal

pub returns-clause-stored : goal.returns-clause-stored
returns-clause-stored g c = rw (← c.self.view_is) (λ tells within.
    stored_formatted c.self.inside.base c.args.body.now (g.D.Disk.bytes c.args.disk.now) (g.D.Disk.bytes c.write_region.new.disk) (omega arith) (c.in_ok-write_region.ensures.bytes tells) within)

pub returns-clause-new_record : goal.returns-clause-new_record
returns-clause-new_record g c = rw (← c.self.view_is) (λ tells.
    record_formatted c.self.inside.base c.args.body.now (g.D.Disk.bytes c.args.disk.now) (g.D.Disk.bytes c.write_region.new.disk) (omega arith) (c.in_ok-write_region.ensures.bytes tells))

pub returns-clause-agrees : goal.returns-clause-agrees
returns-clause-agrees g c tells =
    agrees_synced _ (seen g.D.Disk c.write_region.new.disk)
    (synced_after (seen g.D.Disk c.write_region.new.disk) c.args.era.now.number (g.met.D.Disk.now_counts c.write_region.new.disk) (omega arith)
    (c.in_ok-write_region.ensures.durable tells))
    (knows_formatted c.self.inside.base c.args.body.now (g.D.Disk.bytes c.args.disk.now) (g.D.Disk.bytes c.write_region.new.disk) (omega arith) (c.in_ok-write_region.ensures.bytes tells))
