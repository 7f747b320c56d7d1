use Rattle.std.proofs.Common.{inl, length}
use Rattle.site_disk.specs.BytesLaws.{torn_none}
use Rattle.site_disk.specs.CallsLaws.{from_unchanged}
use Rattle.site_disk.specs.ImagesLaws.{begins}
use Rattle.gated_slots.specs.Writes.{MayAdd}
use Rattle.gated_slots.proofs.writing.add_batch.Goals as goal

pub returns-in_err-extend_to-clause-crash : goal.returns-in_err-extend_to-clause-crash
returns-in_err-extend_to-clause-crash g c tells within =
    let e = c.args.era.now.number in
    let R = MayAdd c.args.at c.args.batch.now c.args.gate in
    let new = g.D.Disk.image c.extend_to.new.disk in
    from_unchanged R e (g.D.Disk.image c.args.disk.now) new new (c.extend_to.ensures.images tells within)
    (begins R R e new new new (λ b. inl (torn_none c.args.at (length c.args.batch.now) b)))

pub returns-clause-crash : goal.returns-clause-crash
returns-clause-crash g c tells within =
    from_unchanged (MayAdd c.args.at c.args.batch.now c.args.gate) c.args.era.now.number (g.D.Disk.image c.args.disk.now)
    (g.D.Disk.image c.extend_to.new.disk) (g.D.Disk.image c.put_batch.new.disk) (c.extend_to.ensures.images tells within) (c.put_batch.ensures.crash tells)
