use Rattle.std.proofs.Common.{◌∙◌, ℕ, length, ap, subst}
use Rattle.site_disk.specs.Bytes.{Torn}
use Rattle.site_disk.specs.BytesLaws.{torn_none}
use Rattle.site_disk.specs.CallsLaws.{from_unchanged}
use Rattle.site_disk.specs.Images.{Leaves}
use Rattle.site_disk.specs.ImagesLaws.{begins}
use Rattle.twin_mark.specs.MarksLaws.{length-formatted}
use Rattle.twin_mark.proofs.slots.write_region.Goals as goal

pub returns-in_err-extend_to-clause-crash : goal.returns-in_err-extend_to-clause-crash
returns-in_err-extend_to-clause-crash g c tells within =
    let R = Torn c.args.base 1024 in
    let e = c.args.era.now.number in
    let new = g.D.Disk.image c.extend_to.new.disk in
    from_unchanged R e (g.D.Disk.image c.args.disk.now) new new (c.extend_to.ensures.images tells within) (begins R R e new new new (torn_none c.args.base 1024))

pub returns-clause-crash : goal.returns-clause-crash
returns-clause-crash g c tells within =
    from_unchanged (Torn c.args.base 1024) c.args.era.now.number (g.D.Disk.image c.args.disk.now) (g.D.Disk.image c.extend_to.new.disk) (g.D.Disk.image c.write_and_sync.new.disk)
    (c.extend_to.ensures.images tells within)
    (subst (λ (n : ℕ). Leaves c.args.era.now.number (Torn c.args.base n) (g.D.Disk.image c.extend_to.new.disk) (g.D.Disk.image c.write_and_sync.new.disk))
    (ap length c.lay_region.ensures ∙ length-formatted c.args.content.now c.requires.content) c.write_and_sync.ensures.crash)
