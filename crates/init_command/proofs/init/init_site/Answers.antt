use Rattle.std.proofs.Common.{inr, ◌+◌, Bool, refl, subst, arith}
use Rattle.site_model.specs.declared.disk_name.DiskName.TheVariants.{Cat}
use Rattle.site_core.specs.Disks.{contents_of}
use Rattle.init_command.specs.Looks.{Tells}
use Rattle.init_command.proofs.InitLemmas.{bare, bare_there, formatting_done, formatting_passes, has_looked, refused_done, unused_rest}
use Rattle.init_command.proofs.init.init_site.Goals as goal

pub returns-then-branch-clause-finishes : goal.returns-then-branch-clause-finishes
returns-then-branch-clause-finishes g c tells script after at shown =
    inr (refused_done g.D.Disk c.args.moment c.args.blocks c.args.spaces.items c.args.era.now.number c.args.site.now c.is_formatted.new.site after script (c.next.new.self.number + 1)
    (subst (λ (b : Bool). Tells b (contents_of g.D.Disk c.args.site.now Cat)) c.if-branch.true (c.in_ok-is_formatted.ensures.told tells))
    c.is_formatted.ensures.reads.quiet.images c.in_ok-is_formatted.ensures.same at shown)

pub returns-in_err-format_site-clause-passes : goal.returns-in_err-format_site-clause-passes
returns-in_err-format_site-clause-passes g c tells script at shown =
    let looked = has_looked g.D.Disk c.args.era.now.number c.args.site.now c.is_formatted.new.site c.in_ok-is_formatted.field-0 c.if-branch.false (c.in_ok-is_formatted.ensures.told tells)
    c.is_formatted.ensures.reads.quiet.images c.next.new.self.number c.next.ensures.number (c.in_ok-is_formatted.ensures.durable tells) in
    formatting_passes g.D.Disk c.args.moment c.args.blocks c.args.spaces.items c.args.era.now.number c.args.site.now c.is_formatted.new.site c.format_site.new.site looked
    c.next-3.new.self.number script (omega arith)
    (c.format_site.ensures.goes tells bare (bare_there g.D.Disk c.args.moment c.args.blocks c.args.spaces.items c.args.era.now.number c.args.site.now c.is_formatted.new.site c.format_site.new.site looked
    c.next-3.new.self.number (omega arith)))
    at shown

pub returns-in_err-format_site-clause-rests : goal.returns-in_err-format_site-clause-rests
returns-in_err-format_site-clause-rests g c tells =
    unused_rest g.D.Disk c.args.blocks c.args.spaces.items c.args.site.now c.is_formatted.new.site c.format_site.new.site c.requires.made c.format_site.ensures.made
    c.is_formatted.ensures.others c.format_site.ensures.others c.args.era.now.number

pub returns-clause-passes : goal.returns-clause-passes
returns-clause-passes g c tells script at shown =
    let looked = has_looked g.D.Disk c.args.era.now.number c.args.site.now c.is_formatted.new.site c.in_ok-is_formatted.field-0 c.if-branch.false (c.in_ok-is_formatted.ensures.told tells)
    c.is_formatted.ensures.reads.quiet.images c.next.new.self.number c.next.ensures.number (c.in_ok-is_formatted.ensures.durable tells) in
    formatting_passes g.D.Disk c.args.moment c.args.blocks c.args.spaces.items c.args.era.now.number c.args.site.now c.is_formatted.new.site c.format_site.new.site looked
    c.next-3.new.self.number script (omega arith)
    (c.format_site.ensures.goes tells bare (bare_there g.D.Disk c.args.moment c.args.blocks c.args.spaces.items c.args.era.now.number c.args.site.now c.is_formatted.new.site c.format_site.new.site looked
    c.next-3.new.self.number (omega arith)))
    at shown

pub returns-clause-finishes : goal.returns-clause-finishes
returns-clause-finishes g c tells script after at shown =
    let looked = has_looked g.D.Disk c.args.era.now.number c.args.site.now c.is_formatted.new.site c.in_ok-is_formatted.field-0 c.if-branch.false (c.in_ok-is_formatted.ensures.told tells)
    c.is_formatted.ensures.reads.quiet.images c.next.new.self.number c.next.ensures.number (c.in_ok-is_formatted.ensures.durable tells) in
    formatting_done g.D.Disk c.args.moment c.args.blocks c.args.spaces.items c.args.era.now.number c.args.site.now c.is_formatted.new.site c.format_site.new.site looked
    c.format_site.new.era.number after script (omega (arith, c.format_site.ensures.later))
    (c.in_ok-format_site.ensures.ends tells bare (bare_there g.D.Disk c.args.moment c.args.blocks c.args.spaces.items c.args.era.now.number c.args.site.now c.is_formatted.new.site c.format_site.new.site looked
    c.next-3.new.self.number (omega arith)))
    (c.in_ok-format_site.ensures.shows tells) at shown _ refl refl

pub returns-clause-rests : goal.returns-clause-rests
returns-clause-rests g c tells =
    unused_rest g.D.Disk c.args.blocks c.args.spaces.items c.args.site.now c.is_formatted.new.site c.format_site.new.site c.requires.made c.format_site.ensures.made
    c.is_formatted.ensures.others c.format_site.ensures.others c.args.era.now.number
