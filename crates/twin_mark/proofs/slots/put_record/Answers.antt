use Rattle.std.proofs.Common.{◌∙◌, ◌∷◌, ℕ, List, inl, refl, ap}
use Rattle.site_disk.specs.CallsLaws.{from_unchanged, on_ok}
use Rattle.site_disk.specs.GatesLaws.{may_shut_same, gate_still}
use Rattle.site_disk.specs.ImagesLaws.{begins}
use Rattle.site_disk.specs.Seen.{seen}
use Rattle.twin_mark.specs.Replacing.{replaced, MayReplace}
use Rattle.twin_mark.proofs.slots.put_record.Goals as goal

pub returns-in_err-extend_to-clause-crash : goal.returns-in_err-extend_to-clause-crash
returns-in_err-extend_to-clause-crash g c tells within stands =
    let R = MayReplace c.args.gate c.args.place (c.args.sequence ∷ c.args.content.now) in
    let e = c.args.era.now.number in
    let new = g.D.Disk.image c.extend_to.new.disk in
    from_unchanged R e (g.D.Disk.image c.args.disk.now) new new (c.extend_to.ensures.images tells within) (begins R R e new new new (λ b. inl (inl (may_shut_same c.args.gate b b refl))))

pub returns-clause-bytes : goal.returns-clause-bytes
returns-clause-bytes g c tells =
    let filled = c.in_ok-extend_to.ensures.filled tells in
    on_ok c.replace.result (λ is. is ∙ ap (λ (l : List ℕ). replaced c.args.gate c.args.place (c.args.sequence ∷ c.args.content.now) l) filled) (c.replace.ensures.bytes tells)

pub returns-clause-crash : goal.returns-clause-crash
returns-clause-crash g c tells within stands =
    let same = c.extend_to.ensures.images tells within in
    let stands_mid = gate_still c.args.gate (seen g.D.Disk c.args.disk.now) (seen g.D.Disk c.extend_to.new.disk) c.extend_to.ensures.ledger.no_earlier stands
    (c.extend_to.ensures.bytes tells within) same in
    from_unchanged (MayReplace c.args.gate c.args.place (c.args.sequence ∷ c.args.content.now)) c.args.era.now.number (g.D.Disk.image c.args.disk.now) (g.D.Disk.image c.extend_to.new.disk)
    (g.D.Disk.image c.replace.new.disk) same (c.replace.ensures.crash tells stands_mid)
