use Rattle.std.proofs.Common.{◌≤◌, ℕ, List, ap, sym, ◌∙◌, arith, refl}
use Rattle.site_disk.specs.GatesLaws.{may_shut_same}
use Rattle.before_images.proofs.Keeping.{nothing_left}
use Rattle.site_disk.specs.Bytes.{extent}
use Rattle.site_disk.specs.CallsLaws.{from_unchanged}
use Rattle.site_disk.specs.Gates.{MayShut, GateStands}
use Rattle.before_images.proofs.saving.drop_region.Goals as goal

pub returns-clause-crash : goal.returns-clause-crash
returns-clause-crash g c tells within stands =
    let base = c.args.base in
    let same = c.extend_to.ensures.images tells within in
    let bytes = c.extend_to.ensures.bytes tells within in
    let later : (g.D.Disk.ledger c.args.disk.now).last ≤ (g.D.Disk.ledger c.extend_to.new.disk).last = (c.extend_to.ensures.ledger).no_earlier in
    let stands_mid : GateStands base (g.D.Disk.ledger c.extend_to.new.disk).last (g.D.Disk.bytes c.extend_to.new.disk) (g.D.Disk.image c.extend_to.new.disk) =
    λ f d lt image. stands f d (omega (arith, later, lt)) (same.back f d image) ∙ ap (λ (l : List ℕ). extent base 1 l) (sym bytes) in
    from_unchanged (MayShut base) c.args.era.now.number (g.D.Disk.image c.args.disk.now) (g.D.Disk.image c.extend_to.new.disk) (g.D.Disk.image c.close_gate.new.disk) same (c.close_gate.ensures.crash tells stands_mid)

pub returns-in_err-extend_to-clause-crash : goal.returns-in_err-extend_to-clause-crash
returns-in_err-extend_to-clause-crash g c tells within stands =
    nothing_left (MayShut c.args.base) c.args.era.now.number (g.D.Disk.image c.args.disk.now) (g.D.Disk.image c.extend_to.new.disk) (c.extend_to.ensures.images tells within)
    (λ b. may_shut_same c.args.base b b refl)
