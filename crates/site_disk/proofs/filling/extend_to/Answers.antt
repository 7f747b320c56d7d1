use Rattle.std.proofs.Common.{◌≡◌, ◌-◌, ℕ, min, length, arith, subst}
use Rattle.site_disk.specs.Bytes.{Torn}
use Rattle.site_disk.specs.CallsLaws.{from_unchanged}
use Rattle.site_disk.specs.Images.{Leaves}
use Rattle.site_disk.proofs.filling.extend_to.Goals as goal

pub returns-clause-crash : goal.returns-clause-crash
returns-clause-crash g c tells =
    let e = c.args.era.now.number in
    let old = g.D.Disk.image c.args.disk.now in
    let new = g.D.Disk.image c.write_zeros.new.disk in
    let found = c.in_ok-len.ensures.found tells in
    let first : c.in_ok-len.len ≡ min c.args.place (length (g.D.Disk.bytes c.args.disk.now)) = omega (arith, found, c.if-len-place.false) in
    subst (λ (k : ℕ). Leaves e (Torn k (c.args.place - k)) old new) first
    (from_unchanged (Torn c.in_ok-len.len (c.args.place - c.in_ok-len.len)) e old (g.D.Disk.image c.len.new.self) new c.len.ensures.images c.write_zeros.ensures.crash)
