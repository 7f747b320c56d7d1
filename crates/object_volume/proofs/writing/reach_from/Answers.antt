use Rattle.std.proofs.Common.{ℕ, ◌-◌, min, List, length, arith, sym}
use Rattle.site_disk.specs.Bytes.{Torn}
use Rattle.site_disk.specs.BytesLaws.{filled_there, torn_none}
use Rattle.site_disk.specs.ImagesLaws.{begins}
use Rattle.object_volume.proofs.writing.reach_from.Goals as goal

pub returns-then-place-reached-clause-filled : goal.returns-then-place-reached-clause-filled
returns-then-place-reached-clause-filled g c tells =
    sym (filled_there c.args.place (g.D.Disk.bytes c.args.disk.now) (omega (arith, c.requires.reached tells, c.if-place-reached.true)))

pub returns-then-place-reached-clause-crash : goal.returns-then-place-reached-clause-crash
returns-then-place-reached-clause-crash g c tells =
    let first : ℕ = min c.args.place (length (g.D.Disk.bytes c.args.disk.now)) in
    let torn : List ℕ → List ℕ → Type 0 = Torn first (c.args.place - first) in
    begins torn torn c.args.era.now.number (g.D.Disk.image c.args.disk.now) (g.D.Disk.image c.args.disk.now) (g.D.Disk.image c.args.disk.now)
    (λ b. torn_none first (c.args.place - first) b)
