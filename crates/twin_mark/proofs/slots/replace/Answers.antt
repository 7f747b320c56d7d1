use Rattle.std.proofs.Common.{◌∷◌, ℕ, List, length, inl, inr, arith, subst, ap, ◌∙◌}
use Rattle.site_disk.specs.Bytes.{written, Torn}
use Rattle.site_disk.specs.CallsLaws.{from_known}
use Rattle.site_disk.specs.Gates.{MayFill}
use Rattle.site_disk.specs.GatesLaws.{fills}
use Rattle.site_disk.specs.Images.{Leaves}
use Rattle.site_disk.specs.ImagesLaws.{weaker}
use Rattle.twin_mark.specs.Replacing.{MayReplace}
use Rattle.twin_mark.proofs.slots.replace.Goals as goal

-- the closing and the body, as they stand in the images of the three disks
filled_slot : (gate place e : ℕ) (piece : List ℕ) (old mid new : ℕ → List ℕ → Type 0) → Leaves e (MayFill gate place (length piece)) old new → Leaves e (MayReplace gate place piece) old new
filled_slot gate place e piece old mid new first =
    weaker (MayReplace gate place piece) (MayFill gate place (length piece)) e old old new first (λ f d c lt image may. inl may)

pub returns-in_err-write_body-clause-crash : goal.returns-in_err-write_body-clause-crash
returns-in_err-write_body-clause-crash g c tells stands =
    let gate = c.args.gate in
    let place = c.args.place in
    let piece = c.args.sequence ∷ c.args.content.now in
    let e = c.args.era.now.number in
    let old = g.D.Disk.image c.args.disk.now in
    let mid = g.D.Disk.image c.close_gate.new.disk in
    let new = g.D.Disk.image c.write_body.new.disk in
    filled_slot gate place e piece old mid new
    (fills gate place (length piece) e old mid new (c.close_gate.ensures.crash tells stands) (c.in_ok-close_gate.ensures.come tells stands) c.write_body.ensures.crash)

pub returns-clause-crash : goal.returns-clause-crash
returns-clause-crash g c tells stands =
    let gate = c.args.gate in
    let place = c.args.place in
    let piece = c.args.sequence ∷ c.args.content.now in
    let e = c.args.era.now.number in
    let old = g.D.Disk.image c.args.disk.now in
    let mid = g.D.Disk.image c.close_gate.new.disk in
    let new = g.D.Disk.image c.write_body.new.disk in
    let first = filled_slot gate place e piece old mid new
    (fills gate place (length piece) e old mid new (c.close_gate.ensures.crash tells stands) (c.in_ok-close_gate.ensures.come tells stands) c.write_body.ensures.crash) in
    from_known (MayReplace gate place piece) (Torn gate 1) e (g.D.Disk.bytes c.args.disk.now) (g.D.Disk.bytes c.write_body.new.disk) old new (g.D.Disk.image c.write_and_sync.new.disk)
    first (c.in_ok-write_body.ensures.durable tells) (λ f lt. g.met.D.Disk.reads_as c.args.disk.now f tells (omega arith)) c.write_and_sync.ensures.crash
    (λ b torn. inr (subst (λ (l : List ℕ). Torn gate 1 l b) (c.in_ok-write_body.ensures.bytes tells ∙ ap (λ (l : List ℕ). written place piece l) (c.in_ok-close_gate.ensures.written tells)) torn))
