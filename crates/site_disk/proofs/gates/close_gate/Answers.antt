use Rattle.std.proofs.Common.{arith, sym, ◌∙◌}
use Rattle.site_disk.specs.Gates.{IsShut}
use Rattle.site_disk.specs.GatesLaws.{shut-closed}
use Rattle.site_disk.proofs.gates.close_gate.Goals as goal

pub returns-then-closed-clause-written : goal.returns-then-closed-clause-written
returns-then-closed-clause-written g c tells =
    let bytes = g.D.Disk.bytes c.args.disk.now in
    let closed : IsShut c.args.gate bytes = (c.in_ok-closed.ensures.found tells).0 c.if-closed.true in
    c.in_ok-closed.ensures.bytes ∙ sym (shut-closed c.args.gate bytes closed)

pub returns-then-closed-clause-come : goal.returns-then-closed-clause-come
returns-then-closed-clause-come g c tells stands f b lt image =
    let gate = c.args.gate in
    let closed : IsShut gate (g.D.Disk.bytes c.args.disk.now) = (c.in_ok-closed.ensures.found tells).0 c.if-closed.true in
    let was = c.in_ok-closed.ensures.images.back f b image in
    (b, was, sym (shut-closed gate b (stands f b (omega arith) was ∙ closed)))
