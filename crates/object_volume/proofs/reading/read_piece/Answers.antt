use Rattle.std.proofs.Common.{◌≡◌, ◌+◌, ◌-◌, length, take, drop, arith, length-take, length-drop}
use Rattle.object_volume.proofs.ReadingLemmas.{read_front, read_rest}
use Rattle.object_volume.proofs.reading.read_piece.Goals as goal

pub returns-clause-found : goal.returns-clause-found
returns-clause-found g c tells =
    let at = c.args.at in
    let n = c.args.n in
    let part = take (at + n - at) (drop at c.args.into.now) in
    let long : length part ≡ n = omega (arith, length-take (at + n - at) (drop at c.args.into.now), length-drop at c.args.into.now) in
    read_front c.read_at.result at (at + n - at) n (length part) c.args.place c.args.into.now c.read_at.new.into (g.D.Disk.bytes c.args.disk.now)
    (omega arith) long (omega arith) c.read_at.ensures.bound (c.read_at.ensures.count tells) (c.read_at.ensures.found tells)

pub returns-clause-rest : goal.returns-clause-rest
returns-clause-rest g c =
    read_rest c.read_at.result c.args.at (c.args.at + c.args.n - c.args.at) c.args.into.now c.read_at.new.into (omega arith) (omega arith) c.read_at.ensures.rest
