use Rattle.std.proofs.Common.{◌<◌, length, get_or, arith}
use Rattle.std.proofs.lemmas.Option.{slice_get-get_or}
use Rattle.object_store.specs.Returns.{Cancels}
use Rattle.object_store.proofs.ReadingLemmas.{changes_one}
use Rattle.object_store.proofs.ReturnLemmas.{cancels}
use Rattle.object_store.proofs.releasing.cancel_one.Goals as goal

pub cancel-requires-clause-opened : goal.cancel-requires-clause-opened
cancel-requires-clause-opened g c =
    let volumes = c.args.volumes.now in
    let lt : c.from.result < length volumes = omega (arith, c.requires.within, c.from.ensures) in
    let was = get_or volumes c.from.result c.index-volumes-from.result in
    let can = c.requires.sends c.from.result was (slice_get-get_or volumes c.from.result c.index-volumes-from.result lt) c.from.ensures in
    can.opened

pub cancel-requires-clause-begun : goal.cancel-requires-clause-begun
cancel-requires-clause-begun g c =
    let volumes = c.args.volumes.now in
    let lt : c.from.result < length volumes = omega (arith, c.requires.within, c.from.ensures) in
    let was = get_or volumes c.from.result c.index-volumes-from.result in
    let can = c.requires.sends c.from.result was (slice_get-get_or volumes c.from.result c.index-volumes-from.result lt) c.from.ensures in
    can.begun

pub returns : goal.returns
returns g c =
    let volumes = c.args.volumes.now in
    let was = get_or volumes c.from.result c.index-volumes-from.result in
    let is = c.cancel.new.self in
    let lt : c.from.result < length volumes = omega (arith, c.requires.within, c.from.ensures) in
    let e = c.cancel.ensures in
    changes_one Cancels volumes c.from.result c.args.number c.index-volumes-from.result is c.from.ensures lt (cancels was is e.opened e.idle e.disk e.number e.free e.blocks e.live e.parted)
