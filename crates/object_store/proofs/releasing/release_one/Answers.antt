use Rattle.std.proofs.Common.{◌<◌, [], ◌∷◌, length, get_or, arith}
use Rattle.std.proofs.lemmas.Option.{slice_get-get_or}
use Rattle.object_store.specs.Returns.{GivesBack}
use Rattle.object_store.proofs.ReadingLemmas.{changes_one}
use Rattle.object_store.proofs.ReturnLemmas.{gives_release}
use Rattle.object_store.proofs.releasing.release_one.Goals as goal

pub release-requires-clause-opened : goal.release-requires-clause-opened
release-requires-clause-opened g c =
    let lt : c.from.result < length c.args.volumes.now = omega (arith, c.requires.within, c.from.ensures) in
    let was = get_or c.args.volumes.now c.from.result c.index-volumes-from.result in
    let can = c.requires.live c.from.result was (slice_get-get_or c.args.volumes.now c.from.result c.index-volumes-from.result lt) c.from.ensures in
    can.opened

pub release-requires-clause-live : goal.release-requires-clause-live
release-requires-clause-live g c =
    let lt : c.from.result < length c.args.volumes.now = omega (arith, c.requires.within, c.from.ensures) in
    let was = get_or c.args.volumes.now c.from.result c.index-volumes-from.result in
    let can = c.requires.live c.from.result was (slice_get-get_or c.args.volumes.now c.from.result c.index-volumes-from.result lt) c.from.ensures in
    can.live

pub returns : goal.returns
returns g c =
    let was = get_or c.args.volumes.now c.from.result c.index-volumes-from.result in
    let is = c.release.new.self in
    let lt : c.from.result < length c.args.volumes.now = omega (arith, c.requires.within, c.from.ensures) in
    let e = c.release.ensures in
    let gives = gives_release g.D.Disk.is_modelled g.D.Disk.bytes was is c.args.runs.now e.opened e.disk e.number e.sends e.idle e.free e.blocks e.sent e.live e.parted in
    changes_one (GivesBack g.D.Disk.is_modelled g.D.Disk.bytes (c.args.runs.now ∷ [])) c.args.volumes.now c.from.result c.args.number c.index-volumes-from.result is c.from.ensures lt gives
