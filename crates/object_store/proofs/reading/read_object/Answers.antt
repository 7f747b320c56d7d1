use Rattle.std.proofs.Common.{◌<◌, length, get_or, arith}
use Rattle.std.specs.Result.{is_err}
use Rattle.object_store.specs.Reading.{IsRead}
use Rattle.object_store.proofs.ReadingLemmas.{is_read, changes_one}
use Rattle.object_store.proofs.reading.read_object.Goals as goal

pub returns-clause-one : goal.returns-clause-one
returns-clause-one g c =
    let most = length c.args.into.now in
    let was = get_or c.args.volumes.now c.from.result c.index-volumes-from.result in
    let is = c.get_next.new.self in
    let by = is_read g.D.Disk c.args.era.now most c.get_next.result was is c.get_next.ensures.volume c.get_next.ensures.bytes c.get_next.ensures.images c.get_next.ensures.crash
    c.get_next.ensures.ledger c.get_next.ensures.cause in
    let lt : c.from.result < length c.args.volumes.now = omega (arith, c.requires.within, c.from.ensures) in
    changes_one (IsRead g.D.Disk c.args.era.now most (is_err c.get_next.result)) c.args.volumes.now c.from.result c.args.entry.now.volume c.index-volumes-from.result is c.from.ensures lt by
