use Rattle.std.proofs.Common.{◌<◌, length, get_or, arith}
use Rattle.std.specs.Result.{is_err}
use Rattle.object_store.specs.Reading.{IsRead}
use Rattle.object_store.proofs.ReadingLemmas.{is_read, changes_one}
use Rattle.object_store.proofs.reading.check_object.Goals as goal

pub returns-clause-one : goal.returns-clause-one
returns-clause-one g c =
    let entry = c.args.entry.now in
    let was = get_or c.args.volumes.now c.from.result c.index-volumes-from.result in
    let is = c.check.new.self in
    let by = is_read g.D.Disk c.args.era.now entry.size c.check.result was is c.check.ensures.volume c.check.ensures.bytes c.check.ensures.images c.check.ensures.crash
    c.check.ensures.ledger c.check.ensures.cause in
    let lt : c.from.result < length c.args.volumes.now = omega (arith, c.requires.within, c.from.ensures) in
    changes_one (IsRead g.D.Disk c.args.era.now entry.size (is_err c.check.result)) c.args.volumes.now c.from.result entry.volume c.index-volumes-from.result is c.from.ensures lt by
