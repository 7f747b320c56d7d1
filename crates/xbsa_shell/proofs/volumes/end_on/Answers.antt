use Rattle.std.proofs.Common.{◌<◌, length, get_or, arith}
use Rattle.bsa_session.specs.Sessions.{state_of, Suits}
use Rattle.object_store.proofs.ReadingLemmas.{changes_one}
use Rattle.xbsa_shell.specs.Serving.{Works}
use Rattle.xbsa_shell.proofs.LeadLemmas.{end_leaves, reads_then}
use Rattle.xbsa_shell.proofs.StepLemmas.{end_works}
use Rattle.xbsa_shell.proofs.volumes.end_on.Goals as goal

pub returns-clause-one : goal.returns-clause-one
returns-clause-one g c =
    let volumes = c.args.volumes.now in
    let lt : c.from.result < length volumes = omega (arith, c.requires.within, c.from.ensures) in
    changes_one (λ was is. Suits g.D.Disk.is_modelled g.D.Disk.bytes (state_of c.end_data.new.self) is) volumes c.from.result c.args.place c.index-volumes-from.result
    c.end_data.new.volume c.from.ensures lt c.end_data.ensures.volume

pub returns-clause-works : goal.returns-clause-works
returns-clause-works g c uncut objects =
    let volumes = c.args.volumes.now in
    let was = get_or volumes c.from.result c.index-volumes-from.result in
    let is = c.end_data.new.volume in
    let lt : c.from.result < length volumes = omega (arith, c.requires.within, c.from.ensures) in
    changes_one (Works g.D.Disk c.args.era.now (state_of c.args.session.now) (state_of c.end_data.new.self) c.args.place objects) volumes c.from.result c.args.place
    c.index-volumes-from.result is c.from.ensures lt
    (end_works g.D.Disk c.args.era.now c.args.place objects was is _ _ (state_of c.args.session.now) (state_of c.end_data.new.self) c.end_data.result c.requires.place
    c.end_data.ensures.table uncut c.end_data.ensures.volume c.end_data.ensures.others c.end_data.ensures.holds c.end_data.ensures.ledger)

pub returns-clause-reads : goal.returns-clause-reads
returns-clause-reads g c objects =
    reads_then c.args.session.now c.end_data.new.self objects
    (end_leaves (state_of c.args.session.now) (state_of c.end_data.new.self) c.end_data.result c.end_data.ensures.table) c.end_data.ensures.refused
