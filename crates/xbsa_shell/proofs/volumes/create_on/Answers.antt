use Rattle.std.proofs.Common.{◌≡◌, ◌<◌, length, get_or, arith}
use Rattle.bsa_session.specs.Sessions.{state_of, Suits}
use Rattle.object_store.proofs.ReadingLemmas.{changes_one}
use Rattle.xbsa_shell.specs.Serving.{Works}
use Rattle.session_machine.specs.declared.answers.BsaRc.TheVariants.{Success, InvalidCallSequence}
use Rattle.xbsa_shell.proofs.LeadLemmas.{create_leaves, reads_then}
use Rattle.xbsa_shell.proofs.StepLemmas.{create_works}
use Rattle.xbsa_shell.proofs.volumes.create_on.Goals as goal

pub returns-clause-one : goal.returns-clause-one
returns-clause-one g c =
    let volumes = c.args.volumes.now in
    let lt : c.from.result < length volumes = omega (arith, c.requires.within, c.from.ensures) in
    changes_one (λ was is. Suits g.D.Disk.is_modelled g.D.Disk.bytes (state_of c.create_object.new.self) is) volumes c.from.result c.args.place c.index-volumes-from.result
    c.create_object.new.volume c.from.ensures lt c.create_object.ensures.volume

pub returns-clause-works : goal.returns-clause-works
returns-clause-works g c era objects =
    let volumes = c.args.volumes.now in
    let was = get_or volumes c.from.result c.index-volumes-from.result in
    let is = c.create_object.new.volume in
    let lt : c.from.result < length volumes = omega (arith, c.requires.within, c.from.ensures) in
    changes_one (Works g.D.Disk era (state_of c.args.session.now) (state_of c.create_object.new.self) c.args.place objects) volumes c.from.result c.args.place c.index-volumes-from.result
    is c.from.ensures lt
    (create_works g.D.Disk era c.args.place objects was is c.args.bytes.now (state_of c.args.session.now) (state_of c.create_object.new.self) c.create_object.result c.requires.place
    c.create_object.ensures.table c.create_object.ensures.volume c.create_object.ensures.refused_volume c.create_object.ensures.disk c.create_object.ensures.holds)

pub returns-clause-reads : goal.returns-clause-reads
returns-clause-reads g c objects =
    let code = c.create_object.result in
    reads_then c.args.session.now c.create_object.new.self objects
    (create_leaves c.args.bytes.now (state_of c.args.session.now) (state_of c.create_object.new.self) code c.create_object.ensures.table)
    (λ (same : code ≡ InvalidCallSequence). c.create_object.ensures.refused (λ (e : code ≡ Success). cc same))
