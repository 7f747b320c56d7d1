use Rattle.std.proofs.Common.{◌≡◌, sym, subst, ◌<◌, length, get_or, arith}
use Rattle.bsa_session.specs.Sessions.{state_of, Suits}
use Rattle.object_store.proofs.ReadingLemmas.{changes_one}
use Rattle.xbsa_shell.specs.Serving.{Works}
use Rattle.session_machine.specs.Answers.{IsNoFailure}
use Rattle.session_machine.specs.declared.answers.BsaRc.TheVariants.{InvalidCallSequence}
use Rattle.xbsa_shell.proofs.LeadLemmas.{reads_then, send_leaves}
use Rattle.xbsa_shell.proofs.StepLemmas.{send_works}
use Rattle.xbsa_shell.proofs.volumes.send_on.Goals as goal

pub returns-clause-one : goal.returns-clause-one
returns-clause-one g c =
    let volumes = c.args.volumes.now in
    let lt : c.from.result < length volumes = omega (arith, c.requires.within, c.from.ensures) in
    changes_one (λ was is. Suits g.D.Disk.is_modelled g.D.Disk.bytes (state_of c.send_data.new.self) is) volumes c.from.result c.args.place c.index-volumes-from.result
    c.send_data.new.volume c.from.ensures lt c.send_data.ensures.volume

pub returns-clause-works : goal.returns-clause-works
returns-clause-works g c uncut objects =
    let volumes = c.args.volumes.now in
    let was = get_or volumes c.from.result c.index-volumes-from.result in
    let is = c.send_data.new.volume in
    let lt : c.from.result < length volumes = omega (arith, c.requires.within, c.from.ensures) in
    changes_one (Works g.D.Disk c.args.era.now (state_of c.args.session.now) (state_of c.send_data.new.self) c.args.place objects) volumes c.from.result c.args.place
    c.index-volumes-from.result is c.from.ensures lt
    (send_works g.D.Disk c.args.era.now c.args.place objects was is _ _ (state_of c.args.session.now) (state_of c.send_data.new.self) c.send_data.result c.requires.place
    c.send_data.ensures.table uncut c.send_data.ensures.volume c.send_data.ensures.invalid c.send_data.ensures.untaken c.send_data.ensures.holds c.send_data.ensures.ledger)

pub returns-clause-reads : goal.returns-clause-reads
returns-clause-reads g c objects =
    let code = c.send_data.result in
    reads_then c.args.session.now c.send_data.new.self objects (send_leaves (state_of c.args.session.now) (state_of c.send_data.new.self) code c.send_data.ensures.table)
    (λ (same : code ≡ InvalidCallSequence). c.send_data.ensures.refused (subst IsNoFailure (sym same) tt))
