use Rattle.std.proofs.Common.{refl}
use Rattle.catalogue_journal.specs.Catalogues.{objects_of}
use Rattle.xbsa_shell.specs.Serving.{Works}
use Rattle.bsa_session.specs.Sessions.{state_of, Suits}
use Rattle.xbsa_shell.proofs.BackLemmas.{put_back, told_uncut}
use Rattle.xbsa_shell.proofs.LeadLemmas.{create_leads, send_leads, end_leads}
use Rattle.xbsa_shell.proofs.MatchLemmas.{OnOk-always}
use Rattle.xbsa_shell.proofs.ShellLemmas.{changed_shell}
use Rattle.xbsa_shell.proofs.calls.Shell.create.Goals as goal

pub returns-clause-one : goal.returns-clause-one
returns-clause-one g c =
    put_back (λ was is. Suits g.D.Disk.is_modelled g.D.Disk.bytes (state_of c.create_on.new.session) is) c.args.self.now.volume c.args.store.now.volumes c.deref_mut.result.now c.create_on.new.volumes
    c.deref_mut.ensures.value c.create_on.ensures.one

pub returns-clause-works : goal.returns-clause-works
returns-clause-works g c era objects =
    put_back (Works g.D.Disk era (state_of c.args.self.now.session) (state_of c.create_on.new.session) c.args.self.now.volume objects) c.args.self.now.volume c.args.store.now.volumes
    c.deref_mut.result.now c.create_on.new.volumes c.deref_mut.ensures.value (c.create_on.ensures.works era objects)

pub returns-clause-serves : goal.returns-clause-serves
returns-clause-serves g c = OnOk-always c.told.result (λ era before.
    let shell = c.args.self.now in
    let session = c.create_on.new.session in
    let objects = objects_of c.args.store.now.cat in
    changed_shell g.D.Disk era shell (record shell { session = session }) c.args.store.now _ before (record { fields = refl; volume = refl }) refl
    (returns-clause-works g c era objects) c.create_on.ensures.sound
    (create_leads shell.volume objects _ (state_of shell.session) (state_of session) c.create_on.result before.place before.serves.refers before.serves.there c.create_on.ensures.table)
    (c.create_on.ensures.reads objects))
