use Rattle.std.proofs.Common.{refl}
use Rattle.catalogue_journal.specs.Catalogues.{objects_of}
use Rattle.xbsa_shell.specs.Serving.{Works}
use Rattle.bsa_session.specs.Sessions.{state_of, Suits}
use Rattle.xbsa_shell.proofs.BackLemmas.{put_back, told_uncut}
use Rattle.xbsa_shell.proofs.LeadLemmas.{create_leads, send_leads, end_leads}
use Rattle.xbsa_shell.proofs.MatchLemmas.{OnOk-always}
use Rattle.xbsa_shell.proofs.ShellLemmas.{changed_shell}
use Rattle.xbsa_shell.proofs.calls.Shell.send.Goals as goal

pub returns-clause-one : goal.returns-clause-one
returns-clause-one g c =
    put_back (λ was is. Suits g.D.Disk.is_modelled g.D.Disk.bytes (state_of c.send_on.new.session) is) c.args.self.now.volume c.args.store.now.volumes c.deref_mut.result.now c.send_on.new.volumes
    c.deref_mut.ensures.value c.send_on.ensures.one

pub returns-clause-works : goal.returns-clause-works
returns-clause-works g c = told_uncut c.send_on.result c.told.result c.told.ensures.told (λ uncut objects.
    put_back (Works g.D.Disk c.args.era.now (state_of c.args.self.now.session) (state_of c.send_on.new.session) c.args.self.now.volume objects) c.args.self.now.volume
    c.args.store.now.volumes c.deref_mut.result.now c.send_on.new.volumes c.deref_mut.ensures.value (c.send_on.ensures.works uncut objects))

pub returns-clause-serves : goal.returns-clause-serves
returns-clause-serves g c = told_uncut c.send_on.result c.told.result c.told.ensures.told (λ uncut before.
    let shell = c.args.self.now in
    let session = c.send_on.new.session in
    let objects = objects_of c.args.store.now.cat in
    changed_shell g.D.Disk c.args.era.now shell (record shell { session = session }) c.args.store.now _ before (record { fields = refl; volume = refl }) refl
    (put_back (Works g.D.Disk c.args.era.now (state_of shell.session) (state_of session) shell.volume objects) shell.volume
    c.args.store.now.volumes c.deref_mut.result.now c.send_on.new.volumes c.deref_mut.ensures.value (c.send_on.ensures.works uncut objects))
    c.send_on.ensures.sound
    (send_leads shell.volume objects (state_of shell.session) (state_of session) c.send_on.result before.place before.serves.refers before.serves.there c.send_on.ensures.table uncut)
    (c.send_on.ensures.reads objects))
