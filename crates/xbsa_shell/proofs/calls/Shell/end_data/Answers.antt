use Rattle.std.proofs.Common.{refl}
use Rattle.catalogue_journal.specs.Catalogues.{objects_of}
use Rattle.xbsa_shell.specs.Serving.{Works}
use Rattle.bsa_session.specs.Sessions.{state_of, Suits}
use Rattle.xbsa_shell.proofs.BackLemmas.{put_back, told_uncut}
use Rattle.xbsa_shell.proofs.LeadLemmas.{create_leads, send_leads, end_leads}
use Rattle.xbsa_shell.proofs.MatchLemmas.{OnOk-always}
use Rattle.xbsa_shell.proofs.ShellLemmas.{changed_shell}
use Rattle.xbsa_shell.proofs.calls.Shell.end_data.Goals as goal

pub returns-in-Ok-Some-clause-one : goal.returns-in-Ok-Some-clause-one
returns-in-Ok-Some-clause-one g c =
    put_back (λ was is. Suits g.D.Disk.is_modelled g.D.Disk.bytes (state_of c.end_on.new.session) is) c.args.self.now.volume c.args.store.now.volumes c.deref_mut.result.now c.end_on.new.volumes
    c.deref_mut.ensures.value c.in-Ok-Some.ensures.one

pub returns-in-Ok-Some-clause-works : goal.returns-in-Ok-Some-clause-works
returns-in-Ok-Some-clause-works g c objects =
    put_back (Works g.D.Disk c.args.era.now (state_of c.args.self.now.session) (state_of c.end_on.new.session) c.args.self.now.volume objects) c.args.self.now.volume
    c.args.store.now.volumes c.deref_mut.result.now c.end_on.new.volumes c.deref_mut.ensures.value (c.in-Ok-Some.ensures.works tt objects)

pub returns-in-Ok-None-clause-one : goal.returns-in-Ok-None-clause-one
returns-in-Ok-None-clause-one g c =
    put_back (λ was is. Suits g.D.Disk.is_modelled g.D.Disk.bytes (state_of c.end_on.new.session) is) c.args.self.now.volume c.args.store.now.volumes c.deref_mut.result.now c.end_on.new.volumes
    c.deref_mut.ensures.value c.in-Ok-None.ensures.one

pub returns-in-Ok-None-clause-works : goal.returns-in-Ok-None-clause-works
returns-in-Ok-None-clause-works g c objects =
    put_back (Works g.D.Disk c.args.era.now (state_of c.args.self.now.session) (state_of c.end_on.new.session) c.args.self.now.volume objects) c.args.self.now.volume
    c.args.store.now.volumes c.deref_mut.result.now c.end_on.new.volumes c.deref_mut.ensures.value (c.in-Ok-None.ensures.works tt objects)

pub returns-in-Err-clause-one : goal.returns-in-Err-clause-one
returns-in-Err-clause-one g c =
    put_back (λ was is. Suits g.D.Disk.is_modelled g.D.Disk.bytes (state_of c.end_on.new.session) is) c.args.self.now.volume c.args.store.now.volumes c.deref_mut.result.now c.end_on.new.volumes
    c.deref_mut.ensures.value c.in-Err.ensures.one

pub returns-in-Err-clause-works : goal.returns-in-Err-clause-works
returns-in-Err-clause-works g c = told_uncut c.in-Err.code c.told.result c.told.ensures.told (λ uncut objects.
    put_back (Works g.D.Disk c.args.era.now (state_of c.args.self.now.session) (state_of c.end_on.new.session) c.args.self.now.volume objects) c.args.self.now.volume
    c.args.store.now.volumes c.deref_mut.result.now c.end_on.new.volumes c.deref_mut.ensures.value (c.in-Err.ensures.works uncut objects))

pub returns-in-Ok-Some-clause-serves : goal.returns-in-Ok-Some-clause-serves
returns-in-Ok-Some-clause-serves g c before =
    let shell = c.args.self.now in
    let session = c.end_on.new.session in
    let objects = objects_of c.args.store.now.cat in
    changed_shell g.D.Disk c.args.era.now shell (record shell { session = session }) c.args.store.now _ before (record { fields = refl; volume = refl }) refl
    (returns-in-Ok-Some-clause-works g c objects) c.in-Ok-Some.ensures.sound
    (end_leads shell.volume objects (state_of shell.session) (state_of session) _ before.place before.serves.refers before.serves.there c.in-Ok-Some.ensures.table tt)
    (c.in-Ok-Some.ensures.reads objects)

pub returns-in-Ok-None-clause-serves : goal.returns-in-Ok-None-clause-serves
returns-in-Ok-None-clause-serves g c before =
    let shell = c.args.self.now in
    let session = c.end_on.new.session in
    let objects = objects_of c.args.store.now.cat in
    changed_shell g.D.Disk c.args.era.now shell (record shell { session = session }) c.args.store.now _ before (record { fields = refl; volume = refl }) refl
    (returns-in-Ok-None-clause-works g c objects) c.in-Ok-None.ensures.sound
    (end_leads shell.volume objects (state_of shell.session) (state_of session) _ before.place before.serves.refers before.serves.there c.in-Ok-None.ensures.table tt)
    (c.in-Ok-None.ensures.reads objects)

pub returns-in-Err-clause-serves : goal.returns-in-Err-clause-serves
returns-in-Err-clause-serves g c = told_uncut c.in-Err.code c.told.result c.told.ensures.told (λ uncut before.
    let shell = c.args.self.now in
    let session = c.end_on.new.session in
    let objects = objects_of c.args.store.now.cat in
    changed_shell g.D.Disk c.args.era.now shell (record shell { session = session }) c.args.store.now _ before (record { fields = refl; volume = refl }) refl
    (put_back (Works g.D.Disk c.args.era.now (state_of shell.session) (state_of session) shell.volume objects) shell.volume
    c.args.store.now.volumes c.deref_mut.result.now c.end_on.new.volumes c.deref_mut.ensures.value (c.in-Err.ensures.works uncut objects))
    c.in-Err.ensures.sound
    (end_leads shell.volume objects (state_of shell.session) (state_of session) _ before.place before.serves.refers before.serves.there c.in-Err.ensures.table uncut)
    (c.in-Err.ensures.reads objects))
