use Rattle.std.proofs.Common.{◌≡◌, true, false, length, sym, ap, ◌∙◌, arith}
use Rattle.catalogue_slots.specs.Records.{Object}
use Rattle.catalogue_slots.specs.Views.{object_of}
use Rattle.catalogue_journal.specs.Catalogues.{objects_of}
use Rattle.object_store.specs.Reading.{IsRead}
use Rattle.bsa_session.specs.Sessions.{state_of}
use Rattle.bsa_session.proofs.FetchingLemmas.{waiting_stands, found_kept, one_of}
use Rattle.bsa_session.proofs.session.Session.get_object.Goals as goal

pub check_object-requires-clause-within : goal.check_object-requires-clause-within
check_object-requires-clause-within g c =
    let opened = c.requires.store (waiting_stands (state_of c.args.self.now) (sym c.is_waiting.ensures ∙ c.if-not-is_waiting.false)) in
    let kept = found_kept c.args.copy (objects_of c.args.store.now.cat) (object_of c.in-Some.entry.now) opened.cat.contents.each c.in-Some.ensures.found in
    let fits = kept.fits.volume in
    let count : length c.deref_mut.result.now ≡ 17 = ap length c.deref_mut.ensures.value ∙ opened.count in
    omega (arith, fits, count)

pub returns-in-Ok-Sound-clause-reads : goal.returns-in-Ok-Sound-clause-reads
returns-in-Ok-Sound-clause-reads g c usable object is =
    one_of (λ (o : Object). IsRead g.D.Disk c.args.era.now o.size false) c.args.store.now.volumes c.deref_mut.result.now c.check_object.new.volumes c.args.copy (objects_of c.args.store.now.cat)
    (object_of c.in-Some.entry.now) object c.in-Some.ensures.found is c.deref_mut.ensures.value c.in-Ok-Sound.ensures.one

pub returns-in-Ok-Damaged-clause-reads : goal.returns-in-Ok-Damaged-clause-reads
returns-in-Ok-Damaged-clause-reads g c usable object is =
    one_of (λ (o : Object). IsRead g.D.Disk c.args.era.now o.size false) c.args.store.now.volumes c.deref_mut.result.now c.check_object.new.volumes c.args.copy (objects_of c.args.store.now.cat)
    (object_of c.in-Some.entry.now) object c.in-Some.ensures.found is c.deref_mut.ensures.value c.in-Ok-Damaged.ensures.one

pub returns-in-Ok-Short-clause-reads : goal.returns-in-Ok-Short-clause-reads
returns-in-Ok-Short-clause-reads g c usable object is =
    one_of (λ (o : Object). IsRead g.D.Disk c.args.era.now o.size false) c.args.store.now.volumes c.deref_mut.result.now c.check_object.new.volumes c.args.copy (objects_of c.args.store.now.cat)
    (object_of c.in-Some.entry.now) object c.in-Some.ensures.found is c.deref_mut.ensures.value c.in-Ok-Short.ensures.one

pub returns-in-Err-clause-reads : goal.returns-in-Err-clause-reads
returns-in-Err-clause-reads g c usable object is =
    one_of (λ (o : Object). IsRead g.D.Disk c.args.era.now o.size true) c.args.store.now.volumes c.deref_mut.result.now c.check_object.new.volumes c.args.copy (objects_of c.args.store.now.cat)
    (object_of c.in-Some.entry.now) object c.in-Some.ensures.found is c.deref_mut.ensures.value c.in-Err.ensures.one
