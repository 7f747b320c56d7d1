use Rattle.std.proofs.Common.{◌≡◌, ℕ, true, false, Some, length, ap, ◌∙◌, subst, arith}
use Rattle.catalogue_slots.specs.Records.{Object}
use Rattle.catalogue_slots.specs.Views.{object_of}
use Rattle.catalogue_journal.specs.Catalogues.{objects_of}
use Rattle.object_store.specs.Reading.{IsRead}
use Rattle.session_machine.specs.Calls.{object_with}
use Rattle.bsa_session.proofs.FetchingLemmas.{reading_stands, reading_next, reading_copy, found_kept, one_of}
use Rattle.bsa_session.proofs.session.Session.get_data.Goals as goal

pub read_object-requires-clause-within : goal.read_object-requires-clause-within
read_object-requires-clause-within g c =
    let s = c.args.self.now.state in
    let reading = c.in-Some.reading in
    let objects = objects_of c.args.store.now.cat in
    let opened = c.requires.store (reading_stands s reading c.in-Some.ensures) in
    let kept = found_kept reading.copy objects (object_of c.in-Some-find_object.entry.now) opened.cat.contents.each c.in-Some-find_object.ensures.found in
    let fits = kept.fits.volume in
    let count : length c.deref_mut.result.now ≡ 17 = ap length c.deref_mut.ensures.value ∙ opened.count in
    omega (arith, fits, count)

pub read_object-requires-clause-stands : goal.read_object-requires-clause-stands
read_object-requires-clause-stands g c =
    let s = c.args.self.now.state in
    let objects = objects_of c.args.store.now.cat in
    let next = reading_next s c.in-Some.reading c.in-Some.ensures objects c.requires.reads_on in
    next.stands (object_of c.in-Some-find_object.entry.now) c.in-Some-find_object.ensures.found

pub overflow_add-reading : goal.overflow_add-reading
overflow_add-reading g c =
    let s = c.args.self.now.state in
    let reading = c.in-Some.reading in
    let objects = objects_of c.args.store.now.cat in
    let opened = c.requires.store (reading_stands s reading c.in-Some.ensures) in
    let next = reading_next s reading c.in-Some.ensures objects c.requires.reads_on in
    let kept = found_kept reading.copy objects (object_of c.in-Some-find_object.entry.now) opened.cat.contents.each c.in-Some-find_object.ensures.found in
    let fits = kept.fits.size in
    let offset = next.offset in
    let bound = c.in-Ok.ensures.bound in
    omega (arith, fits, offset, bound)

pub returns-in-Ok-eq0-clause-reads : goal.returns-in-Ok-eq0-clause-reads
returns-in-Ok-eq0-clause-reads g c draft copy at object is found lt =
    let s = c.args.self.now.state in
    let reading = c.in-Some.reading in
    let objects = objects_of c.args.store.now.cat in
    let same : copy ≡ reading.copy = reading_copy s reading c.in-Some.ensures draft copy at is in
    one_of (λ (o : Object). IsRead g.D.Disk c.args.era.now (length c.args.into.now) false) c.args.store.now.volumes c.deref_mut.result.now c.read_object.new.volumes reading.copy objects
    (object_of c.in-Some-find_object.entry.now) object c.in-Some-find_object.ensures.found (subst (λ (n : ℕ). object_with n objects ≡ Some object) same found) c.deref_mut.ensures.value c.in-Ok-eq0.ensures.one

pub returns-in-Ok-clause-reads : goal.returns-in-Ok-clause-reads
returns-in-Ok-clause-reads g c draft copy at object is found lt =
    let s = c.args.self.now.state in
    let reading = c.in-Some.reading in
    let objects = objects_of c.args.store.now.cat in
    let same : copy ≡ reading.copy = reading_copy s reading c.in-Some.ensures draft copy at is in
    one_of (λ (o : Object). IsRead g.D.Disk c.args.era.now (length c.args.into.now) false) c.args.store.now.volumes c.deref_mut.result.now c.read_object.new.volumes reading.copy objects
    (object_of c.in-Some-find_object.entry.now) object c.in-Some-find_object.ensures.found (subst (λ (n : ℕ). object_with n objects ≡ Some object) same found) c.deref_mut.ensures.value c.in-Ok.ensures.one

pub returns-in-Err-clause-reads : goal.returns-in-Err-clause-reads
returns-in-Err-clause-reads g c draft copy at object is found lt =
    let s = c.args.self.now.state in
    let reading = c.in-Some.reading in
    let objects = objects_of c.args.store.now.cat in
    let same : copy ≡ reading.copy = reading_copy s reading c.in-Some.ensures draft copy at is in
    one_of (λ (o : Object). IsRead g.D.Disk c.args.era.now (length c.args.into.now) true) c.args.store.now.volumes c.deref_mut.result.now c.read_object.new.volumes reading.copy objects
    (object_of c.in-Some-find_object.entry.now) object c.in-Some-find_object.ensures.found (subst (λ (n : ℕ). object_with n objects ≡ Some object) same found) c.deref_mut.ensures.value c.in-Err.ensures.one
