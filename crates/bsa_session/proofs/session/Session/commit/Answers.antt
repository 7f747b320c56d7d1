use Rattle.std.proofs.Common.{◌≡◌, ◌+◌, false, Err, ap, sym, subst}
use Rattle.catalogue_replay.specs.declared.faults.CatFault.{CatFault}
use Rattle.catalogue_replay.specs.declared.faults.CatFault.TheVariants.{Failed}
use Rattle.catalogue_journal.specs.Catalogues.{cat_of, spare_of, capacity_of, used_of, objects_of, contents_in}
use Rattle.catalogue_journal.specs.Commits.{Ends}
use Rattle.catalogue_journal.specs.Refusals.{HasRoom}
use Rattle.catalogue_journal.specs.Transactions.{ended, slots_wanted}
use Rattle.object_store.specs.Endings.{places, HoldAll, HoldWith}
use Rattle.object_store.specs.Returns.{AllGiveBack}
use Rattle.session_machine.specs.Conditions.{IsSound, IsSoundDraft}
use Rattle.session_machine.specs.States as machine
use Rattle.bsa_session.specs.Sessions.{state_of}
use Rattle.bsa_session.specs.Views.{draft_of}
use Rattle.bsa_session.specs.Voting.{added_in, deleted_in, returned_by}
use Rattle.bsa_session.proofs.StagingLemmas.{waiting_view}
use Rattle.bsa_session.proofs.VotingLemmas.{fit_each}
use Rattle.bsa_session.proofs.session.Session.commit.Goals as goal

pub commit-requires-clause-additions : goal.commit-requires-clause-additions
commit-requires-clause-additions g c =
    let t = c.take_transaction-transaction.result in
    let was : state_of c.args.self.now ≡ machine.waiting (draft_of t) = waiting_view c.args.self.now.state t c.take_transaction-transaction.ensures.taken c.requires.waiting in
    let sound : IsSoundDraft (draft_of t) = subst IsSound was c.requires.sound in
    fit_each t.place.volume (draft_of t).added sound.added

pub commit-requires-clause-holds : goal.commit-requires-clause-holds
commit-requires-clause-holds g c =
    let t = c.take_transaction-transaction.result in
    let was : state_of c.args.self.now ≡ machine.waiting (draft_of t) = waiting_view c.args.self.now.state t c.take_transaction-transaction.ensures.taken c.requires.waiting in
    subst (λ (s : machine.State). HoldAll (places (objects_of c.args.store.now.cat) (added_in s)) c.args.store.now.volumes.items) was c.requires.holds

pub returns-in-Ok-clause-returned : goal.returns-in-Ok-clause-returned
returns-in-Ok-clause-returned g c =
    let t = c.take_transaction-transaction.result in
    let was : state_of c.args.self.now ≡ machine.waiting (draft_of t) = waiting_view c.args.self.now.state t c.take_transaction-transaction.ensures.taken c.requires.waiting in
    subst (λ (s : machine.State). AllGiveBack g.D.Disk.is_modelled g.D.Disk.bytes (returned_by 1 (objects_of c.args.store.now.cat) s) c.args.store.now.volumes.items c.commit.new.self.volumes.items)
    (sym was) c.in-Ok.ensures.returned

pub returns-in-Ok-clause-room : goal.returns-in-Ok-clause-room
returns-in-Ok-clause-room g c =
    let t = c.take_transaction-transaction.result in
    let was : state_of c.args.self.now ≡ machine.waiting (draft_of t) = waiting_view c.args.self.now.state t c.take_transaction-transaction.ensures.taken c.requires.waiting in
    let cat = c.args.store.now.cat in
    subst (λ (s : machine.State). HasRoom (capacity_of cat) (used_of cat) (deleted_in s) (added_in s) (contents_in cat))
    (sym was) c.in-Ok.ensures.room

pub returns-in-Err-Failed-false-clause-failed_room : goal.returns-in-Err-Failed-false-clause-failed_room
returns-in-Err-Failed-false-clause-failed_room g c is =
    let t = c.take_transaction-transaction.result in
    let was : state_of c.args.self.now ≡ machine.waiting (draft_of t) = waiting_view c.args.self.now.state t c.take_transaction-transaction.ensures.taken c.requires.waiting in
    let told : c.in-Err-Failed-false.field-0 ≡ Failed false = cc in
    let cat = c.args.store.now.cat in
    subst (λ (s : machine.State). HasRoom (capacity_of cat) (used_of cat) (deleted_in s) (added_in s) (contents_in cat))
    (sym was) (c.in-Err-Failed-false.ensures.failed_room false (ap (λ (fault : CatFault). Err fault) told))

pub returns-in-Ok-clause-holds : goal.returns-in-Ok-clause-holds
returns-in-Ok-clause-holds g c others hold =
    let t = c.take_transaction-transaction.result in
    let was : state_of c.args.self.now ≡ machine.waiting (draft_of t) = waiting_view c.args.self.now.state t c.take_transaction-transaction.ensures.taken c.requires.waiting in
    c.in-Ok.ensures.holds others (subst (λ (s : machine.State). HoldWith (places (objects_of c.args.store.now.cat) (added_in s)) others c.args.store.now.volumes.items) was hold)

pub returns-in-Ok-clause-ends : goal.returns-in-Ok-clause-ends
returns-in-Ok-clause-ends g c tells stands =
    let t = c.take_transaction-transaction.result in
    let was : state_of c.args.self.now ≡ machine.waiting (draft_of t) = waiting_view c.args.self.now.state t c.take_transaction-transaction.ensures.taken c.requires.waiting in
    let cat = c.args.store.now.cat in
    let contents = contents_in cat in
    subst (λ (s : machine.State). Ends (c.args.era.now.number + 1) (capacity_of cat) (slots_wanted (deleted_in s) (added_in s)) contents (ended (deleted_in s) (added_in s) contents)
    (g.D.Disk.image (cat_of cat)) (g.D.Disk.image (spare_of cat)) (g.D.Disk.image (cat_of c.commit.new.self.cat)) (g.D.Disk.image (spare_of c.commit.new.self.cat)))
    (sym was) (c.commit.ensures.ends tells stands)

pub returns-in-Err-TooManyObjects-clause-ends : goal.returns-in-Err-TooManyObjects-clause-ends
returns-in-Err-TooManyObjects-clause-ends g c tells stands =
    let t = c.take_transaction-transaction.result in
    let was : state_of c.args.self.now ≡ machine.waiting (draft_of t) = waiting_view c.args.self.now.state t c.take_transaction-transaction.ensures.taken c.requires.waiting in
    let cat = c.args.store.now.cat in
    let contents = contents_in cat in
    subst (λ (s : machine.State). Ends (c.args.era.now.number + 1) (capacity_of cat) (slots_wanted (deleted_in s) (added_in s)) contents (ended (deleted_in s) (added_in s) contents)
    (g.D.Disk.image (cat_of cat)) (g.D.Disk.image (spare_of cat)) (g.D.Disk.image (cat_of c.commit.new.self.cat)) (g.D.Disk.image (spare_of c.commit.new.self.cat)))
    (sym was) (c.commit.ensures.ends tells stands)

pub returns-in-Err-CatalogueFull-clause-ends : goal.returns-in-Err-CatalogueFull-clause-ends
returns-in-Err-CatalogueFull-clause-ends g c tells stands =
    let t = c.take_transaction-transaction.result in
    let was : state_of c.args.self.now ≡ machine.waiting (draft_of t) = waiting_view c.args.self.now.state t c.take_transaction-transaction.ensures.taken c.requires.waiting in
    let cat = c.args.store.now.cat in
    let contents = contents_in cat in
    subst (λ (s : machine.State). Ends (c.args.era.now.number + 1) (capacity_of cat) (slots_wanted (deleted_in s) (added_in s)) contents (ended (deleted_in s) (added_in s) contents)
    (g.D.Disk.image (cat_of cat)) (g.D.Disk.image (spare_of cat)) (g.D.Disk.image (cat_of c.commit.new.self.cat)) (g.D.Disk.image (spare_of c.commit.new.self.cat)))
    (sym was) (c.commit.ensures.ends tells stands)

pub returns-in-Err-Failed-false-clause-ends : goal.returns-in-Err-Failed-false-clause-ends
returns-in-Err-Failed-false-clause-ends g c tells stands =
    let t = c.take_transaction-transaction.result in
    let was : state_of c.args.self.now ≡ machine.waiting (draft_of t) = waiting_view c.args.self.now.state t c.take_transaction-transaction.ensures.taken c.requires.waiting in
    let cat = c.args.store.now.cat in
    let contents = contents_in cat in
    subst (λ (s : machine.State). Ends (c.args.era.now.number + 1) (capacity_of cat) (slots_wanted (deleted_in s) (added_in s)) contents (ended (deleted_in s) (added_in s) contents)
    (g.D.Disk.image (cat_of cat)) (g.D.Disk.image (spare_of cat)) (g.D.Disk.image (cat_of c.commit.new.self.cat)) (g.D.Disk.image (spare_of c.commit.new.self.cat)))
    (sym was) (c.commit.ensures.ends tells stands)

pub returns-in-Err-OutOfMemory-clause-ends : goal.returns-in-Err-OutOfMemory-clause-ends
returns-in-Err-OutOfMemory-clause-ends g c tells stands =
    let t = c.take_transaction-transaction.result in
    let was : state_of c.args.self.now ≡ machine.waiting (draft_of t) = waiting_view c.args.self.now.state t c.take_transaction-transaction.ensures.taken c.requires.waiting in
    let cat = c.args.store.now.cat in
    let contents = contents_in cat in
    subst (λ (s : machine.State). Ends (c.args.era.now.number + 1) (capacity_of cat) (slots_wanted (deleted_in s) (added_in s)) contents (ended (deleted_in s) (added_in s) contents)
    (g.D.Disk.image (cat_of cat)) (g.D.Disk.image (spare_of cat)) (g.D.Disk.image (cat_of c.commit.new.self.cat)) (g.D.Disk.image (spare_of c.commit.new.self.cat)))
    (sym was) (c.commit.ensures.ends tells stands)
