use Rattle.std.proofs.Common.{◌≡◌, false, nat_eq, List, map, sym, ap, ◌∙◌, subst, arith, ne_eqb}
use Rattle.catalogue_journal.specs.Catalogues.{objects_of}
use Rattle.object_store.specs.Endings.{places, HoldAll, HoldWith}
use Rattle.object_store.specs.Returns.{Placed, place_of_addition, AllGiveBack}
use Rattle.session_machine.specs.Conditions.{IsSound, IsSoundDraft}
use Rattle.session_machine.specs.States as machine
use Rattle.bsa_session.specs.Sessions.{state_of}
use Rattle.bsa_session.specs.Views.{draft_of}
use Rattle.bsa_session.specs.Voting.{added_in}
use Rattle.bsa_session.proofs.StagingLemmas.{waiting_view}
use Rattle.bsa_session.proofs.VotingLemmas.{fit_each, ends_before, returned_else}
use Rattle.bsa_session.proofs.session.Session.end_txn.Goals as goal

pub returns-then-not-is_waiting-clause-ends : goal.returns-then-not-is_waiting-clause-ends
returns-then-not-is_waiting-clause-ends g c vote tells stands = ends_before

pub abort-requires-clause-additions : goal.abort-requires-clause-additions
abort-requires-clause-additions g c =
    let t = c.take_transaction-transaction.result in
    let is_so = sym c.is_waiting.ensures ∙ c.if-not-is_waiting.false in
    let was : state_of c.args.self.now ≡ machine.waiting (draft_of t) = waiting_view c.args.self.now.state t c.take_transaction-transaction.ensures.taken is_so in
    let sound : IsSoundDraft (draft_of t) = subst IsSound was c.requires.sound in
    fit_each t.place.volume (draft_of t).added sound.added

pub abort-requires-clause-holds : goal.abort-requires-clause-holds
abort-requires-clause-holds g c =
    let t = c.take_transaction-transaction.result in
    let is_so = sym c.is_waiting.ensures ∙ c.if-not-is_waiting.false in
    let was : state_of c.args.self.now ≡ machine.waiting (draft_of t) = waiting_view c.args.self.now.state t c.take_transaction-transaction.ensures.taken is_so in
    subst (λ (s : machine.State). HoldAll (places (objects_of c.args.store.now.cat) (added_in s)) c.args.store.now.volumes.items) was (c.requires.holds is_so)

pub returns-clause-returned : goal.returns-clause-returned
returns-clause-returned g c =
    let t = c.take_transaction-transaction.result in
    let is_so = sym c.is_waiting.ensures ∙ c.if-not-is_waiting.false in
    let was : state_of c.args.self.now ≡ machine.waiting (draft_of t) = waiting_view c.args.self.now.state t c.take_transaction-transaction.ensures.taken is_so in
    let not_one : nat_eq c.args.vote 1 ≡ false = ne_eqb c.args.vote 1 (λ (e : c.args.vote ≡ 1). absurd (omega (arith, e))) in
    subst (λ (l : List Placed). AllGiveBack g.D.Disk.is_modelled g.D.Disk.bytes l c.args.store.now.volumes.items c.abort.new.self.volumes.items)
    (sym (returned_else c.args.vote (objects_of c.args.store.now.cat) (state_of c.args.self.now) not_one ∙ ap (λ (s : machine.State). map place_of_addition (added_in s)) was))
    c.abort.ensures.returned

pub returns-clause-holds : goal.returns-clause-holds
returns-clause-holds g c others hold =
    let t = c.take_transaction-transaction.result in
    let is_so = sym c.is_waiting.ensures ∙ c.if-not-is_waiting.false in
    let was : state_of c.args.self.now ≡ machine.waiting (draft_of t) = waiting_view c.args.self.now.state t c.take_transaction-transaction.ensures.taken is_so in
    c.abort.ensures.holds others (subst (λ (s : machine.State). HoldWith (places (objects_of c.args.store.now.cat) (added_in s)) others c.args.store.now.volumes.items) was hold)
