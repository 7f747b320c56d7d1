use Rattle.std.proofs.Common.{◌≡◌, List, subst}
use Rattle.catalogue_journal.specs.Catalogues.{objects_of}
use Rattle.catalogue_journal.specs.Transactions.{Addition}
use Rattle.object_store.specs.Endings.{places, HoldAll, HoldWith}
use Rattle.bsa_session.specs.declared.state.State.TheVariants as state
use Rattle.bsa_session.proofs.VotingLemmas.{open_added}
use Rattle.bsa_session.proofs.session.Session.terminate.Goals as goal

pub drop_transaction-requires-clause-holds : goal.drop_transaction-requires-clause-holds
drop_transaction-requires-clause-holds g c =
    let is : c.args.self.now.state ≡ state.Open c.in-Open.transaction = cc in
    let has = open_added c.args.self.now.state c.in-Open.transaction is in
    subst (λ (l : List Addition). HoldAll (places (objects_of c.args.store.now.cat) l) c.args.store.now.volumes.items) has.1 (c.requires.holds has.0)

pub returns-in-Open-clause-holds : goal.returns-in-Open-clause-holds
returns-in-Open-clause-holds g c drafts others hold =
    let is : c.args.self.now.state ≡ state.Open c.in-Open.transaction = cc in
    let has = open_added c.args.self.now.state c.in-Open.transaction is in
    c.drop_transaction.ensures.holds others
    (subst (λ (l : List Addition). HoldWith (places (objects_of c.args.store.now.cat) l) others c.args.store.now.volumes.items) has.1 hold)
