use Rattle.std.proofs.Common.{ℕ, List, refl, sym, ap, ◌∙◌}
use Rattle.catalogue_journal.specs.Catalogues.{objects_of, additions_of}
use Rattle.session_machine.specs.States as machine
use Rattle.bsa_session.specs.Sessions.{state_of}
use Rattle.bsa_session.specs.Views.{draft_of}
use Rattle.bsa_session.proofs.StagingLemmas.{waiting_view, waiting_work, with_deleted, deleted_view, deleted_refers}
use Rattle.bsa_session.proofs.session.Session.delete_object.Goals as goal

pub returns-in-Ok-clause-refers : goal.returns-in-Ok-clause-refers
returns-in-Ok-clause-refers g c =
    let t = c.take_transaction-transaction.result in
    let taken = c.take_transaction-transaction.ensures.taken in
    let is_so = sym c.is_waiting.ensures ∙ c.if-not-is_waiting.false in
    let usable = sym c.may_use.ensures ∙ c.if-not-may_use.false in
    let was = waiting_view c.args.self.now.state t taken is_so in
    let work = waiting_work c.args.self.now.state t taken is_so in
    let is = deleted_view t t.work (additions_of t.staged) c.push-staged.new.self.items work refl ∙ ap (λ (l : List ℕ). machine.waiting (with_deleted (draft_of t) l)) c.in-Ok.ensures.items in
    deleted_refers c.args.copy (objects_of c.args.cat.now) (draft_of t) (state_of c.args.self.now) _ was usable is c.requires.refers
