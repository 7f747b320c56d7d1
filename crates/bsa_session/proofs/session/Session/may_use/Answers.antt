use Rattle.std.proofs.Common.{◌≡◌, ℕ, nat_eq, List, sym, ap, ◌∙◌, subst}
use Rattle.std.specs.Prelude.{not}
use Rattle.std.specs.List.{list_any}
use Rattle.catalogue_slots.specs.Views.{object_of}
use Rattle.catalogue_replay.specs.Contents.{has_copy}
use Rattle.catalogue_journal.specs.Catalogues.{objects_of}
use Rattle.session_machine.specs.States as machine
use Rattle.bsa_session.specs.Views.{draft_of}
use Rattle.bsa_session.proofs.StagingLemmas.{waiting_view, has_copy-found, usable_unless}
use Rattle.bsa_session.proofs.session.Session.may_use.Goals as goal

pub returns-in-Some : goal.returns-in-Some
returns-in-Some g c =
    let objects = objects_of c.args.cat.now in
    let draft = draft_of c.in-Open.transaction in
    let view = waiting_view c.args.self.now.state c.in-Open.transaction c.in-Open.is c.requires.waiting in
    let found = c.in-Some.ensures.found in
    let has = has_copy-found c.args.copy objects (object_of c.in-Some.field-0.now) found.0 found.1 in
    subst (λ (s : machine.State). not c.contains.result ≡ machine.is_usable c.args.copy objects s) (sym view)
    (usable_unless (has_copy c.args.copy objects) (machine.is_deleted c.args.copy draft) c.contains.result has
    (c.contains.ensures.value ∙ ap (λ (copies : List ℕ). list_any (λ (other : ℕ). nat_eq other c.args.copy) copies) c.deref.ensures.value))
