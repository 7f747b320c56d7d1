use Rattle.std.proofs.Common.{◌∙◌, sym, subst, ap, arith, length}
use Rattle.bsa_session.proofs.OpenLemmas.{leaves_free}
use Rattle.session_machine.specs.States as machine
use Rattle.bsa_session.specs.Sessions.{Suits, Rests}
use Rattle.bsa_session.specs.Views.{draft_of}
use Rattle.bsa_session.specs.declared.state.Work.TheVariants.{Waiting}
use Rattle.bsa_session.proofs.StateLemmas.{open_view}
use Rattle.bsa_session.proofs.HoldingLemmas.{idle_sends, holds_again}
use Rattle.bsa_session.proofs.session.Session.create_object.Goals as goal

pub returns-clause-holds : goal.returns-clause-holds
returns-clause-holds g c objects holds =
    let volume = c.args.volume.now in
    let view = open_view c.args.self.now.state c.in-Open.transaction Waiting c.in-Open.is c.in-Waiting.is in
    let rests : Rests (draft_of c.in-Open.transaction) volume = subst (λ (s : machine.State). Suits g.D.Disk.is_modelled g.D.Disk.bytes s volume) view c.requires.volume in
    holds_again volume c.begin.new.self objects c.begin.ensures.live c.begin.ensures.blocks c.begin.ensures.free (c.begin.ensures.sent ∙ sym (idle_sends volume rests.idle)) holds

pub returns-clause-leaves : goal.returns-clause-leaves
returns-clause-leaves g c ok =
    leaves_free g.D.Disk.bytes c.args.volume.now c.begin.new.self c.begin.ensures.free c.begin.ensures.sent c.begin.ensures.blocks (omega (arith, ap (λ (d : _). length (g.D.Disk.bytes d)) c.begin.ensures.disk))
