use Rattle.std.proofs.Common.{◌≡◌, ◌∙◌, sym}
use Rattle.session_machine.specs.declared.answers.BsaRc.TheVariants.{Success, NoResources}
use Rattle.session_machine.specs.declared.answers.Lack.TheVariants.{Blocks}
use Rattle.bsa_session.specs.Sessions.{state_of}
use Rattle.bsa_session.proofs.HoldingLemmas.{holds_grown}
use Rattle.bsa_session.proofs.OpenLemmas.{leaves_grown}
use Rattle.bsa_session.proofs.SendingLemmas.{receives_open, full_not}
use Rattle.bsa_session.proofs.session.Session.send_data.Goals as goal

pub returns-in-Ok-clause-sends : goal.returns-in-Ok-clause-sends
returns-in-Ok-clause-sends g c message sends ok = c.in-Ok.ensures.sends message sends

pub returns-in-Ok-clause-store_full : goal.returns-in-Ok-clause-store_full
returns-in-Ok-clause-store_full g c is_so message sends =
    full_not Success (λ (e : Success ≡ NoResources Blocks). cc) (λ e. cc) (c.in-Ok.ensures.store_full message sends)

pub returns-in-Ok-clause-holds : goal.returns-in-Ok-clause-holds
returns-in-Ok-clause-holds g c ok objects holds =
    let is_so = sym c.is_sending.ensures ∙ c.if-not-is_sending.false in
    let begun = (receives_open g.D.Disk.is_modelled g.D.Disk.bytes c.args.volume.now (state_of c.args.self.now) is_so c.requires.volume).1 in
    holds_grown c.args.volume.now c.send.new.self _ objects (λ runs live. c.in-Ok.ensures.live runs live) (c.in-Ok.ensures.taken begun.message begun.sends) holds

pub returns-in-Ok-clause-leaves : goal.returns-in-Ok-clause-leaves
returns-in-Ok-clause-leaves g c tells ok =
    let is_so = sym c.is_sending.ensures ∙ c.if-not-is_sending.false in
    let begun = (receives_open g.D.Disk.is_modelled g.D.Disk.bytes c.args.volume.now (state_of c.args.self.now) is_so c.requires.volume).1 in
    leaves_grown g.D.Disk.bytes c.args.volume.now c.send.new.self _ (c.in-Ok.ensures.taken begun.message begun.sends) (c.in-Ok.ensures.spared tells).no_shorter

pub returns-in-Ok-clause-taken : goal.returns-in-Ok-clause-taken
returns-in-Ok-clause-taken g c message sends ok = c.in-Ok.ensures.taken message sends
