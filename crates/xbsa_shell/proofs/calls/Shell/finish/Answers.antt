use Rattle.std.proofs.Common.{◌≡◌, false}
use Rattle.bsa_session.specs.Sessions.{state_of}
use Rattle.session_machine.specs.Conditions.{is_broken}
use Rattle.session_machine.specs.States.{has_draft}
use Rattle.xbsa_shell.proofs.EndLemmas.{not_broken, suits_ended}
use Rattle.xbsa_shell.proofs.ShellLemmas.{terminate_shell}
use Rattle.xbsa_shell.proofs.calls.Shell.finish.Goals as goal

pub terminate-requires : goal.terminate-requires
terminate-requires g c =
    let era = c.requires.served.0 in
    let before = c.requires.served.1 in
    record {
      sound = before.serves.sound;
      store = λ fine. before.serves.opened;
      volume = suits_ended g.D.Disk era c.args.store.now c.args.self.now.volume (state_of c.args.self.now.session) before.place before.serves;
      holds = λ some. before.serves.holds;
    }

pub returns-clause-serves : goal.returns-clause-serves
returns-clause-serves g c era before =
    let e = c.terminate.ensures in
    let state = state_of c.args.self.now.session in
    terminate_shell g.D.Disk c.args.self.now c.terminate.new.self era c.args.store.now c.terminate.new.store c.terminate.result before e.cat e.table e.untouched
    (e.opened (not_broken c.args.self.now.volume state before.place)) e.holds e.returned
