use Rattle.std.proofs.Common.{ap, subst, sym}
use Rattle.bsa_session.specs.Reading.{CanReadOn}
use Rattle.bsa_session.specs.Sessions.{state_of}
use Rattle.bsa_session.specs.declared.session.Session.{Session}
use Rattle.xbsa_shell.specs.declared.calls.Shell.{Shell}
use Rattle.xbsa_shell.proofs.LeadLemmas.{init_leaves, reads_then}
use Rattle.xbsa_shell.proofs.calls.Shell.init.Goals.{then-eq, else-eq}
use Rattle.xbsa_shell.proofs.calls.Shell.init.Goals as goal

pub returns-clause-reads : goal.returns-clause-reads
returns-clause-reads c objects before =
    let reads = reads_then c.args.self.now.session c.init-code.new.self objects
    (init_leaves c.args.volume c.args.moment (state_of c.args.self.now.session) (state_of c.init-code.new.self) c.init-code.result c.init-code.ensures.table)
    c.init-code.ensures.refused before in
    elim c.if-eq.branch [
      | then-eq w ↦ subst (λ (s : Shell). CanReadOn s.session objects) (sym w.self-is) reads
      | else-eq w ↦ subst (λ (s : Shell). CanReadOn s.session objects) (sym w.self-is) reads
    ]
