use Rattle.std.proofs.Common.{Ok, Err}
use Rattle.catalogue_journal.specs.Catalogues.{objects_of}
use Rattle.bsa_session.specs.Sessions.{state_of}
use Rattle.xbsa_shell.proofs.MatchLemmas.{queries_there, OnOk-always}
use Rattle.xbsa_shell.proofs.ShellLemmas.{query_shell}
use Rattle.xbsa_shell.proofs.calls.Shell.query.Goals as goal

pub found-requires-clause-there : goal.found-requires-clause-there
found-requires-clause-there g c =
    (queries_there (objects_of c.args.store.now.cat) _ (state_of c.args.self.now.session) (state_of c.query_object.new.self) c.in-Ok.copy c.in-Ok.ensures.table).0

pub returns-in-Ok-clause-there : goal.returns-in-Ok-clause-there
returns-in-Ok-clause-there g c = OnOk-always c.found.result (λ there.
    (queries_there (objects_of c.args.store.now.cat) _ (state_of c.args.self.now.session) (state_of c.query_object.new.self) c.in-Ok.copy c.in-Ok.ensures.table).1)

pub returns-in-Ok-clause-serves : goal.returns-in-Ok-clause-serves
returns-in-Ok-clause-serves g c = OnOk-always c.found.result (λ era before.
    query_shell g.D.Disk c.args.self.now c.query_object.new.self era c.args.store.now before _ (Ok c.in-Ok.copy) c.in-Ok.ensures.table c.in-Ok.ensures.sound c.in-Ok.ensures.refers tt)

pub returns-in-Err-clause-serves : goal.returns-in-Err-clause-serves
returns-in-Err-clause-serves g c = OnOk-always c.told.result (λ era before.
    query_shell g.D.Disk c.args.self.now c.query_object.new.self era c.args.store.now before _ (Err c.in-Err.code) c.in-Err.ensures.table c.in-Err.ensures.sound c.in-Err.ensures.refers
    c.in-Err.ensures.refused)
