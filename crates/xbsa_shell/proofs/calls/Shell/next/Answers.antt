use Rattle.std.proofs.Common.{Ok, Err}
use Rattle.catalogue_journal.specs.Catalogues.{objects_of}
use Rattle.bsa_session.specs.Sessions.{state_of}
use Rattle.xbsa_shell.proofs.MatchLemmas.{next_there, OnOk-always}
use Rattle.xbsa_shell.proofs.ShellLemmas.{next_shell}
use Rattle.xbsa_shell.proofs.calls.Shell.next.Goals as goal

pub found-requires-clause-there : goal.found-requires-clause-there
found-requires-clause-there g c =
    (next_there (objects_of c.args.store.now.cat) (state_of c.args.self.now.session) (state_of c.get_next_query_object.new.self) (Ok c.in-Ok.copy)
    c.in-Ok.ensures.table c.requires.there).0

pub returns-in-Ok-clause-there : goal.returns-in-Ok-clause-there
returns-in-Ok-clause-there g c =
    (next_there (objects_of c.args.store.now.cat) (state_of c.args.self.now.session) (state_of c.get_next_query_object.new.self) (Ok c.in-Ok.copy)
    c.in-Ok.ensures.table c.requires.there).1

pub returns-in-Err-clause-there : goal.returns-in-Err-clause-there
returns-in-Err-clause-there g c =
    (next_there (objects_of c.args.store.now.cat) (state_of c.args.self.now.session) (state_of c.get_next_query_object.new.self) (Err c.in-Err.code)
    c.in-Err.ensures.table c.requires.there).1

pub returns-in-Ok-clause-serves : goal.returns-in-Ok-clause-serves
returns-in-Ok-clause-serves g c = OnOk-always c.found.result (λ era before.
    next_shell g.D.Disk c.args.self.now c.get_next_query_object.new.self era c.args.store.now before (Ok c.in-Ok.copy) c.in-Ok.ensures.table c.in-Ok.ensures.sound c.in-Ok.ensures.refused)

pub returns-in-Err-clause-serves : goal.returns-in-Err-clause-serves
returns-in-Err-clause-serves g c = OnOk-always c.told.result (λ era before.
    next_shell g.D.Disk c.args.self.now c.get_next_query_object.new.self era c.args.store.now before (Err c.in-Err.code) c.in-Err.ensures.table c.in-Err.ensures.sound c.in-Err.ensures.refused)
