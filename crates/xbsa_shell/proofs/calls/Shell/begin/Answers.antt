use Rattle.bsa_session.specs.Sessions.{state_of}
use Rattle.xbsa_shell.proofs.LeadLemmas.{begin_leaves, reads_then}
use Rattle.xbsa_shell.proofs.calls.Shell.begin.Goals as goal

pub returns-clause-reads : goal.returns-clause-reads
returns-clause-reads c objects =
    reads_then c.args.self.now.session c.begin_txn.new.self objects
    (begin_leaves (state_of c.args.self.now.session) (state_of c.begin_txn.new.self) c.begin_txn.result c.begin_txn.ensures.table) c.begin_txn.ensures.refused
