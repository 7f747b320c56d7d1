use Rattle.std.proofs.Common.{Ok, Err, refl, ap}
use Rattle.catalogue_journal.specs.Catalogues.{capacity_of, contents_in, ids_from, used_of}
use Rattle.bsa_session.specs.Sessions.{state_of}
use Rattle.bsa_transcripts.specs.Lines.{Votes}
use Rattle.xbsa_shell.specs.Serving.{setting_of, stand_of}
use Rattle.xbsa_shell.proofs.BackLemmas.{told_as, told_uncut}
use Rattle.xbsa_shell.proofs.EndLemmas.{contents_behind, used_behind, vote_changes_nothing}
use Rattle.xbsa_shell.proofs.ShellLemmas.{refused_shell, voted_shell}
use Rattle.xbsa_shell.proofs.calls.Shell.end.Goals as goal

pub returns-in-Ok-clause-votes : goal.returns-in-Ok-clause-votes
returns-in-Ok-clause-votes g c moment =
    let e = c.in-Ok.ensures in
    let state = state_of c.args.self.now.session in
    record {
      told = record { result = Ok c.in-Ok.copies; answers = e.table; is = refl };
      contents = contents_behind c.args.vote state c.args.store.now.cat c.end_txn.new.store.cat e.committed e.aborted;
      used = used_behind c.args.vote state c.args.store.now.cat c.end_txn.new.store.cat e.used e.aborted;
    }

pub returns-in-Ok-clause-serves : goal.returns-in-Ok-clause-serves
returns-in-Ok-clause-serves g c before =
    let e = c.in-Ok.ensures in
    let was = c.args.store.now in
    voted_shell g.D.Disk c.args.self.now c.end_txn.new.self c.args.era.now c.end_txn.new.era was c.end_txn.new.store before e.era c.args.vote
    (capacity_of was.cat) (used_of was.cat) (contents_in was.cat) _ c.in-Ok.copies _ e.table e.sound e.opened e.returned e.holds e.ledger.may e.spare

pub returns-in-Err-clause-votes : goal.returns-in-Err-clause-votes
returns-in-Err-clause-votes g c moment =
    let e = c.in-Err.ensures in
    let was = c.args.store.now in
    let now = record c.args.self.now { session = c.end_txn.new.self } in
    told_as (Votes (setting_of g.D.Disk moment was) c.args.vote (stand_of g.D.Disk c.args.self.now was) (stand_of g.D.Disk now c.end_txn.new.store)) c.in-Err.code c.told.result
    c.told.ensures.told (λ uncut.
    let nothing = vote_changes_nothing c.args.vote (capacity_of was.cat) (used_of was.cat) (contents_in was.cat) _ (state_of c.args.self.now.session) (state_of c.end_txn.new.self)
    c.in-Err.code e.table uncut in
    let same = e.refused_store nothing in
    record {
      told = record { result = Err c.in-Err.code; answers = e.table; is = refl };
      contents = ap (λ store. contents_in store.cat) same;
      used = ap (λ store. used_of store.cat) same;
    })

pub returns-in-Err-clause-serves : goal.returns-in-Err-clause-serves
returns-in-Err-clause-serves g c = told_uncut c.in-Err.code c.told.result c.told.ensures.told (λ uncut before.
    let e = c.in-Err.ensures in
    let was = c.args.store.now in
    refused_shell g.D.Disk c.args.self.now c.end_txn.new.self c.args.era.now c.end_txn.new.era was c.end_txn.new.store before e.era c.args.vote
    (capacity_of was.cat) (used_of was.cat) (contents_in was.cat) _ c.in-Err.code e.table uncut e.refused e.refused_store)
