use Rattle.xbsa_shell.proofs.ShellLemmas.{delete_shell}
use Rattle.xbsa_shell.proofs.calls.Shell.delete.Goals as goal

pub returns-clause-serves : goal.returns-clause-serves
returns-clause-serves g c era before =
    delete_shell g.D.Disk c.args.self.now c.delete_object.new.self era c.args.store.now before c.args.copy c.delete_object.result c.delete_object.ensures.table
    c.delete_object.ensures.sound c.delete_object.ensures.refers c.delete_object.ensures.refused
