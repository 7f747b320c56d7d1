use Rattle.std.proofs.Common.{Ok, Err, length}
use Rattle.xbsa_shell.proofs.BackLemmas.{told_uncut}
use Rattle.xbsa_shell.proofs.ShellLemmas.{data_shell}
use Rattle.xbsa_shell.proofs.calls.Shell.data_into.Goals as goal

pub returns-in-Ok-clause-serves : goal.returns-in-Ok-clause-serves
returns-in-Ok-clause-serves g c before =
    let e = c.in-Ok.ensures in
    data_shell g.D.Disk c.args.self.now c.get_data.new.self c.args.era.now c.args.store.now c.get_data.new.store e.cat _ before e.sound e.refers _ (length c.args.into.now) _
    (Ok c.in-Ok.given) e.table tt e.reads_on e.untouched e.given e.reads

pub returns-in-Err-clause-serves : goal.returns-in-Err-clause-serves
returns-in-Err-clause-serves g c = told_uncut c.in-Err.code c.told.result c.told.ensures.told (λ uncut before.
    let e = c.in-Err.ensures in
    data_shell g.D.Disk c.args.self.now c.get_data.new.self c.args.era.now c.args.store.now c.get_data.new.store e.cat _ before e.sound e.refers _ (length c.args.into.now) _
    (Err c.in-Err.code) e.table uncut e.reads_on e.untouched e.given e.reads)
