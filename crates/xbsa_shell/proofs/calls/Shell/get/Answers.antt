use Rattle.std.proofs.Common.{Ok, Err}
use Rattle.xbsa_shell.proofs.BackLemmas.{told_uncut}
use Rattle.xbsa_shell.proofs.ShellLemmas.{get_shell}
use Rattle.xbsa_shell.proofs.calls.Shell.get.Goals as goal

pub returns-in-Ok-clause-serves : goal.returns-in-Ok-clause-serves
returns-in-Ok-clause-serves g c before =
    let e = c.in-Ok.ensures in
    get_shell g.D.Disk c.args.self.now c.get_object.new.self c.args.era.now c.args.store.now c.get_object.new.store e.cat _ before e.sound e.refers _ c.args.copy (Ok c.in-Ok.size)
    e.table tt e.reads_on e.refused e.untouched e.reads

pub returns-in-Err-clause-serves : goal.returns-in-Err-clause-serves
returns-in-Err-clause-serves g c = told_uncut c.in-Err.code c.told.result c.told.ensures.told (λ uncut before.
    let e = c.in-Err.ensures in
    get_shell g.D.Disk c.args.self.now c.get_object.new.self c.args.era.now c.args.store.now c.get_object.new.store e.cat _ before e.sound e.refers _ c.args.copy (Err c.in-Err.code)
    e.table uncut e.reads_on e.refused e.untouched e.reads)
