use Rattle.std.proofs.Common.{◌≡◌, sym, subst}
use Rattle.onbar_grammar.specs.Script.{raw_lines}
use Rattle.site_model.specs.declared.status.Status.{Status}
use Rattle.xbsa_shell.specs.Opened.{opening_setting, opening_stand}
use Rattle.xbsa_shell.specs.Running.{status_in, HasPrinted, Runs}
use Rattle.xbsa_shell.proofs.TopLemmas.{failed_runs, runs_shown}
use Rattle.xbsa_shell.proofs.shell.run.Goals as goal

pub returns-in-Err-clause-runs : goal.returns-in-Err-clause-runs
returns-in-Err-clause-runs g c no_word tells tells_script head contents taken shows =
    let setting = opening_setting g.D.Disk c.args.store.now c.args.moment in
    let script = raw_lines (g.S.Source.left c.args.script.now) in
    let stand = opening_stand g.D.Disk c.args.store.now contents taken in
    let printed = g.K.Sink.taken c.args.out.now in
    let P : Status → Type 0 = λ s. HasPrinted g.K.Sink.is_modelled (Runs setting script stand s) printed printed in
    subst P (sym c.status_of_store.ensures)
    (failed_runs setting script stand g.K.Sink.is_modelled printed c.in-Err.fault (c.in-Err.ensures.shown tells head contents taken shows))

pub returns-in-Ok-clause-runs : goal.returns-in-Ok-clause-runs
returns-in-Ok-clause-runs g c no_word tells tells_script head contents taken shows =
    runs_shown g.D.Disk c.args.moment contents taken c.args.store.now c.enter.new.store (c.in-Ok.ensures.shown tells head contents taken shows)
    (raw_lines (g.S.Source.left c.args.script.now)) (status_in c.run_script.result) g.K.Sink.is_modelled (g.K.Sink.taken c.args.out.now) (g.K.Sink.taken c.run_script.new.out)
    (c.run_script.ensures.runs tells_script)
