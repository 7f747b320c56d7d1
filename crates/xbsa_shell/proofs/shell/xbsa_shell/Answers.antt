use Rattle.std.proofs.Common.{◌≡◌, ◌∙◌, [], sym, subst}
use Rattle.onbar_grammar.specs.Script.{raw_lines}
use Rattle.site_model.specs.declared.status.Status.{Status}
use Rattle.xbsa_shell.specs.Opened.{opening_setting, opening_stand}
use Rattle.xbsa_shell.specs.Running.{HasPrinted, Runs}
use Rattle.xbsa_shell.proofs.TopLemmas.{ok_of, shell_part, shell_whole}
use Rattle.xbsa_shell.proofs.shell.xbsa_shell.Goals as goal

pub returns-in-Ok-clause-runs : goal.returns-in-Ok-clause-runs
returns-in-Ok-clause-runs g c no_word tells tells_script head contents taken shows =
    let setting = opening_setting g.D.Disk c.args.store.now c.args.moment in
    let script = raw_lines (g.S.Source.left c.args.script.now) in
    let stand = opening_stand g.D.Disk c.args.store.now contents taken in
    let begin = g.K.Sink.taken c.args.out.now in
    let between = g.K.Sink.taken c.run-done.new.out in
    let P : Status → Type 0 = λ s. HasPrinted g.K.Sink.is_modelled (Runs setting script stand s) begin between in
    shell_whole setting script stand g.K.Sink.is_modelled c.status_of-status.result begin between (g.K.Sink.taken c.print_last.new.out)
    (subst P (sym c.status_of-status.ensures) (c.run-done.ensures.runs no_word tells tells_script head contents taken shows)) c.in-Ok.ensures.whole

pub returns-in-Ok-clause-at_end : goal.returns-in-Ok-clause-at_end
returns-in-Ok-clause-at_end g c tells is =
    ok_of (g.S.Source.left c.run-done.new.script ≡ []) c.run-done.result c.run-done.ensures.answers (c.run-done.ensures.at_end tells) (sym c.status_of-status.ensures ∙ is)

pub returns-in-Err-clause-runs : goal.returns-in-Err-clause-runs
returns-in-Err-clause-runs g c no_word tells tells_script head contents taken shows =
    let setting = opening_setting g.D.Disk c.args.store.now c.args.moment in
    let script = raw_lines (g.S.Source.left c.args.script.now) in
    let stand = opening_stand g.D.Disk c.args.store.now contents taken in
    let begin = g.K.Sink.taken c.args.out.now in
    let between = g.K.Sink.taken c.run-done.new.out in
    let P : Status → Type 0 = λ s. HasPrinted g.K.Sink.is_modelled (Runs setting script stand s) begin between in
    shell_part setting script stand g.K.Sink.is_modelled c.status_of-status.result c.in-Err.cut c.in-Err.ensures.cut begin between (g.K.Sink.taken c.print_last.new.out)
    (subst P (sym c.status_of-status.ensures) (c.run-done.ensures.runs no_word tells tells_script head contents taken shows)) c.in-Err.ensures.front
