use Rattle.std.proofs.Common.{◌≡◌, List, [], ◌++◌, Bool, Result, Ok, Err, sym, ap, ◌∙◌, subst}
use Rattle.std.proofs.lemmas.Result.{err_from_is_err_and}
use Rattle.onbar_grammar.specs.Script.{raw_lines}
use Rattle.bsa_transcripts.specs.Texts.{reply_text}
use Rattle.site_model.specs.declared.status.Status.{Status}
use Rattle.xbsa_shell.specs.Running.{HasPrinted, TakesLine}
use Rattle.xbsa_shell.specs.Serving.{setting_of, stand_of}
use Rattle.xbsa_shell.specs.Statuses.{status_of_line}
use Rattle.xbsa_shell.proofs.RunLemmas.{advances_by, breaks_line, ends_by, err_is_run, no_line, printed_none, text_is_run}
use Rattle.xbsa_shell.proofs.script.take_line.Goals as goal

pub returns-in-Err-clause-takes : goal.returns-in-Err-clause-takes
returns-in-Err-clause-takes g c tells =
    let setting = setting_of g.D.Disk c.args.moment c.args.store.now in
    let stand = stand_of g.D.Disk c.args.shell.now c.args.store.now in
    let before = raw_lines (c.args.lines.now.held ++ g.S.Source.left c.args.source.now) in
    let after = raw_lines (c.next.new.self.held ++ g.S.Source.left c.next.new.source) in
    let begun = c.args.lines.now.begun in
    let now = c.next.new.self.begun in
    let printed = g.K.Sink.taken c.args.out.now in
    let tell = g.K.Sink.is_modelled in
    let P : Status → Type 0 = λ s. HasPrinted tell (TakesLine setting c.args.line begun now before after stand stand (Err s)) printed printed in
    subst P (sym c.status_of_line.ensures)
    (printed_none tell printed (TakesLine setting c.args.line begun now before after stand stand (Err (status_of_line c.args.line c.in-Err.fault)))
    (no_line setting c.args.line begun now after stand stand before c.in-Err.fault (c.in-Err.ensures.limits tells)))

pub returns-in_err-reply-clause-takes : goal.returns-in_err-reply-clause-takes
returns-in_err-reply-clause-takes g c tells =
    let setting = setting_of g.D.Disk c.args.moment c.args.store.now in
    let stand = stand_of g.D.Disk c.args.shell.now c.args.store.now in
    let then = stand_of g.D.Disk c.run_text.new.shell c.run_text.new.store in
    let bytes = c.args.lines.now.held ++ g.S.Source.left c.args.source.now in
    let left = c.next.new.self.held ++ g.S.Source.left c.next.new.source in
    let begun = c.args.lines.now.begun in
    let now = c.next.new.self.begun in
    let printed = g.K.Sink.taken c.args.out.now in
    let tell = g.K.Sink.is_modelled in
    let status = c.in_err-reply.field-0.0 in
    let p = err_from_is_err_and c.from_residual.result c.from_residual.ensures.1 in
    let is : c.from_residual.result ≡ Err status = p.1 ∙ ap Err p.2 in
    subst (λ (r : Result Bool Status). HasPrinted tell (TakesLine setting c.args.line begun now (raw_lines bytes) (raw_lines left) stand then r) printed printed) (sym is)
    (printed_none tell printed (TakesLine setting c.args.line begun now (raw_lines bytes) (raw_lines left) stand then (Err status))
    (ends_by setting c.args.line c.args.lines.now c.next.new.self bytes left stand then c.line.result.now status
    (c.in-Ok-true.ensures.line tells (ap Ok c.in-Ok-true.field-0-test)) c.line.ensures.line c.in_err-reply.ensures.cut))

pub returns-in_err-print_reply-clause-takes : goal.returns-in_err-print_reply-clause-takes
returns-in_err-print_reply-clause-takes g c tells =
    let setting = setting_of g.D.Disk c.args.moment c.args.store.now in
    let stand = stand_of g.D.Disk c.args.shell.now c.args.store.now in
    let then = stand_of g.D.Disk c.run_text.new.shell c.run_text.new.store in
    let bytes = c.args.lines.now.held ++ g.S.Source.left c.args.source.now in
    let left = c.next.new.self.held ++ g.S.Source.left c.next.new.source in
    let begun = c.args.lines.now.begun in
    let now = c.next.new.self.begun in
    let printed = g.K.Sink.taken c.args.out.now in
    let behind = g.K.Sink.taken c.print_reply.new.out in
    let tell = g.K.Sink.is_modelled in
    let status = c.in_err-print_reply.field-0.0 in
    let p = err_from_is_err_and c.from_residual-in_err-print_reply.result c.from_residual-in_err-print_reply.ensures.1 in
    let is : c.from_residual-in_err-print_reply.result ≡ Err status = p.1 ∙ ap Err p.2 in
    let whole = reply_text c.in_ok-reply.reply in
    let advances = advances_by setting c.args.line c.args.lines.now c.next.new.self bytes left stand then c.line.result.now whole
    (c.in-Ok-true.ensures.line tells (ap Ok c.in-Ok-true.field-0-test)) c.line.ensures.line c.in_ok-reply.ensures.runs.reads in
    subst (λ (r : Result Bool Status). HasPrinted tell (TakesLine setting c.args.line begun now (raw_lines bytes) (raw_lines left) stand then r) printed behind) (sym is)
    (breaks_line setting c.args.line begun now (raw_lines left) stand then (raw_lines bytes) status c.in_err-print_reply.ensures.cut whole printed behind advances tell
    c.in_err-print_reply.ensures.front)

pub returns-in_err-reply-clause-answers : goal.returns-in_err-reply-clause-answers
returns-in_err-reply-clause-answers g c =
    let status = c.in_err-reply.field-0.0 in
    let p = err_from_is_err_and c.from_residual.result c.from_residual.ensures.1 in
    err_is_run c.from_residual.result status (p.1 ∙ ap Err p.2) (text_is_run c.args.line c.line.result.now status c.in_err-reply.ensures.cut)
