use Rattle.std.proofs.Common.{◌∙◌, ◌+◌, ◌++◌, ◌∷◌, [], List, map, subst, sym, take}
use Rattle.backup_lines.specs.Lines.{Line}
use Rattle.backup_lines.specs.Views.{line_of, span_view}
use Rattle.backup_lines.specs.declared.lines.Line.TheVariants.{Log as LogLine}
use Rattle.restore_planner.specs.Files.{HasSpans, by_line}
use Rattle.restore_planner.proofs.FileLemmas.{lines_at_other, lines_kept, lines_more, lines_put}
use Rattle.restore_planner.proofs.files.newest_lines.Goals as goal
use Rattle.restore_planner.proofs.files.newest_lines.Goals.{in-Log+then-is_newer+in_ok-put, in-Log+else-is_newer, in_default}

pub loop-line-preserved : goal.loop-line-preserved
loop-line-preserved c =
    let lines = c.args.lines.now in
    let front : List Line = map line_of (take c.loop-line.line-index lines) in
    elim c.match-line.branch [
      | in-Log+then-is_newer+in_ok-put w ↦
          subst (λ (ls : List Line). HasSpans c.match-line.files (by_line ls))
          (sym (lines_more lines c.loop-line.line-index _ (LogLine w.in-Log.span) c.loop-line-test.true w.in-Log.is))
          (subst (λ files. HasSpans files (by_line (front ++ line_of (LogLine w.in-Log.span) ∷ []))) (sym w.files-is)
          (lines_put front (span_view w.in-Log.span) c.loop-line.files w.put.new.files c.loop-line.invariant
          (sym w.is_newer.ensures ∙ w.if-is_newer.true) (λ file. w.in_ok-put.ensures file)))
      | in-Log+else-is_newer w ↦
          subst (λ (ls : List Line). HasSpans c.match-line.files (by_line ls))
          (sym (lines_more lines c.loop-line.line-index _ (LogLine w.in-Log.span) c.loop-line-test.true w.in-Log.is))
          (subst (λ files. HasSpans files (by_line (front ++ line_of (LogLine w.in-Log.span) ∷ []))) (sym w.files-is)
          (lines_kept front (span_view w.in-Log.span) c.loop-line.files c.loop-line.invariant (sym w.is_newer.ensures ∙ w.if-is_newer.false)))
      | in_default w ↦
          subst (λ files. HasSpans files (by_line (map line_of (take (c.loop-line.line-index + 1) lines)))) (sym w.files-is)
          (lines_at_other lines c.loop-line.line-index _ c.loop-line.files c.loop-line-test.true c.loop-line.invariant w.in_default.not-Log)
    ]
