use Rattle.std.proofs.Common.{◌∙◌, ◌+◌, ◌++◌, ◌∷◌, ◌&&◌, [], List, Bool, ap, map, not, subst, sym, take}
use Rattle.std.specs.Prelude.{nat_lt}
use Rattle.backup_lines.specs.Lines.{Line}
use Rattle.backup_lines.specs.Views.{line_of, span_view}
use Rattle.backup_lines.specs.declared.lines.Line.TheVariants.{Log as LogLine}
use Rattle.restore_planner.specs.Files.{HasSpans, displaces, span_at}
use Rattle.restore_planner.proofs.FileLemmas.{lines_more, lives, lives_at_other, lives_kept, lives_put}
use Rattle.restore_planner.proofs.files.put_live_lines.Goals as goal
use Rattle.restore_planner.proofs.files.put_live_lines.Goals.{in-Log+then-displaces+in_ok-put, in-Log+else-displaces, in_default}

pub loop-line-preserved : goal.loop-line-preserved
loop-line-preserved c =
    let lines = c.args.lines.now in
    let all : List Line = map line_of lines in
    let front : List Line = map line_of (take c.loop-line.line-index lines) in
    elim c.match-line.branch [
      | in-Log+then-displaces+in_ok-put w ↦
          let test = ap (λ (gone : Bool). nat_lt 0 w.in-Log.span.file && (not gone && displaces (span_view w.in-Log.span) (span_at c.loop-line.files w.in-Log.span.file)))
          (c.requires.gone w.in-Log.span.copy) in
          subst (λ (ls : List Line). HasSpans c.match-line.files (lives all ls))
          (sym (lines_more lines c.loop-line.line-index _ (LogLine w.in-Log.span) c.loop-line-test.true w.in-Log.is))
          (subst (λ files. HasSpans files (lives all (front ++ line_of (LogLine w.in-Log.span) ∷ []))) (sym w.files-is)
          (lives_put all front (span_view w.in-Log.span) c.loop-line.files w.put.new.files c.loop-line.invariant
          (sym test ∙ sym w.displaces.ensures ∙ w.if-displaces.true) (λ file. w.in_ok-put.ensures file)))
      | in-Log+else-displaces w ↦
          let test = ap (λ (gone : Bool). nat_lt 0 w.in-Log.span.file && (not gone && displaces (span_view w.in-Log.span) (span_at c.loop-line.files w.in-Log.span.file)))
          (c.requires.gone w.in-Log.span.copy) in
          subst (λ (ls : List Line). HasSpans c.match-line.files (lives all ls))
          (sym (lines_more lines c.loop-line.line-index _ (LogLine w.in-Log.span) c.loop-line-test.true w.in-Log.is))
          (subst (λ files. HasSpans files (lives all (front ++ line_of (LogLine w.in-Log.span) ∷ []))) (sym w.files-is)
          (lives_kept all front (span_view w.in-Log.span) c.loop-line.files c.loop-line.invariant (sym test ∙ sym w.displaces.ensures ∙ w.if-displaces.false)))
      | in_default w ↦
          subst (λ files. HasSpans files (lives all (map line_of (take (c.loop-line.line-index + 1) lines)))) (sym w.files-is)
          (lives_at_other all lines c.loop-line.line-index _ c.loop-line.files c.loop-line-test.true c.loop-line.invariant w.in_default.not-Log)
    ]
