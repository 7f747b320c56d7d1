use Rattle.std.proofs.Common.{◌∙◌, ◌++◌, Some, sym, subst}
use Rattle.onbar_grammar.specs.Script.{raw_lines}
use Rattle.script_lines.specs.Cutting.{LinesView}
use Rattle.site_headers.specs.Views.{head_of}
use Rattle.site_scripts.specs.Stages.{CallBy, end_course, halt_at, in_use, run_course}
use Rattle.site_scripts.proofs.EndLemmas.{batch_left, none_left}
use Rattle.site_scripts.proofs.StageLemmas.{finished}
use Rattle.site_scripts.proofs.running.run_lines.Goals as goal

pub returns-then-not-leaves_batch-clause-ended : goal.returns-then-not-leaves_batch-clause-ended
returns-then-not-leaves_batch-clause-ended g c tells_disk tells_source first =
    let new = c.take_lines-stop.new in
    none_left g.D.Disk (head_of c.args.head.now) first c.args.era.now.number new.era.number c.args.moment (c.args.work.now.progress.lines.held ++ g.S.Source.left c.args.source.now)
    (new.work.progress.lines.held ++ g.S.Source.left new.source) c.args.site.now new.site c.args.work.now new.work c.take_lines-stop.result
    (sym c.leaves_batch.ensures ∙ c.if-not-leaves_batch.true) (c.take_lines-stop.ensures.ended tells_disk tells_source first)

pub returns-clause-ended : goal.returns-clause-ended
returns-clause-ended g c tells_disk tells_source first =
    let head = head_of c.args.head.now in
    let mid = c.take_lines-stop.new in
    let new = c.append_last.new in
    let stop = c.take_lines-stop.result in
    let left = g.S.Source.left mid.source in
    let text = c.args.work.now.progress.lines.held ++ g.S.Source.left c.args.source.now in
    let from = c.args.era.now.number in
    subst (λ (l : LinesView). CallBy g.D.Disk head first from new.era.number (in_use c.args.site.now c.args.work.now) (in_use new.site new.work)
    (run_course c.args.moment text c.args.work.now.progress) (Some (halt_at c.append_last.result (raw_lines (l.held ++ left))))) (sym c.append_last.ensures.progress)
    (finished g.D.Disk head first from mid.era.number new.era.number (in_use c.args.site.now c.args.work.now) (in_use mid.site mid.work) (in_use new.site new.work)
    (run_course c.args.moment text c.args.work.now.progress) (end_course (halt_at stop (raw_lines (mid.work.progress.lines.held ++ left))) mid.work.progress)
    (halt_at c.append_last.result (raw_lines (mid.work.progress.lines.held ++ left)))
    (batch_left g.D.Disk head first from mid.era.number c.args.moment text (mid.work.progress.lines.held ++ left) c.args.site.now mid.site c.args.work.now mid.work stop
    (sym c.leaves_batch.ensures ∙ c.if-not-leaves_batch.false) (c.take_lines-stop.ensures.ended tells_disk tells_source first))
    (c.append_last.ensures.ended tells_disk first (raw_lines (mid.work.progress.lines.held ++ left))))
