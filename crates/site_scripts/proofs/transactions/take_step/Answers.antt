use Rattle.std.proofs.Common.{◌≡◌, List, ◌++◌, length, IfSome, IfNone, Option, None, Some, refl, sym, subst, arith}
use Rattle.std.proofs.lemmas.List.{length-map}
use Rattle.log_record.specs.Entry.{entry_of, history_of}
use Rattle.onbar_grammar.specs.Script.{raw_lines}
use Rattle.script_lines.specs.Cutting.{LinesView}
use Rattle.script_steps.specs.declared.script.Step.TheVariants.{More, Whole, End, Fault}
use Rattle.script_steps.specs.Steps.{StepsTo}
use Rattle.site_headers.specs.declared.heads.SpaceHead.{SpaceHead}
use Rattle.site_headers.specs.Views.{head_of, spaces_of}
use Rattle.site_scripts.specs.declared.outcomes.Cut.TheVariants.{ReadFault, OutOfMemory}
use Rattle.site_scripts.specs.declared.outcomes.Stop.{Stop}
use Rattle.site_scripts.specs.Outcomes.{IsOfAppend}
use Rattle.site_scripts.specs.Steps.{TakesStep}
use Rattle.site_scripts.proofs.StepLemmas.{again, cut_step, end_step, fault_step, goes_from, more_step, runs, whole_step}
use Rattle.site_scripts.proofs.transactions.take_step.Goals as goal

when_none : {X A : Type 0} (option : Option X) → option ≡ None → IfNone option A → A
when_none {X} {A} option is holds = subst (λ (o : Option X). IfNone o A) is holds

when_some : (option : Option Stop) → IfSome option IsOfAppend → (stop : Stop) → option ≡ Some stop → IsOfAppend stop
when_some option holds stop is = subst (λ (o : Option Stop). IfSome o IsOfAppend) is holds

pub returns-in-More-clause-stepped : goal.returns-in-More-clause-stepped
returns-in-More-clause-stepped g c tells_disk tells_source first =
    let head = head_of c.args.head.now in
    let work = c.args.work.now in
    let progress = c.take_next_line.new.progress in
    let before = work.progress.lines.held ++ g.S.Source.left c.args.source.now in
    let after = progress.lines.held ++ g.S.Source.left c.take_next_line.new.source in
    more_step g.D.Disk head first c.args.era.now.number c.args.site.now work progress c.end-end.result c.args.moment before after c.end-end.ensures c.requires.bounded.few
    (subst (λ (l : List SpaceHead). StepsTo (spaces_of l) c.args.moment c.end-end.result before after work.progress progress More) c.deref.ensures.value
    (c.in-More.ensures.steps tells_source))

pub returns-in-End-clause-stepped : goal.returns-in-End-clause-stepped
returns-in-End-clause-stepped g c tells_disk tells_source first =
    let head = head_of c.args.head.now in
    let work = c.args.work.now in
    let progress = c.take_next_line.new.progress in
    let before = work.progress.lines.held ++ g.S.Source.left c.args.source.now in
    let after = progress.lines.held ++ g.S.Source.left c.take_next_line.new.source in
    end_step g.D.Disk head first c.args.era.now.number c.args.site.now work progress c.end-end.result c.args.moment before after c.end-end.ensures c.requires.bounded.few
    (subst (λ (l : List SpaceHead). StepsTo (spaces_of l) c.args.moment c.end-end.result before after work.progress progress End) c.deref.ensures.value
    (c.in-End.ensures.steps tells_source))

pub returns-in-Fault-clause-stepped : goal.returns-in-Fault-clause-stepped
returns-in-Fault-clause-stepped g c tells_disk tells_source first =
    let head = head_of c.args.head.now in
    let work = c.args.work.now in
    let progress = c.take_next_line.new.progress in
    let before = work.progress.lines.held ++ g.S.Source.left c.args.source.now in
    let after = progress.lines.held ++ g.S.Source.left c.take_next_line.new.source in
    fault_step g.D.Disk head first c.args.era.now.number c.args.site.now work progress c.end-end.result c.args.moment before after c.end-end.ensures c.requires.bounded.few c.in-Fault.why
    (subst (λ (l : List SpaceHead). StepsTo (spaces_of l) c.args.moment c.end-end.result before after work.progress progress (Fault c.in-Fault.why)) c.deref.ensures.value
    (c.in-Fault.ensures.steps tells_source))

pub returns-in-ReadFault-clause-stepped : goal.returns-in-ReadFault-clause-stepped
returns-in-ReadFault-clause-stepped g c tells_disk tells_source first =
    let head = head_of c.args.head.now in
    let work = c.args.work.now in
    let progress = c.take_next_line.new.progress in
    let before = work.progress.lines.held ++ g.S.Source.left c.args.source.now in
    let after = progress.lines.held ++ g.S.Source.left c.take_next_line.new.source in
    cut_step g.D.Disk head first c.args.era.now.number c.args.site.now work progress c.end-end.result c.args.moment before after c.end-end.ensures ReadFault refl

pub returns-in-OutOfMemory-clause-stepped : goal.returns-in-OutOfMemory-clause-stepped
returns-in-OutOfMemory-clause-stepped g c tells_disk tells_source first =
    let head = head_of c.args.head.now in
    let work = c.args.work.now in
    let progress = c.take_next_line.new.progress in
    let before = work.progress.lines.held ++ g.S.Source.left c.args.source.now in
    let after = progress.lines.held ++ g.S.Source.left c.take_next_line.new.source in
    cut_step g.D.Disk head first c.args.era.now.number c.args.site.now work progress c.end-end.result c.args.moment before after c.end-end.ensures OutOfMemory refl

pub returns-in-Whole-clause-stepped : goal.returns-in-Whole-clause-stepped
returns-in-Whole-clause-stepped g c tells_disk tells_source first =
    let head = head_of c.args.head.now in
    let work = c.args.work.now in
    let progress = c.take_next_line.new.progress in
    let before = work.progress.lines.held ++ g.S.Source.left c.args.source.now in
    let after = progress.lines.held ++ g.S.Source.left c.take_next_line.new.source in
    let from = c.args.era.now.number in
    let call = c.append_collected.ensures in
    let result = c.append_collected.result in
    let new = c.append_collected.new.work in
    let items = progress.collected.batch.items in
    let counted : length (history_of items) ≡ length items = length-map items entry_of in
    let left = g.S.Source.left c.take_next_line.new.source in
    let steps : StepsTo head.spaces c.args.moment c.end-end.result before after work.progress progress Whole =
    subst (λ (l : List SpaceHead). StepsTo (spaces_of l) c.args.moment c.end-end.result before after work.progress progress Whole) c.deref.ensures.value
    (c.in-Whole.ensures.steps tells_source) in
    subst (λ (l : LinesView). TakesStep g.D.Disk head first from c.append_collected.new.era.number c.args.moment before (l.held ++ left) c.args.site.now c.append_collected.new.site work new result)
    (sym call.progress.0)
    (whole_step g.D.Disk head first from c.append_collected.new.era.number c.args.site.now c.append_collected.new.site work new progress c.args.moment before after
    (λ at opened enough stands. again g.D.Disk head first from c.args.site.now work progress c.end-end.result c.args.moment before after c.end-end.ensures Whole steps opened at enough stands tt c.requires.bounded.few)
    (λ at opened enough stands. runs g.D.Disk head first from c.args.site.now work progress c.end-end.result c.args.moment before after c.end-end.ensures Whole steps opened at enough stands)
    (omega (arith, c.in-Whole.ensures.some refl, counted)) result (call.appends tells_disk first (raw_lines after))
    (λ none. goes_from c.args.moment after progress new.progress call.progress.0 call.progress.1 (when_none result none call.collected) call.table call.time)
    (when_some result call.stops))
