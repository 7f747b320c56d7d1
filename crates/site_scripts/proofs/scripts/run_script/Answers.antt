use Rattle.std.proofs.Common.{◌≡◌, ◌∙◌, ℕ, List, ◌++◌, length, false, Option, Some, sym, ap, subst, arith}
use Rattle.std.specs.Prelude.{Result, IfErr}
use Rattle.std.specs.List.{AllByRecursion}
use Rattle.log_files.specs.Files.{is_reset}
use Rattle.log_history.specs.Transactions.{last_time}
use Rattle.log_record.specs.declared.records.Record.{Record}
use Rattle.log_record.specs.Entry.{history_of}
use Rattle.log_record.specs.Layout.{IsRecord}
use Rattle.onbar_grammar.specs.Script.{raw_lines}
use Rattle.script_lines.specs.Cutting.{LinesView}
use Rattle.site_headers.specs.Views.{head_of}
use Rattle.site_courses.specs.Faults.{Fault}
use Rattle.site_core.specs.Layers.{layers}
use Rattle.site_layouts.specs.Stages.{site_stage}
use Rattle.site_runs.specs.Scripts.{script_course}
use Rattle.txn_table.specs.Table.{oldest}
use Rattle.walks.specs.Courses.{Does}
use Rattle.site_scripts.specs.declared.outcomes.Cut.{Cut as CutCause}
use Rattle.site_scripts.specs.declared.outcomes.Extended.{Extended}
use Rattle.site_scripts.specs.declared.outcomes.Stop.TheVariants.{Cut}
use Rattle.site_scripts.specs.Extending.{MayRun}
use Rattle.site_scripts.specs.Stages.{CallBy, halt_at, in_use, run_course}
use Rattle.site_scripts.proofs.EndLemmas.{begins_at, knows_first, run_told, site_does}
use Rattle.site_scripts.proofs.OpenLemmas.{time_bounded, time_is}
use Rattle.site_scripts.proofs.scripts.run_script.Goals as goal

pub run_lines-stop-requires-clause-bounded : goal.run_lines-stop-requires-clause-bounded
run_lines-stop-requires-clause-bounded g c =
    let begun = c.begin_work-work.ensures in
    let bound = time_bounded c.args.site.now (length c.args.head.now.spaces.items) c.requires.opened c.last_time-time.result c.last_time-time.ensures in record {
      few = omega (arith, ap length begun.batch);
      time = omega (arith, begun.time, bound);
      records = subst (λ (l : List Record). AllByRecursion IsRecord (history_of l)) (sym begun.batch) tt;
      plain = subst (λ (l : List Record). AllByRecursion (λ entry. is_reset entry ≡ false) (history_of l)) (sym begun.batch) tt;
    }

pub returns-clause-call : goal.returns-clause-call
returns-clause-call g c tells_disk tells_source opened at enough stands may =
    let head = head_of c.args.head.now in
    let begun = c.begin_work-work.ensures in
    let work = c.begin_work-work.result in
    let from = c.args.era.now.number in
    let new = c.run_lines-stop.new in
    let stop = c.run_lines-stop.result in
    let left = g.S.Source.left c.args.source.now in
    let may_so : MayRun head work.progress.collected.«open» at.site = record { head_is = may.head_is; none = may.none; has = may.has; none_lost = may.none_lost; table_is = begun.«open» ∙ may.table_is } in
    let time : work.progress.collected.time ≡ last_time at.site.history =
    begun.time ∙ time_is c.args.site.now g.D.Disk opened from at enough stands may.has c.last_time-time.result c.last_time-time.ensures in
    let knows = knows_first head work at.site may_so begun.lines begun.line begun.batch time (begun.low ∙ ap oldest (sym begun.«open»)) begun.counts stands.fits.history.order in
    let place = begins_at head work at.site may_so begun.lines begun.line begun.batch time in
    let call : CallBy g.D.Disk head at.site.history from new.era.number (in_use c.args.site.now work) (in_use new.site new.work) (run_course c.args.moment left work.progress)
    (Some (halt_at stop (raw_lines (new.work.progress.lines.held ++ g.S.Source.left new.source)))) =
    subst (λ (text : List ℕ). CallBy g.D.Disk head at.site.history from new.era.number (in_use c.args.site.now work) (in_use new.site new.work) (run_course c.args.moment text work.progress)
    (Some (halt_at stop (raw_lines (new.work.progress.lines.held ++ g.S.Source.left new.source))))) (ap (λ (l : LinesView). l.held ++ left) begun.lines)
    (c.run_lines-stop.ensures.ended tells_disk tells_source at.site.history) in
    subst (λ (fault : Option Fault). Does (site_stage (layers g.D.Disk)) opened from new.era.number c.args.site.now new.site at (script_course c.args.moment left at.site) fault)
    (sym c.report.ensures.fault)
    (site_does g.D.Disk head from new.era.number c.args.site.now new.site work new.work c.args.moment left new.work.progress.lines.held (g.S.Source.left new.source) stop
    opened at enough stands knows place call)

pub returns-clause-told : goal.returns-clause-told
returns-clause-told g c tells_disk tells_source opened at enough stands may =
    let head = head_of c.args.head.now in
    let begun = c.begin_work-work.ensures in
    let work = c.begin_work-work.result in
    let from = c.args.era.now.number in
    let new = c.run_lines-stop.new in
    let stop = c.run_lines-stop.result in
    let left = g.S.Source.left c.args.source.now in
    let may_so : MayRun head work.progress.collected.«open» at.site = record { head_is = may.head_is; none = may.none; has = may.has; none_lost = may.none_lost; table_is = begun.«open» ∙ may.table_is } in
    let time : work.progress.collected.time ≡ last_time at.site.history =
    begun.time ∙ time_is c.args.site.now g.D.Disk opened from at enough stands may.has c.last_time-time.result c.last_time-time.ensures in
    let knows = knows_first head work at.site may_so begun.lines begun.line begun.batch time (begun.low ∙ ap oldest (sym begun.«open»)) begun.counts stands.fits.history.order in
    let place = begins_at head work at.site may_so begun.lines begun.line begun.batch time in
    let call : CallBy g.D.Disk head at.site.history from new.era.number (in_use c.args.site.now work) (in_use new.site new.work) (run_course c.args.moment left work.progress)
    (Some (halt_at stop (raw_lines (new.work.progress.lines.held ++ g.S.Source.left new.source)))) =
    subst (λ (text : List ℕ). CallBy g.D.Disk head at.site.history from new.era.number (in_use c.args.site.now work) (in_use new.site new.work) (run_course c.args.moment text work.progress)
    (Some (halt_at stop (raw_lines (new.work.progress.lines.held ++ g.S.Source.left new.source))))) (ap (λ (l : LinesView). l.held ++ left) begun.lines)
    (c.run_lines-stop.ensures.ended tells_disk tells_source at.site.history) in
    run_told g.D.Disk head from new.era.number c.args.site.now new.site work new.work c.args.moment left new.work.progress.lines.held (g.S.Source.left new.source) stop
    opened at enough stands knows place call
    c.report.result c.run_lines-stop.ensures.ahead c.report.ensures.told c.report.ensures.opened

pub returns-clause-disk_fault : goal.returns-clause-disk_fault
returns-clause-disk_fault g c name is =
    c.run_lines-stop.ensures.failed name
    (subst (λ (r : Result Extended CutCause). IfErr r (λ cut. c.run_lines-stop.result ≡ Cut cut)) is c.report.ensures.cut)
