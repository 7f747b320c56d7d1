use Rattle.std.proofs.Common.{◌≡◌, Ok, Err, Result, List, Vec, Global, map, subst, sym}
use Rattle.std.specs.BTreeMap.{BTreeMap, IsOrdered, values}
use Rattle.std.specs.Prelude.{ℕ, IfOk}
use Rattle.std.specs.Ordering.{nat_cmp}
use Rattle.backup_lines.specs.Lines.{Line, Span}
use Rattle.backup_lines.specs.Spans.{AreSpans}
use Rattle.backup_lines.specs.Views.{line_of, span_view}
use Rattle.backup_lines.specs.declared.lines.FileSpan.{FileSpan}
use Rattle.restore_planner.proofs.SpanLemmas.{KnowsAll, are_spans, knows_all}
use Rattle.restore_planner.proofs.files.spans.Goals as goal

in_order_are : {E : Type 0} (lines : List Line) (held : List Span) (backed : ℕ) (files : BTreeMap ℕ FileSpan) (result : Result (Vec FileSpan Global) E)
    → IsOrdered nat_cmp files → KnowsAll lines held backed files → IfOk result (λ spans. spans.items ≡ values files)
    → IfOk result (λ spans. AreSpans lines held backed (map span_view spans.items))
in_order_are lines held backed files (Ok spans) ordered knows is =
    subst (λ (views : List FileSpan). AreSpans lines held backed (map span_view views)) (sym is) (are_spans lines held backed files ordered knows)
in_order_are lines held backed files (Err error) ordered knows is = tt

pub returns : goal.returns
returns c =
    in_order_are (map line_of c.args.lines.now) (map span_view c.args.ring.now) c.args.backed_up_to c.put_held.new.files c.in_order.result
    c.in_order.ensures.ordered
    (knows_all (map line_of c.args.lines.now) (map span_view c.args.ring.now) c.args.backed_up_to c.put_live_lines.new.files c.put_held.new.files
    (λ file. c.in_ok-put_live_lines.ensures file) (λ file. c.in_ok-put_held.ensures file))
    c.in_order.ensures.spans
