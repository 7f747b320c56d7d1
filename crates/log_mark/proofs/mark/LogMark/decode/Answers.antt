use Rattle.std.proofs.Common.{◌≡◌, Bool, true, Some, sym, ap, subst, ◌∙◌}
use Rattle.std.specs.Bool.{then_some}
use Rattle.std.proofs.lemmas.Slice.Eq.{bytes_eq-Decides}
use Rattle.std.proofs.lemmas.Bool.{both_ways}
use Rattle.log_mark.specs.declared.mark.LogMark.{LogMark}
use Rattle.log_mark.specs.Layout.{IsMark, mark_at, spelling}
use Rattle.log_mark.proofs.LayoutLemmas.{mark_at-spelling}
use Rattle.log_mark.proofs.mark.LogMark.decode.Goals as goal

pub returns-then-not-is_mark-clause-only : goal.returns-then-not-is_mark-clause-only
returns-then-not-is_mark-clause-only c mark ok spelt =
    let same : c.read-mark.result ≡ mark = c.read-mark.ensures ∙ ap mark_at spelt ∙ mark_at-spelling mark ok in
    absurd (both_ways c.is_mark.result c.if-not-is_mark.true (c.is_mark.ensures.1 (subst IsMark (sym same) ok)))

pub returns-clause-only : goal.returns-clause-only
returns-clause-only c mark ok spelt =
    let same : c.read-mark.result ≡ mark = c.read-mark.ensures ∙ ap mark_at spelt ∙ mark_at-spelling mark ok in
    let alike : c.eq.result ≡ true = c.eq.ensures ∙ (bytes_eq-Decides c.encode_into.new.bytes c.args.bytes.now).1 (c.encode_into.ensures ∙ ap spelling same ∙ sym spelt) in
    c.then_some.ensures ∙ ap (λ (b : Bool). then_some b c.read-mark.result) alike ∙ ap (λ (m : LogMark). Some m) same
