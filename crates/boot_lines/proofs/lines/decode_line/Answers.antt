use Rattle.std.proofs.Common.{◌≡◌, Bool, true, Option, Some, IsSomeAnd, sym, ap, subst, ◌∙◌}
use Rattle.std.specs.Bool.{then_some}
use Rattle.std.proofs.lemmas.Slice.Eq.{bytes_eq-Decides}
use Rattle.std.proofs.lemmas.Bool.{both_ways}
use Rattle.backup_lines.specs.Views.{line_of}
use Rattle.backup_lines.specs.declared.lines.Line.{Line}
use Rattle.boot_lines.specs.LineLayout.{IsLine, line_at, spelling}
use Rattle.boot_lines.specs.LineLaws.{line_at-spelling}
use Rattle.boot_lines.proofs.lines.decode_line.Goals as goal

pub returns-then-not-is_line-clause-only : goal.returns-then-not-is_line-clause-only
returns-then-not-is_line-clause-only c line ok spelt =
    let same : line_of c.line_at-line.result ≡ line = c.line_at-line.ensures ∙ ap line_at spelt ∙ line_at-spelling line ok in
    absurd (both_ways c.is_line.result c.if-not-is_line.true (c.is_line.ensures.1 (subst IsLine (sym same) ok)))

pub returns-clause-only : goal.returns-clause-only
returns-clause-only c line ok spelt =
    let same : line_of c.line_at-line.result ≡ line = c.line_at-line.ensures ∙ ap line_at spelt ∙ line_at-spelling line ok in
    let alike : c.eq.result ≡ true = c.eq.ensures ∙ (bytes_eq-Decides c.encode_line.result c.args.slot.now).1 (c.encode_line.ensures ∙ ap spelling same ∙ sym spelt) in
    let kept : c.then_some.result ≡ Some c.line_at-line.result = c.then_some.ensures ∙ ap (λ (b : Bool). then_some b c.line_at-line.result) alike in
    subst (λ (o : Option Line). IsSomeAnd o (λ l. line_of l ≡ line)) (sym kept) same
