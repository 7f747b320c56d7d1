use Rattle.std.proofs.Common.{◌++◌, ◌∙◌, ap, IsTrue}
use Rattle.std.proofs.lemmas.Result.{err_from_is_err_and}
use Rattle.script_lines.specs.Cutting.{LinesView, CutsLine, first_fault}
use Rattle.script_lines.proofs.NextLemmas.{CutsLine-cut, Finds-Explains, uncut-Gains}
use Rattle.script_lines.proofs.cutting.Lines.next.Goals as goal

cut_line : (g : _) (c : goal.After-cut g) → IsTrue g.S.Source.is_modelled
    → CutsLine c.args.self.now c.cut.new.self (c.args.self.now.held ++ g.S.Source.left c.args.source.now)
    (c.cut.new.self.held ++ g.S.Source.left c.find_line.new.source)
cut_line g c tells =
    let line = c.in_ok-line.line in
    let found = c.in_ok-line.ensures in
    let old = c.forget_line.ensures in
    rw c.cut.ensures
    (CutsLine-cut c.args.self.now c.find_line.new.self (g.S.Source.left c.find_line.new.source) _ line.len line.is_ended found.front
    (found.at_end tells) found.within_limits (λ zero. c.if-spelled_len-eq0.false (c.spelled_len.ensures ∙ zero))
    (uncut-Gains g.S.Source.is_modelled c.forget_line.new.self c.find_line.new.self c.args.self.now.held _ _ found.gains tells
    (ap (λ (lines : LinesView). lines.held) old))
    (found.gains.begun ∙ ap (λ (lines : LinesView). lines.begun) old))

pub returns-clause-line : goal.returns-clause-line
returns-clause-line g c = λ tells ok. cut_line g c tells

pub returns-clause-limits : goal.returns-clause-limits
returns-clause-limits g c = λ tells.
    let cut = cut_line g c tells in
    ap (λ lines. first_fault c.args.self.now.begun lines) cut.lines ∙ cut.within

pub returns-in_err-line-clause-limits : goal.returns-in_err-line-clause-limits
returns-in_err-line-clause-limits g c = λ tells.
    let found = c.in_err-line.ensures in
    let old = c.forget_line.ensures in
    let fault = err_from_is_err_and c.from_residual.result c.from_residual.ensures.1 in
    rw (fault.1, fault.2, ← (found.gains.begun ∙ ap (λ (lines : LinesView). lines.begun) old))
    (Finds-Explains c.find_line.new.self (g.S.Source.left c.find_line.new.source) _ _ _ _ found.cause
    (uncut-Gains g.S.Source.is_modelled c.forget_line.new.self c.find_line.new.self c.args.self.now.held _ _ found.gains tells
    (ap (λ (lines : LinesView). lines.held) old)) found.script_limit)
