use Rattle.std.proofs.Common.{◌+◌, ◌≤◌, length, ap}
use Rattle.script_lines.specs.Cutting.{LinesView, spelled_len}
use Rattle.script_lines.proofs.CuttingLemmas.{same_view, take-held, drop-held, spelled_len-within}
use Rattle.script_lines.proofs.cutting.Lines.cut.Goals as goal

pub returns : goal.returns
returns c =
    let was = ap (λ (lines : LinesView). lines.held) c.self.view_is in
    let fields = c.self.inside in
    let front = c.requires.front in
    let within : spelled_len c.args.line.len c.args.line.is_ended ≤ length c.args.self.now.held =
    spelled_len-within c.args.self.now.held c.args.line.len c.args.line.is_ended front in
    rw c.spelled_len-spelled_len.ensures
    (same_view _ _ _ _ _ _ (ap (λ (lines : LinesView). lines.begun + spelled_len c.args.line.len c.args.line.is_ended) c.self.view_is)
    (take-held fields.buffer.items c.args.self.now.held fields.held_start fields.held_end c.args.line.len was front.within)
    (drop-held fields.buffer.items c.args.self.now.held fields.held_start fields.held_end
    (spelled_len c.args.line.len c.args.line.is_ended) was within))
