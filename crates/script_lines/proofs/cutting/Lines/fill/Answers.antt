use Rattle.std.proofs.Common.{◌+◌, ◌-◌, take, ap, ◌∙◌}
use Rattle.std.proofs.lemmas.List.{with_items_is}
use Rattle.script_lines.specs.Cutting.{LinesView}
use Rattle.script_lines.proofs.CuttingLemmas.{Gains-failed, Gains-read, held-at_end}
use Rattle.script_lines.proofs.cutting.Lines.fill.Goals as goal

pub returns-in_err-read-clause-gains : goal.returns-in_err-read-clause-gains
returns-in_err-read-clause-gains g c =
    let whole = with_items_is c.make_room.new.buffer c.read_behind.new.buffer
    (c.read_behind.auto.buffer ∙ c.as_mut_slice-buffer.ensures.len) in
    Gains-failed g.S.Source.is_modelled c.args.self.now c.make_room.new.buffer.items c.read_behind.new.buffer _
    c.in_ok-self-inside.field-0 (c.self.inside.held_end - c.self.inside.held_start) (g.S.Source.left c.args.source.now)
    (g.S.Source.left c.read_behind.new.source) (c.in_ok-self-inside.ensures.kept ∙ ap (λ (lines : LinesView). lines.held) c.self.view_is)
    (c.in_err-read.ensures.front ∙ ap (λ bytes. take (c.in_ok-self-inside.field-0 + (c.self.inside.held_end - c.self.inside.held_start)) bytes) c.as_mut_slice-buffer.ensures.value)
    whole c.self.inside.begun (ap (λ (lines : LinesView). lines.begun) c.self.view_is) c.in_err-read.ensures.kept

pub returns-clause-gains : goal.returns-clause-gains
returns-clause-gains g c =
    let whole = with_items_is c.make_room.new.buffer c.read_behind.new.buffer
    (c.read_behind.auto.buffer ∙ c.as_mut_slice-buffer.ensures.len) in
    Gains-read g.S.Source.is_modelled c.args.self.now c.make_room.new.buffer.items c.read_behind.new.buffer _
    c.in_ok-self-inside.field-0 (c.self.inside.held_end - c.self.inside.held_start) (g.S.Source.left c.args.source.now)
    (g.S.Source.left c.read_behind.new.source) (c.in_ok-self-inside.ensures.kept ∙ ap (λ (lines : LinesView). lines.held) c.self.view_is)
    (c.in_ok-read.ensures.front ∙ ap (λ bytes. take (c.in_ok-self-inside.field-0 + (c.self.inside.held_end - c.self.inside.held_start)) bytes) c.as_mut_slice-buffer.ensures.value)
    whole c.self.inside.begun c.in_ok-read.read (ap (λ (lines : LinesView). lines.begun) c.self.view_is) c.in_ok-read.ensures.taken

pub returns-clause-no_more : goal.returns-clause-no_more
returns-clause-no_more g c = λ no.
    let whole = with_items_is c.make_room.new.buffer c.read_behind.new.buffer
    (c.read_behind.auto.buffer ∙ c.as_mut_slice-buffer.ensures.len) in
    held-at_end g.S.Source.is_modelled c.args.self.now c.make_room.new.buffer.items c.read_behind.new.buffer _
    c.in_ok-self-inside.field-0 (c.self.inside.held_end - c.self.inside.held_start) (g.S.Source.left c.args.source.now)
    (g.S.Source.left c.read_behind.new.source) (c.in_ok-self-inside.ensures.kept ∙ ap (λ (lines : LinesView). lines.held) c.self.view_is)
    (c.in_ok-read.ensures.front ∙ ap (λ bytes. take (c.in_ok-self-inside.field-0 + (c.self.inside.held_end - c.self.inside.held_start)) bytes) c.as_mut_slice-buffer.ensures.value)
    whole c.in_ok-read.read (cc)
