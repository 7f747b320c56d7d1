use Rattle.std.proofs.Common.{◌∙◌}
use Rattle.txn_table.specs.Table.{change_of}
use Rattle.space_pages.specs.Slots.{pages_in}
use Rattle.space_pages.proofs.SlotLemmas.{brought-other_space, passed_over, lays, keeps}
use Rattle.space_pages.proofs.slots.lay.Goals as goal

pub returns-then-change-space-clause-ok : goal.returns-then-change-space-clause-ok
returns-then-change-space-clause-ok c =
    brought-other_space c.args.space c.args.first (change_of c.args.change.now) (pages_in c.args.slots.now.items) c.if-change-space.true

pub returns-in_default-clause-ok : goal.returns-in_default-clause-ok
returns-in_default-clause-ok c =
    passed_over c.args.space c.args.first c.len.result (change_of c.args.change.now) c.args.slots.now.items (c.len.ensures ∙ c.args.slots.now.ok.0) c.in_default.ensures

pub returns-clause-ok : goal.returns-clause-ok
returns-clause-ok c =
    lays c.lay_in.result c.args.space c.args.first c.len.result (change_of c.args.change.now) c.args.slots.now.items c.in-Some.index c.index_mut.result.now c.lay_in.new.slot
    (c.len.ensures ∙ c.args.slots.now.ok.0) c.if-change-space.false c.in-Some.ensures c.index_mut.ensures.value c.lay_in.ensures.ok

pub returns-clause-err : goal.returns-clause-err
returns-clause-err c =
    keeps c.lay_in.result c.args.slots.now.items c.in-Some.index c.index_mut.result.now c.lay_in.new.slot c.index_mut.ensures.value c.lay_in.ensures.err
