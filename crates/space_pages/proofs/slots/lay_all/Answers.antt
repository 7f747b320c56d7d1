use Rattle.std.proofs.Common.{refl, sym, ◌∙◌}
use Rattle.space_pages.specs.Slots.{pages_in}
use Rattle.space_pages.specs.PagesLaws.{brought-nil}
use Rattle.space_pages.proofs.ChangesLemmas.{patch_at, brought-more, in_part}
use Rattle.space_pages.proofs.slots.lay_all.Goals as goal

pub loop-change-init : goal.loop-change-init
loop-change-init c = record {
  laid = sym (brought-nil c.args.space c.args.first (pages_in c.args.slots.now.items));
  count = refl;
}

pub lay-requires : goal.lay-requires
lay-requires c =
    patch_at c.args.changes.now c.loop-change.change-index c.change-item.result c.loop-change-test.true c.change-item.is c.requires

pub returns-in_err-lay-clause-err : goal.returns-in_err-lay-clause-err
returns-in_err-lay-clause-err c =
    in_part c.from_residual.result c.args.space c.args.first c.args.changes.now c.loop-change.change-index
    (pages_in c.args.slots.now.items) (pages_in c.loop-change.slots.items) (pages_in c.lay.new.slots.items) c.loop-change.invariant.laid c.in_err-lay.ensures.err

pub loop-change-preserved : goal.loop-change-preserved
loop-change-preserved c = record {
  laid = brought-more c.args.space c.args.first c.args.changes.now c.loop-change.change-index c.change-item.result
      (pages_in c.args.slots.now.items) (pages_in c.loop-change.slots.items) (pages_in c.lay.new.slots.items)
      c.loop-change-test.true c.change-item.is c.loop-change.invariant.laid c.in_ok-lay.ensures.ok;
  count = c.in_ok-lay.ensures.count ∙ c.loop-change.invariant.count;
}
