use Rattle.std.proofs.Common.{◌≡◌, length, map, take}
use Rattle.txn_table.specs.Table.{change_of}
use Rattle.space_pages.specs.Pages.{brought}
use Rattle.space_pages.specs.Slots.{pages_in}
use Rattle.space_pages.proofs.slots.lay_all.Given as goal

abbrev pub invariant-loop-change : goal.invariant-loop-change
invariant-loop-change l = record {
  laid : pages_in l.slots.items ≡ brought l.space l.first (map change_of (take l.change-index l.changes)) (pages_in l.initial.slots.items);
  count : length l.slots.items ≡ length l.initial.slots.items;
}
