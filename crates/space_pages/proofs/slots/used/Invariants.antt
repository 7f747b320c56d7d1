use Rattle.std.proofs.Common.{◌≡◌, ◌≤◌, take}
use Rattle.space_pages.specs.Pages.{used}
use Rattle.space_pages.specs.Slots.{pages_in}
use Rattle.space_pages.proofs.slots.used.Given as goal

abbrev pub invariant-loop-slot : goal.invariant-loop-slot
invariant-loop-slot l = record {
  counted : l.count ≡ used (pages_in (take l.slot-index l.slots));
  within : l.count ≤ l.slot-index;
}
