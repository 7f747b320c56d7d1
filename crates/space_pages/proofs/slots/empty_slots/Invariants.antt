use Rattle.std.proofs.Common.{◌≡◌}
use Rattle.space_pages.specs.Pages.{empty_pages}
use Rattle.space_pages.specs.Slots.{pages_in}
use Rattle.space_pages.proofs.slots.empty_slots.Given as goal

abbrev pub invariant-loop-index : goal.invariant-loop-index
invariant-loop-index l = pages_in l.slots.items ≡ empty_pages l._index
