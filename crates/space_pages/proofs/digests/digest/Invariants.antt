use Rattle.std.proofs.Common.{take}
use Rattle.sha2.specs.Hashers.{Holds256}
use Rattle.space_pages.specs.Layout.{all_bytes}
use Rattle.space_pages.specs.Slots.{pages_in}
use Rattle.space_pages.proofs.digests.digest.Given as goal

abbrev pub invariant-loop-i : goal.invariant-loop-i
invariant-loop-i l = Holds256 l.hasher (all_bytes l.space l.first (pages_in (take l.i l.slots)))
