use Rattle.std.proofs.Common.{◌≡◌, ◌+◌, ◌*◌, ◌++◌, take}
use Rattle.before_images.specs.Saved.{page_bytes}
use Rattle.before_images.proofs.lists.write_pages.Given as goal

abbrev pub invariant-loop-i : goal.invariant-loop-i
invariant-loop-i l = take (32 + 4 * l.i) l.head ≡ take 32 l.initial.head ++ page_bytes (take l.i l.pages)
