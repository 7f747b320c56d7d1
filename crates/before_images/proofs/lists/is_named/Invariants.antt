use Rattle.std.proofs.Common.{◌≡◌, ◌-◌}
use Rattle.before_images.specs.Saved.{numbers, is_among}
use Rattle.before_images.proofs.lists.is_named.Given as goal

abbrev pub invariant-loop-i : goal.invariant-loop-i
invariant-loop-i l = is_among l.page (numbers l.from (l.count - l.from) l.head) ≡ is_among l.page (numbers l.i (l.count - l.i) l.head)
