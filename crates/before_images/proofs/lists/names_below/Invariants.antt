use Rattle.std.proofs.Common.{◌≡◌, ◌-◌}
use Rattle.before_images.specs.Saved.{numbers, are_below}
use Rattle.before_images.proofs.lists.names_below.Given as goal

abbrev pub invariant-loop-i : goal.invariant-loop-i
invariant-loop-i l = are_below l.limit (numbers 0 l.count l.head) ≡ are_below l.limit (numbers l.i (l.count - l.i) l.head)
