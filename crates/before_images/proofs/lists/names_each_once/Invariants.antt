use Rattle.std.proofs.Common.{◌≡◌, ◌-◌}
use Rattle.before_images.specs.Saved.{numbers, are_distinct}
use Rattle.before_images.proofs.lists.names_each_once.Given as goal

abbrev pub invariant-loop-i : goal.invariant-loop-i
invariant-loop-i l = are_distinct (numbers 0 l.count l.head) ≡ are_distinct (numbers l.i (l.count - l.i) l.head)
