use Rattle.std.proofs.Common.{◌+◌, ◌-◌, ◌*◌, length}
use Rattle.bsa_match.proofs.Walk.{Walked}
use Rattle.bsa_match.proofs.pattern.matches_a_suffix.Given as goal

abbrev pub invariant-loop-from : goal.invariant-loop-from
invariant-loop-from l = Walked l.pattern l.text l.star l.from l.matched

abbrev pub decreases-loop-from : goal.decreases-loop-from
decreases-loop-from l = (length l.text - l.from) * (length l.pattern + 1) + (length l.pattern - (l.star + l.matched))
