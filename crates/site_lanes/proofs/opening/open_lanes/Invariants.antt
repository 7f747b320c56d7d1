use Rattle.site_lanes.proofs.OpeningLemmas.{Partway}
use Rattle.site_lanes.proofs.opening.open_lanes.Given as goal

abbrev pub invariant-loop-i : goal.invariant-loop-i
invariant-loop-i g l = Partway g.D.Disk l.era l.head.site l.head.spaces.items l.i l.initial.lanes l.lanes l.refusals
