use Rattle.live_positions.specs.ResetPoints.{reset_points_in}
use Rattle.restore_planner.proofs.StretchLemmas.{live_stretches_fall}
use Rattle.restore_planner.proofs.live.LivePositions.has_between.Goals as goal

pub is_reached-requires : goal.is_reached-requires
is_reached-requires c =
    rw (c.deref.ensures.value, c.self.invariant) (live_stretches_fall (reset_points_in c.self.inside.resets.items) c.self.inside.at)
