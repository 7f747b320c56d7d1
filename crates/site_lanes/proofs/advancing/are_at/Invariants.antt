use Rattle.std.proofs.Common.{◌≡◌, ◌<◌, ℕ, Some, true}
use Rattle.std.specs.Prelude.{slice_get}
use Rattle.space_lane.specs.Lanes.{state_of}
use Rattle.space_lane.specs.declared.lane.Lane.{Lane}
use Rattle.site_lanes.specs.Advancing.{is_at}
use Rattle.site_lanes.proofs.advancing.are_at.Given as goal

abbrev pub invariant-loop-space : goal.invariant-loop-space
invariant-loop-space g l = (space : ℕ) (lane : Lane g.row.D.Denot) → space < l.space → slice_get l.lanes space ≡ Some lane → is_at l.to (state_of lane) ≡ true
