use Rattle.std.proofs.Common.{◌≡◌, length, map}
use Rattle.space_lane.specs.Lanes.{disk_of as lane_disk}
use Rattle.site_core.specs.Made.{AreMade}
use Rattle.site_core.proofs.site.lanes_over.Given as goal

abbrev pub invariant-loop-chunk : goal.invariant-loop-chunk
invariant-loop-chunk g l =
    (l.space ≡ length l.yielded) × (map lane_disk l.lanes.items ≡ l.yielded) × AreMade l.lanes.items
