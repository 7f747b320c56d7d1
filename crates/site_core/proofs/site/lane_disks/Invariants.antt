use Rattle.std.proofs.Common.{◌≡◌, map}
use Rattle.space_lane.specs.Lanes.{disk_of as lane_disk}
use Rattle.site_core.proofs.site.lane_disks.Given as goal

abbrev pub invariant-loop-lane : goal.invariant-loop-lane
invariant-loop-lane g l = map lane_disk l.yielded ≡ l.disks.items
