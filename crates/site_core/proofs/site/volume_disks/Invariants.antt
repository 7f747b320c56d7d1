use Rattle.std.proofs.Common.{◌≡◌, map}
use Rattle.object_volume.specs.Volumes.{disk_of as volume_disk}
use Rattle.site_core.proofs.site.volume_disks.Given as goal

abbrev pub invariant-loop-volume : goal.invariant-loop-volume
invariant-loop-volume g l = map volume_disk l.yielded ≡ l.disks.items
