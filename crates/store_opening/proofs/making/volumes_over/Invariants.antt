use Rattle.std.proofs.Common.{◌≡◌, length, map}
use Rattle.object_volume.specs.Volumes.{disk_of, number_of}
use Rattle.object_store.specs.Stores.{OfEach}
use Rattle.store_opening.proofs.making.volumes_over.Given as goal

abbrev pub invariant-loop-disk : goal.invariant-loop-disk
invariant-loop-disk g l =
    (l.number ≡ length l.yielded) × (map disk_of l.volumes.items ≡ l.yielded) × OfEach (λ place volume. number_of volume ≡ place) l.volumes.items
