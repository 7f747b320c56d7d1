use Rattle.std.proofs.Common.{map, take}
use Rattle.object_store.specs.Returns.{place_of_blocks, AllGiveBack}
use Rattle.object_store.proofs.releasing.release_blocks.Given as goal

abbrev pub invariant-loop-object : goal.invariant-loop-object
invariant-loop-object g l = AllGiveBack g.D.Disk.is_modelled g.D.Disk.bytes (take l.object-index (map place_of_blocks l.blocks)) l.initial.volumes l.volumes
