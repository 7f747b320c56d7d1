use Rattle.std.proofs.Common.{◌≡◌, map, take}
use Rattle.catalogue_journal.specs.Catalogues.{objects_of}
use Rattle.object_store.specs.Returns.{place_of_object, place_of_blocks, objects_with}
use Rattle.object_store.proofs.releasing.blocks_of_objects.Given as goal

abbrev pub invariant-loop-copy : goal.invariant-loop-copy
invariant-loop-copy g l = map place_of_blocks l.blocks.items ≡ map place_of_object (objects_with (take l.copy-index l.copies) (objects_of l.cat))
