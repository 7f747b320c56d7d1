use Rattle.block_chain.specs.Blocks.{blocks_of_runs}
use Rattle.object_volume.specs.ObjectsLaws.{spared_front}
use Rattle.object_volume.proofs.laws.spared_objects_read_the_same.Goals as goal

pub returns : goal.returns
returns c runs size blocks limit old new spares apart below = spared_front blocks (blocks_of_runs runs) size limit old new spares apart below
