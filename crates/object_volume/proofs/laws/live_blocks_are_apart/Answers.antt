use Rattle.object_volume.specs.ObjectsLaws.{live_are_apart}
use Rattle.object_volume.proofs.laws.live_blocks_are_apart.Goals as goal

pub returns : goal.returns
returns c table sent live listed apart = live_are_apart table sent live listed apart
