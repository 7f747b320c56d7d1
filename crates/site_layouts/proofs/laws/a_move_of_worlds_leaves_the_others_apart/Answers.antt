use Rattle.site_layouts.specs.NewLaws.{world_apart}
use Rattle.site_layouts.proofs.laws.a_move_of_worlds_leaves_the_others_apart.Goals as goal

pub returns : goal.returns
returns c = world_apart
