use Rattle.site_layouts.specs.ApartLaws.{apart, lanes_apart}
use Rattle.site_layouts.specs.WayLaws.{way_apart}
use Rattle.site_layouts.proofs.laws.a_move_leaves_the_others_apart.Goals as goal

pub returns-clause-behind : goal.returns-clause-behind
returns-clause-behind c = apart

pub returns-clause-way : goal.returns-clause-way
returns-clause-way c = way_apart

pub returns-clause-amid : goal.returns-clause-amid
returns-clause-amid c = lanes_apart
