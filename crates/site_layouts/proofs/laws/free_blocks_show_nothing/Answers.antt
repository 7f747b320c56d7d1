use Rattle.site_layouts.specs.VolumeLaws.{volume_spared}
use Rattle.site_layouts.proofs.laws.free_blocks_show_nothing.Goals as goal

pub returns : goal.returns
returns c = volume_spared
