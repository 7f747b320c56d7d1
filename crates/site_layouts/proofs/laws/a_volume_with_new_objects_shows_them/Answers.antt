use Rattle.site_layouts.specs.VolumeLaws.{volume_votes}
use Rattle.site_layouts.proofs.laws.a_volume_with_new_objects_shows_them.Goals as goal

pub returns : goal.returns
returns c = volume_votes
