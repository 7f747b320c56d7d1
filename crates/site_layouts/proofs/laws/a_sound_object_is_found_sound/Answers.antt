use Rattle.site_layouts.specs.VolumeLaws.{sound_is_judged}
use Rattle.site_layouts.proofs.laws.a_sound_object_is_found_sound.Goals as goal

pub returns : goal.returns
returns c = sound_is_judged
