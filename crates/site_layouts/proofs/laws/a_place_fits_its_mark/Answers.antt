use Rattle.site_layouts.specs.PlaceLaws.{place_fits}
use Rattle.site_layouts.proofs.laws.a_place_fits_its_mark.Goals as goal

pub returns : goal.returns
returns c = place_fits
