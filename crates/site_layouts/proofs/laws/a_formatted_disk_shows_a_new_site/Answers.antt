use Rattle.site_layouts.specs.NewLaws.{new_site_shows}
use Rattle.site_layouts.proofs.laws.a_formatted_disk_shows_a_new_site.Goals as goal

pub returns : goal.returns
returns c = new_site_shows
