use Rattle.site_stories.specs.EventLaws.{befallen_fits}
use Rattle.site_stories.proofs.laws.what_befalls_a_site_leaves_it_fit.Goals as goal

pub returns : goal.returns
returns c = befallen_fits
