use Rattle.site_layouts.specs.NewLaws.{not_both, one_contents, one_head}
use Rattle.site_layouts.proofs.laws.a_catalogue_tells_what_it_shows.Goals as goal

pub returns-clause-either : goal.returns-clause-either
returns-clause-either c = not_both

pub returns-clause-head : goal.returns-clause-head
returns-clause-head c = one_head

pub returns-clause-contents : goal.returns-clause-contents
returns-clause-contents c = one_contents
