use Rattle.site_layouts.specs.VoteLaws.{catalogue_shows, catalogue_stands, catalogue_votes}
use Rattle.site_layouts.proofs.laws.a_catalogue_shows_its_store.Goals as goal

pub returns-clause-shows : goal.returns-clause-shows
returns-clause-shows c = catalogue_shows

pub returns-clause-stands : goal.returns-clause-stands
returns-clause-stands c = catalogue_stands

pub returns-clause-behind : goal.returns-clause-behind
returns-clause-behind c = catalogue_votes
