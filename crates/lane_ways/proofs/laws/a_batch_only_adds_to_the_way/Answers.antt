use Rattle.lane_ways.specs.WayLaws.{way_grows, place_grows, laid_same, page_same, pages_same}
use Rattle.lane_ways.proofs.laws.a_batch_only_adds_to_the_way.Goals as goal

pub returns-clause-way : goal.returns-clause-way
returns-clause-way c = way_grows

pub returns-clause-place : goal.returns-clause-place
returns-clause-place c = place_grows

pub returns-clause-laid : goal.returns-clause-laid
returns-clause-laid c = laid_same

pub returns-clause-page : goal.returns-clause-page
returns-clause-page c = page_same

pub returns-clause-pages : goal.returns-clause-pages
returns-clause-pages c = pages_same
