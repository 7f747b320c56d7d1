use Rattle.lane_ways.specs.WayLaws.{page_at_live, pages_at_live, laid_along}
use Rattle.lane_ways.proofs.laws.a_live_position_has_its_pages.Goals as goal

pub returns-clause-page : goal.returns-clause-page
returns-clause-page c = page_at_live

pub returns-clause-pages : goal.returns-clause-pages
returns-clause-pages c = pages_at_live

pub returns-clause-along : goal.returns-clause-along
returns-clause-along c = laid_along
