use Rattle.lane_ways.specs.WayLaws.{page_all, pages_all}
use Rattle.lane_ways.proofs.laws.all_changes_laid_give_the_pages.Goals as goal

pub returns-clause-page : goal.returns-clause-page
returns-clause-page c = page_all

pub returns-clause-pages : goal.returns-clause-pages
returns-clause-pages c = pages_all
