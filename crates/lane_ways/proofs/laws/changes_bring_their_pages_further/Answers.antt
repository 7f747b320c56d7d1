use Rattle.lane_ways.specs.RestLaws.{page_further_on, pages_further_on}
use Rattle.lane_ways.specs.StepLaws.{page_apart}
use Rattle.lane_ways.proofs.laws.changes_bring_their_pages_further.Goals as goal

pub returns-clause-page : goal.returns-clause-page
returns-clause-page c = page_further_on

pub returns-clause-pages : goal.returns-clause-pages
returns-clause-pages c = pages_further_on

pub returns-clause-apart : goal.returns-clause-apart
returns-clause-apart c = page_apart
