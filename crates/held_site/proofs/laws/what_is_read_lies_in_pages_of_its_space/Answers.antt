use Rattle.held_site.specs.HeldLaws.{site_own, site_pages}
use Rattle.held_site.proofs.laws.what_is_read_lies_in_pages_of_its_space.Goals as goal

pub returns-clause-pages : goal.returns-clause-pages
returns-clause-pages c = site_pages

pub returns-clause-own : goal.returns-clause-own
returns-clause-own c = site_own
