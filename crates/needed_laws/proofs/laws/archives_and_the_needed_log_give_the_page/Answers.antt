use Rattle.needed_laws.specs.JoinedLaws.{joined}
use Rattle.needed_laws.proofs.laws.archives_and_the_needed_log_give_the_page.Goals as goal

pub returns : goal.returns
returns c = joined
