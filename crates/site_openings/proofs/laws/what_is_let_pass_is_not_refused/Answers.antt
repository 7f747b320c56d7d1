use Rattle.site_openings.proofs.CheckLemmas.{never_both}
use Rattle.site_openings.proofs.laws.what_is_let_pass_is_not_refused.Goals as goal

pub returns : goal.returns
returns c checks contents status allowed refused = never_both contents checks status allowed refused
