use Rattle.site_openings.proofs.CheckLemmas.{allowed_both, refused_front, refused_behind}
use Rattle.site_openings.proofs.laws.checks_follow_one_another.Goals as goal

pub returns-clause-both : goal.returns-clause-both
returns-clause-both c checks more contents first second = allowed_both contents checks more first second

pub returns-clause-front : goal.returns-clause-front
returns-clause-front c checks more contents status refused = refused_front contents checks more status refused

pub returns-clause-behind : goal.returns-clause-behind
returns-clause-behind c checks more contents status allowed refused = refused_behind contents checks more status allowed refused
