use Rattle.site_openings.proofs.CheckLemmas.{refused_alike}
use Rattle.site_openings.proofs.laws.a_refusal_names_one_disk.Goals as goal

pub returns : goal.returns
returns c checks contents first second refused also = refused_alike contents checks first second refused also
