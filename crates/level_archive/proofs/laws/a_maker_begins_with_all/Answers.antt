use Rattle.std.proofs.Common.{refl}
use Rattle.level_archive.proofs.laws.a_maker_begins_with_all.Goals as goal

pub returns : goal.returns
returns c head pages = refl
