use Rattle.std.proofs.Common.{refl}
use Rattle.logical_log.proofs.tests.files_follow_one_another.Goals as goal

pub open_next-requires-clause-next : goal.open_next-requires-clause-next
open_next-requires-clause-next g c files tells = c.in-Next-None.ensures.next files c.in-Next-None.drops tells refl
