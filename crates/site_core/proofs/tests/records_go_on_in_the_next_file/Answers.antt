use Rattle.std.proofs.Common.{refl}
use Rattle.site_core.proofs.tests.records_go_on_in_the_next_file.Goals as goal

pub open_next_file-requires-clause-next : goal.open_next_file-requires-clause-next
open_next_file-requires-clause-next g c files tells = c.in-Next-None.ensures.next files c.in-Next-None.drops tells refl
