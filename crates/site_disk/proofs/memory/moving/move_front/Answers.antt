use Rattle.site_disk.proofs.Moving.{moves_front}
use Rattle.site_disk.proofs.memory.moving.move_front.Goals as goal

pub returns-clause-taken : goal.returns-clause-taken
returns-clause-taken c = moves_front c.args.from.now c.args.into.now _ _ c.min-n.ensures c.copy_from_slice.ensures.after
