use Rattle.std.proofs.Common.{◌+◌, ◌*◌}
use Rattle.stream_board.proofs.worker.+spreads.Given as goal

abbrev pub decreases-spread : goal.decreases-spread
decreases-spread g l = 2 * l.workers

abbrev pub decreases-join+arg2 : goal.decreases-join+arg2
decreases-join+arg2 g l = 2 * l.more + 1

abbrev pub decreases-join+arg3 : goal.decreases-join+arg3
decreases-join+arg3 g l = 2 * l.less + 1
