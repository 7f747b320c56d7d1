use Rattle.lane_restore.proofs.LoopLemmas.{Merging}
use Rattle.lane_restore.proofs.merging.merge_entries.Given as goal

abbrev pub invariant-loop-done : goal.invariant-loop-done
invariant-loop-done g l = Merging g.D.Disk l.era l.image l.entries l.count l._done l.initial.lane l.lane l.initial.volume l.volume l.reader l.cursor
