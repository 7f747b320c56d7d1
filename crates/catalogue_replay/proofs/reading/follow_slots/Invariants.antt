use Rattle.std.proofs.Common.{◌-◌}
use Rattle.catalogue_replay.proofs.ReadingLemmas.{HasFollowed}
use Rattle.catalogue_replay.proofs.reading.follow_slots.Given as goal

abbrev pub invariant-loop-replay : goal.invariant-loop-replay
invariant-loop-replay g l =
    HasFollowed g.D.Disk.is_modelled g.D.Disk.bytes g.D.Disk.image g.D.Disk.ledger l.era l.slots.used l.held l.fn.disk l.disk l.replay

abbrev pub decreases-loop-replay : goal.decreases-loop-replay
decreases-loop-replay g l = l.held - l.replay.read
