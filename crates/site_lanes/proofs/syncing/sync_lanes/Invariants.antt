use Rattle.site_lanes.proofs.SyncingLemmas.{Partway}
use Rattle.site_lanes.proofs.syncing.sync_lanes.Given as goal

abbrev pub invariant-loop-space : goal.invariant-loop-space
invariant-loop-space g l = Partway g.D.Disk l.era l.space l.initial.lanes l.lanes
