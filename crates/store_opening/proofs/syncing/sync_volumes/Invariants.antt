use Rattle.std.proofs.Common.{◌≡◌}
use Rattle.store_opening.specs.Disks.{FirstFrom}
use Rattle.store_opening.specs.Syncing.{SyncsVolume}
use Rattle.store_opening.proofs.syncing.sync_volumes.Given as goal

abbrev pub invariant-loop-number : goal.invariant-loop-number
invariant-loop-number g l =
    (l.store.cat ≡ l.initial.store.cat) × FirstFrom (SyncsVolume g.D.Disk l.era) l.number l.initial.store.volumes.items l.store.volumes.items
