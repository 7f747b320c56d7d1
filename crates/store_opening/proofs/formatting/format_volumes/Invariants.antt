use Rattle.std.proofs.Common.{◌≡◌}
use Rattle.store_opening.specs.Disks.{FirstFrom}
use Rattle.store_opening.specs.Formatting.{FormatsVolume}
use Rattle.store_opening.proofs.formatting.format_volumes.Given as goal

abbrev pub invariant-loop-number : goal.invariant-loop-number
invariant-loop-number g l =
    (l.store.cat ≡ l.initial.store.cat) × FirstFrom (FormatsVolume g.D.Disk l.era l.site l.blocks) l.number l.initial.store.volumes.items l.store.volumes.items
