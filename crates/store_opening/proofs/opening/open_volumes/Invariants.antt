use Rattle.std.proofs.Common.{◌≡◌}
use Rattle.catalogue_journal.specs.Catalogues.{objects_of}
use Rattle.store_opening.specs.Disks.{FirstFrom}
use Rattle.store_opening.specs.Opening.{OpensVolume}
use Rattle.store_opening.proofs.opening.open_volumes.Given as goal

abbrev pub invariant-loop-number : goal.invariant-loop-number
invariant-loop-number g l =
    (l.store.cat ≡ l.initial.store.cat) × FirstFrom (OpensVolume g.D.Disk l.era l.site (objects_of l.initial.store.cat)) l.number l.initial.store.volumes.items l.store.volumes.items
