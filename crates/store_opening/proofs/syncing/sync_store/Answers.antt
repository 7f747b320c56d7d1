use Rattle.std.proofs.Common.{◌≡◌, ℕ, refl}
use Rattle.site_disk.specs.Ledger.{Uses}
use Rattle.object_volume.specs.Volumes.{disk_of, with_disk}
use Rattle.object_volume.specs.declared.volume.Volume.{Volume}
use Rattle.store_opening.specs.Disks.{EachFrom, StopsAt, IsSynced, WritesNothing}
use Rattle.store_opening.specs.Syncing.{SyncsVolume, FailsToSync}
use Rattle.store_opening.specs.declared.faults.StoreFault.{StoreFault}
use Rattle.store_opening.proofs.LoopLemmas.{each_means}
use Rattle.store_opening.proofs.StepLemmas.{on_ok_of, if_err_of, each_or_stops, writes_nothing, uses_none, each_disk, uses_store, risen_at}
use Rattle.store_opening.proofs.syncing.sync_store.Goals as goal

pub returns-clause-synced : goal.returns-clause-synced
returns-clause-synced g c =
    on_ok_of (λ (fault : StoreFault). StopsAt (SyncsVolume g.D.Disk c.args.era.now) (FailsToSync g.D.Disk c.args.era.now) fault c.args.store.now.volumes.items c.sync_volumes.new.store.volumes.items)
    c.sync_volumes.result c.sync_volumes.ensures.volumes
    (λ from. each_disk c.args.store.now c.sync_volumes.new.store c.sync.new.self c.sync_volumes.ensures.cat (IsSynced g.D.Disk c.args.era.now)
    (record { bytes = c.in_default.ensures.bytes; synced = c.in_default.ensures.synced; durable = λ tells. c.in_default.ensures.durable tells })
    (record { bytes = c.in_default.ensures.spare_bytes; synced = c.in_default.ensures.spare_synced; durable = λ tells. c.in_default.ensures.spare_durable tells })
    (each_means (SyncsVolume g.D.Disk c.args.era.now) (λ (place : ℕ) (was is : Volume g.row.D.Denot). IsSynced g.D.Disk c.args.era.now (disk_of was) (disk_of is))
    c.args.store.now.volumes.items c.sync_volumes.new.store.volumes.items (λ place was is by. by.synced) from))

pub returns-clause-volumes : goal.returns-clause-volumes
returns-clause-volumes g c =
    each_or_stops (SyncsVolume g.D.Disk c.args.era.now) (FailsToSync g.D.Disk c.args.era.now) (λ (place : ℕ) (was is : Volume g.row.D.Denot). is ≡ with_disk was (disk_of is))
    c.args.store.now.volumes.items c.sync_volumes.new.store.volumes.items c.sync_volumes.result c.sync_volumes.ensures.volumes
    (λ place was is by. by.value) (λ fault place was is by. by.value) (λ place volume there. refl)

pub returns-clause-failed : goal.returns-clause-failed
returns-clause-failed g c =
    if_err_of (EachFrom (SyncsVolume g.D.Disk c.args.era.now) c.args.store.now.volumes.items c.sync_volumes.new.store.volumes.items) c.sync_volumes.result c.sync_volumes.ensures.volumes
    (λ fault stopped.
    let one = stopped.stopped in
    risen_at g.D.Disk.ledger c.args.store.now c.sync_volumes.new.store stopped.number fault one.by.own
    (record { was = one.was; is = one.is; there = one.there; behind = one.behind; by = one.by.rose }))

pub returns-clause-crash : goal.returns-clause-crash
returns-clause-crash g c =
    each_disk c.args.store.now c.sync_volumes.new.store c.sync.new.self c.sync_volumes.ensures.cat (WritesNothing g.D.Disk.image c.args.era.now) c.sync.ensures.crash c.sync.ensures.spare_crash
    (each_or_stops (SyncsVolume g.D.Disk c.args.era.now) (FailsToSync g.D.Disk c.args.era.now)
    (λ (place : ℕ) (was is : Volume g.row.D.Denot). WritesNothing g.D.Disk.image c.args.era.now (disk_of was) (disk_of is))
    c.args.store.now.volumes.items c.sync_volumes.new.store.volumes.items c.sync_volumes.result c.sync_volumes.ensures.volumes
    (λ place was is by. by.crash) (λ fault place was is by. by.crash) (λ place volume there. writes_nothing g.D.Disk.image c.args.era.now (disk_of volume)))

pub returns-clause-ledger : goal.returns-clause-ledger
returns-clause-ledger g c =
    uses_store c.args.store.now c.sync_volumes.new.store c.sync.new.self c.sync_volumes.ensures.cat g.D.Disk.ledger c.args.era.now 0 0 0 0 0 0 c.sync.ensures.ledger c.sync.ensures.spare_ledger
    (each_or_stops (SyncsVolume g.D.Disk c.args.era.now) (FailsToSync g.D.Disk c.args.era.now)
    (λ (place : ℕ) (was is : Volume g.row.D.Denot). Uses c.args.era.now 0 0 (g.D.Disk.ledger (disk_of was)) (g.D.Disk.ledger (disk_of is)))
    c.args.store.now.volumes.items c.sync_volumes.new.store.volumes.items c.sync_volumes.result c.sync_volumes.ensures.volumes
    (λ place was is by. by.ledger) (λ fault place was is by. by.ledger)
    (λ place volume there. uses_none g.D.Disk.ledger c.args.era.now 0 0 (disk_of volume) (c.requires.era.volumes place volume there)))
