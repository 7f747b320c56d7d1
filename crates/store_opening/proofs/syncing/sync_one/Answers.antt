use Rattle.std.proofs.Common.{◌<◌, length, refl, arith}
use Rattle.store_opening.specs.Syncing.{SyncsVolume, FailsToSync}
use Rattle.store_opening.specs.declared.faults.StoreDisk.TheVariants.{Volume as VolumeOf}
use Rattle.store_opening.specs.declared.faults.StoreFault.TheVariants.{DiskFault}
use Rattle.object_store.proofs.ReadingLemmas.{changes_one}
use Rattle.store_opening.proofs.syncing.sync_one.Goals as goal

pub returns-in-Ok : goal.returns-in-Ok
returns-in-Ok g c =
    let is = c.sync.new.self in
    let lt : c.from.result < length c.args.volumes.now = omega (arith, c.requires.within, c.from.ensures) in
    changes_one (SyncsVolume g.D.Disk c.args.era.now c.args.number) c.args.volumes.now c.from.result c.args.number c.index-volumes-from.result is c.from.ensures lt
    (record {
      value = c.sync.ensures.volume;
      synced = record { bytes = c.in-Ok.ensures.bytes; synced = c.in-Ok.ensures.synced; durable = λ tells. c.in-Ok.ensures.durable tells };
      crash = c.sync.ensures.crash;
      ledger = c.sync.ensures.ledger;
    })

pub returns-in-Err : goal.returns-in-Err
returns-in-Err g c =
    let is = c.sync.new.self in
    let lt : c.from.result < length c.args.volumes.now = omega (arith, c.requires.within, c.from.ensures) in
    changes_one (FailsToSync g.D.Disk c.args.era.now c.args.number (DiskFault (VolumeOf c.args.number))) c.args.volumes.now c.from.result c.args.number c.index-volumes-from.result is c.from.ensures lt
    (record {
      own = refl;
      value = c.sync.ensures.volume;
      rose = c.in-Err.ensures.cause.failed;
      crash = c.sync.ensures.crash;
      ledger = c.sync.ensures.ledger;
    })
