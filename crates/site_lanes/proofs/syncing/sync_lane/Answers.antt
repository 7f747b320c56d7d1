use Rattle.std.proofs.Common.{◌<◌, length, refl, arith}
use Rattle.site_lanes.specs.Lanes.{IsSyncedBy, Syncs}
use Rattle.site_lanes.proofs.OneLemmas.{changes_one}
use Rattle.site_lanes.proofs.OpeningLemmas.{rose_there}
use Rattle.site_lanes.proofs.syncing.sync_lane.Goals as goal

pub returns-in-Ok-clause-synced : goal.returns-in-Ok-clause-synced
returns-in-Ok-clause-synced g c =
    let lt : c.from.result < length c.args.lanes.now = omega (arith, c.requires.within, c.from.ensures) in
    let e = c.in-Ok.ensures in
    changes_one (IsSyncedBy g.D.Disk c.args.era.now) c.args.lanes.now c.from.result c.args.space c.index-lanes-from.result c.sync.new.self c.from.ensures lt
    (record { bytes = e.bytes; synced = e.synced; durable = e.durable })

pub returns-in-Ok-clause-syncs : goal.returns-in-Ok-clause-syncs
returns-in-Ok-clause-syncs g c =
    let lt : c.from.result < length c.args.lanes.now = omega (arith, c.requires.within, c.from.ensures) in
    let e = c.sync.ensures in
    changes_one (Syncs g.D.Disk c.args.era.now) c.args.lanes.now c.from.result c.args.space c.index-lanes-from.result c.sync.new.self c.from.ensures lt
    (record { value = e.value; crash = e.crash; ledger = e.ledger })

pub returns-in-Err-clause-syncs : goal.returns-in-Err-clause-syncs
returns-in-Err-clause-syncs g c =
    let lt : c.from.result < length c.args.lanes.now = omega (arith, c.requires.within, c.from.ensures) in
    let e = c.sync.ensures in
    changes_one (Syncs g.D.Disk c.args.era.now) c.args.lanes.now c.from.result c.args.space c.index-lanes-from.result c.sync.new.self c.from.ensures lt
    (record { value = e.value; crash = e.crash; ledger = e.ledger })

pub returns-in-Err-clause-failed : goal.returns-in-Err-clause-failed
returns-in-Err-clause-failed g c =
    let lt : c.from.result < length c.args.lanes.now = omega (arith, c.requires.within, c.from.ensures) in
    (refl, rose_there g.D.Disk c.args.space c.args.lanes.now c.from.result c.index-lanes-from.result c.sync.new.self c.from.ensures lt c.in-Err.ensures.cause.failed)
