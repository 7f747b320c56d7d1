use Rattle.std.proofs.Common.{◌<◌, length, get_or, arith}
use Rattle.site_lanes.specs.Lanes.{Works, CameTo}
use Rattle.site_lanes.proofs.OneLemmas.{changes_one, changes_ok}
use Rattle.site_lanes.proofs.OpeningLemmas.{came, fell, fell_at}
use Rattle.site_lanes.proofs.opening.open_lane.Goals as goal

pub returns-clause-works : goal.returns-clause-works
returns-clause-works g c =
    let lt : c.from.result < length c.args.lanes.now = omega (arith, c.requires.within, c.from.ensures) in
    let e = c.open-result.ensures in
    changes_one (Works g.D.Disk c.args.era.now c.args.site c.args.pages) c.args.lanes.now c.from.result c.args.space c.index-lanes-from.result c.open-result.new.self c.from.ensures lt
    (record { made = e.made; space = e.space; ledger = e.ledger; crash = e.crash; bound = e.bound; unheaded = e.unheaded })

pub returns-clause-came : goal.returns-clause-came
returns-clause-came g c =
    let lt : c.from.result < length c.args.lanes.now = omega (arith, c.requires.within, c.from.ensures) in
    let was = get_or c.args.lanes.now c.from.result c.index-lanes-from.result in
    let e = c.open-result.ensures in
    changes_ok (CameTo g.D.Disk c.args.era.now c.args.site c.args.pages) c.opening_of.result c.args.lanes.now c.from.result c.args.space c.index-lanes-from.result c.open-result.new.self
    c.from.ensures lt
    (came g.D.Disk c.args.era.now c.args.space c.args.site c.args.pages was c.open-result.new.self c.open-result.result c.opening_of.result c.opening_of.ensures
    e.opened e.told e.header e.found e.lost e.marked e.bad_mark e.stands e.bytes e.durable e.refused e.untouched)

pub returns-clause-failed : goal.returns-clause-failed
returns-clause-failed g c =
    let lt : c.from.result < length c.args.lanes.now = omega (arith, c.requires.within, c.from.ensures) in
    let was = get_or c.args.lanes.now c.from.result c.index-lanes-from.result in
    fell_at g.D.Disk c.args.space c.args.lanes.now c.from.result c.index-lanes-from.result c.open-result.new.self c.from.ensures lt c.opening_of.result
    (fell g.D.Disk c.args.era.now c.args.space c.args.site c.args.pages was c.open-result.new.self c.open-result.result c.opening_of.result c.opening_of.ensures
    c.open-result.ensures.only c.open-result.ensures.failed)
