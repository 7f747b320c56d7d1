use Rattle.std.proofs.Common.{◌<◌, length, map, arith}
use Rattle.txn_table.specs.Table.{change_of}
use Rattle.site_lanes.specs.Advancing.{Advances, IsAdvanced}
use Rattle.site_lanes.proofs.OneLemmas.{changes_one, changes_on_ok}
use Rattle.site_lanes.proofs.OpeningLemmas.{fell_at}
use Rattle.site_lanes.proofs.advancing.advance_lane.Goals as goal

pub returns-clause-advanced : goal.returns-clause-advanced
returns-clause-advanced g c =
    let lt : c.from.result < length c.args.lanes.now = omega (arith, c.requires.within, c.from.ensures) in
    changes_on_ok (IsAdvanced g.D.Disk c.args.era.now c.args.to (map change_of c.args.changes.now)) c.advance_one.result c.args.lanes.now c.from.result c.args.space c.index-lanes-from.result
    c.advance_one.new.lane c.from.ensures lt c.advance_one.ensures.advanced

pub returns-clause-works : goal.returns-clause-works
returns-clause-works g c =
    let lt : c.from.result < length c.args.lanes.now = omega (arith, c.requires.within, c.from.ensures) in
    changes_one (Advances g.D.Disk c.args.era.now c.args.to (map change_of c.args.changes.now)) c.args.lanes.now c.from.result c.args.space c.index-lanes-from.result
    c.advance_one.new.lane c.from.ensures lt c.advance_one.ensures.works

pub returns-clause-failed : goal.returns-clause-failed
returns-clause-failed g c =
    let lt : c.from.result < length c.args.lanes.now = omega (arith, c.requires.within, c.from.ensures) in
    fell_at g.D.Disk c.args.space c.args.lanes.now c.from.result c.index-lanes-from.result c.advance_one.new.lane c.from.ensures lt c.advance_one.result c.advance_one.ensures.failed
