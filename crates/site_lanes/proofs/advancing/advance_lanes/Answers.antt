use Rattle.std.proofs.Common.{◌≡◌, ◌+◌, ℕ, map, arith, subst}
use Rattle.std.proofs.lemmas.Result.{err_from_is_err_and}
use Rattle.txn_table.specs.Table.{change_of}
use Rattle.site_lanes.proofs.AdvancingLemmas.{EachAdvanced, ahead_failed, one_more, works_done, works_failed}
use Rattle.site_lanes.proofs.OneLemmas.{rose_from, same_later}
use Rattle.site_lanes.proofs.SyncingLemmas.{failed_at}
use Rattle.site_lanes.proofs.advancing.advance_lanes.Goals as goal

pub advance_lane-requires-clause-opened : goal.advance_lane-requires-clause-opened
advance_lane-requires-clause-opened g c place lane there same = c.loop-space.invariant.opened place lane there (omega (arith, same))

pub returns-in_err-advance_lane-clause-works : goal.returns-in_err-advance_lane-clause-works
returns-in_err-advance_lane-clause-works g c =
    works_failed g.D.Disk c.args.era.now c.args.to (map change_of c.args.changes.now) c.args.count c.loop-space.space c.args.lanes.now c.loop-space.lanes c.advance_lane.new.lanes
    c.loop-space.invariant c.advance_lane.ensures.works c.args.count

pub returns-in_err-advance_lane-clause-failed : goal.returns-in_err-advance_lane-clause-failed
returns-in_err-advance_lane-clause-failed g c =
    let i = c.loop-space.space in
    let p = err_from_is_err_and c.from_residual.result c.from_residual.ensures.1 in
    let is = c.in_err-advance_lane.ensures.failed in
    rw (p.1, p.2)
    (failed_at g.D.Disk c.args.era.now i c.args.count c.args.lanes.now c.advance_lane.new.lanes c.in_err-advance_lane.field-0.0 is.0 (omega arith)
    (rose_from g.D.Disk i c.args.lanes.now c.loop-space.lanes c.advance_lane.new.lanes (c.loop-space.invariant.ahead i (omega arith)) is.1)
    (ahead_failed g.D.Disk c.args.era.now c.args.to (map change_of c.args.changes.now) c.args.count i c.args.lanes.now c.loop-space.lanes c.advance_lane.new.lanes
    c.loop-space.invariant c.advance_lane.ensures.works))

pub returns-in_err-advance_lane-clause-beyond : goal.returns-in_err-advance_lane-clause-beyond
returns-in_err-advance_lane-clause-beyond g c =
    let i = c.loop-space.space in
    same_later (i + 1) c.args.count c.args.lanes.now c.advance_lane.new.lanes (omega arith)
    (ahead_failed g.D.Disk c.args.era.now c.args.to (map change_of c.args.changes.now) c.args.count i c.args.lanes.now c.loop-space.lanes c.advance_lane.new.lanes
    c.loop-space.invariant c.advance_lane.ensures.works)

pub loop-space-preserved : goal.loop-space-preserved
loop-space-preserved g c =
    one_more g.D.Disk c.args.era.now c.args.to (map change_of c.args.changes.now) c.args.count c.loop-space.space c.args.lanes.now c.loop-space.lanes c.advance_lane.new.lanes
    c.loop-space.invariant c.in_ok-advance_lane.ensures.advanced

pub returns-clause-advanced : goal.returns-clause-advanced
returns-clause-advanced g c =
    let end : c.loop-space.space ≡ c.args.count = omega arith in
    subst (λ (n : ℕ). EachAdvanced g.D.Disk c.args.era.now c.args.to (map change_of c.args.changes.now) n c.args.lanes.now c.loop-space.lanes) end c.loop-space.invariant.done

pub returns-clause-works : goal.returns-clause-works
returns-clause-works g c =
    let end : c.loop-space.space ≡ c.args.count = omega arith in
    works_done g.D.Disk c.args.era.now c.args.to (map change_of c.args.changes.now) c.args.count c.args.lanes.now c.loop-space.lanes
    (subst (λ (n : ℕ). EachAdvanced g.D.Disk c.args.era.now c.args.to (map change_of c.args.changes.now) n c.args.lanes.now c.loop-space.lanes) end c.loop-space.invariant.done)
