use Rattle.std.proofs.Common.{◌≡◌, ◌+◌, ℕ, arith, subst}
use Rattle.std.proofs.lemmas.Result.{err_from_is_err_and}
use Rattle.site_lanes.proofs.SyncingLemmas.{Partway, ahead_more, failed_at, one_more, syncs_all, syncs_more}
use Rattle.site_lanes.proofs.OneLemmas.{same_later, rose_from}
use Rattle.site_lanes.proofs.syncing.sync_lanes.Goals as goal

pub returns-in_err-sync_lane-clause-syncs : goal.returns-in_err-sync_lane-clause-syncs
returns-in_err-sync_lane-clause-syncs g c =
    let i = c.loop-space.space in
    let new = c.sync_lane.new.lanes in
    syncs_all g.D.Disk c.args.era.now (i + 1) c.args.count c.args.lanes.now new c.requires.era
    (syncs_more g.D.Disk c.args.era.now i c.args.lanes.now c.loop-space.lanes new c.loop-space.invariant c.sync_lane.ensures.syncs)
    (ahead_more g.D.Disk c.args.era.now i c.args.lanes.now c.loop-space.lanes new c.loop-space.invariant c.sync_lane.ensures.syncs)

pub returns-in_err-sync_lane-clause-failed : goal.returns-in_err-sync_lane-clause-failed
returns-in_err-sync_lane-clause-failed g c =
    let i = c.loop-space.space in
    let new = c.sync_lane.new.lanes in
    let p = err_from_is_err_and c.from_residual.result c.from_residual.ensures.1 in
    let is = c.in_err-sync_lane.ensures.failed in
    rw (p.1, p.2)
    (failed_at g.D.Disk c.args.era.now i c.args.count c.args.lanes.now new c.in_err-sync_lane.field-0.0 is.0 (omega arith)
    (rose_from g.D.Disk i c.args.lanes.now c.loop-space.lanes new (c.loop-space.invariant.ahead i (omega arith)) is.1)
    (ahead_more g.D.Disk c.args.era.now i c.args.lanes.now c.loop-space.lanes new c.loop-space.invariant c.sync_lane.ensures.syncs))

pub returns-in_err-sync_lane-clause-beyond : goal.returns-in_err-sync_lane-clause-beyond
returns-in_err-sync_lane-clause-beyond g c =
    let i = c.loop-space.space in
    let new = c.sync_lane.new.lanes in
    same_later (i + 1) c.args.count c.args.lanes.now new (omega arith)
    (ahead_more g.D.Disk c.args.era.now i c.args.lanes.now c.loop-space.lanes new c.loop-space.invariant c.sync_lane.ensures.syncs)

pub loop-space-preserved : goal.loop-space-preserved
loop-space-preserved g c =
    one_more g.D.Disk c.args.era.now c.loop-space.space c.args.lanes.now c.loop-space.lanes c.sync_lane.new.lanes c.loop-space.invariant c.sync_lane.ensures.syncs
    c.in_ok-sync_lane.ensures.synced

pub returns-clause-synced : goal.returns-clause-synced
returns-clause-synced g c =
    let end : c.loop-space.space ≡ c.args.count = omega arith in
    let is = subst (λ (n : ℕ). Partway g.D.Disk c.args.era.now n c.args.lanes.now c.loop-space.lanes) end c.loop-space.invariant in
    is.done

pub returns-clause-syncs : goal.returns-clause-syncs
returns-clause-syncs g c =
    let end : c.loop-space.space ≡ c.args.count = omega arith in
    let is = subst (λ (n : ℕ). Partway g.D.Disk c.args.era.now n c.args.lanes.now c.loop-space.lanes) end c.loop-space.invariant in
    is.syncs
