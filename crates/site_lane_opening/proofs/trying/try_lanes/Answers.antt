use Rattle.std.proofs.Common.{◌≡◌, sym, subst, arith, inl, inr}
use Rattle.std.proofs.lemmas.Result.{err_from_is_err_and}
use Rattle.site_disk.specs.Ledger.{EraView}
use Rattle.site_lanes.specs.Lanes.{AreOpened, IsOpened, MayUseEach, OfSpaces, Works}
use Rattle.site_lane_opening.specs.Steps.{era_behind}
use Rattle.site_lane_opening.proofs.TryingLemmas.{each_made, each_may, fails_syncing, opens_all, same_era, stops_all, synced_alone}
use Rattle.site_lane_opening.proofs.trying.try_lanes.Goals as goal

pub returns-in_err-sync_lanes-clause-came : goal.returns-in_err-sync_lanes-clause-came
returns-in_err-sync_lanes-clause-came g c =
    let p = err_from_is_err_and c.from_residual.result c.from_residual.ensures.1 in
    let e = c.in_err-sync_lanes.ensures in
    let old = c.args.lanes.now in
    let new = c.sync_lanes.new.lanes in
    rw (p.1, p.2)
    (inl (
      synced_alone g.D.Disk c.args.era.now c.args.head.now _ old new (omega arith) c.sync_lanes.auto.lanes e.syncs e.beyond,
      fails_syncing g.D.Disk c.args.era.now c.args.head.now _ old new (omega arith) c.in_err-sync_lanes.field-0.0 e.failed,
    ))

pub open_lanes-requires-clause-era : goal.open_lanes-requires-clause-era
open_lanes-requires-clause-era g c =
    let e = c.in_ok-sync_lanes.ensures in
    subst (λ (e : EraView). MayUseEach g.D.Disk e c.sync_lanes.new.lanes) (sym (same_era c.next.new.self (era_behind c.args.era.now) c.next.ensures.number c.next.ensures.key))
    (each_may g.D.Disk c.args.era.now _ c.args.lanes.now c.sync_lanes.new.lanes c.sync_lanes.auto.lanes e.syncs e.beyond c.requires.may)

pub open_lanes-requires-clause-made : goal.open_lanes-requires-clause-made
open_lanes-requires-clause-made g c =
    let e = c.in_ok-sync_lanes.ensures in
    each_made g.D.Disk c.args.era.now _ c.args.lanes.now c.sync_lanes.new.lanes c.sync_lanes.auto.lanes e.syncs e.beyond c.requires.made

pub returns-in_err-open_lanes-clause-came : goal.returns-in_err-open_lanes-clause-came
returns-in_err-open_lanes-clause-came g c =
    let p = err_from_is_err_and c.from_residual-in_err-open_lanes.result c.from_residual-in_err-open_lanes.ensures.1 in
    let old = c.args.lanes.now in
    let mid = c.sync_lanes.new.lanes in
    let new = c.open_lanes.new.lanes in
    let s = c.in_ok-sync_lanes.ensures in
    let o = c.in_err-open_lanes.ensures in
    let era = c.args.era.now in
    let head = c.args.head.now in
    let fault = c.in_err-open_lanes.field-0.0 in
    let same : c.next.new.self ≡ era_behind era = same_era c.next.new.self (era_behind era) c.next.ensures.number c.next.ensures.key in
    rw (p.1, p.2)
    (inr (
      omega arith,
      stops_all g.D.Disk era head _ old mid new (omega arith) c.requires.made c.requires.count c.sync_lanes.auto.lanes c.open_lanes.auto.lanes
          s.syncs s.synced s.beyond o.beyond
          (subst (λ (e : EraView). OfSpaces head.spaces.items (Works g.D.Disk e head.site) mid new) same o.works)
          fault o.refused
          (subst (λ (e : EraView). AreOpened g.D.Disk e head.site head.spaces.items mid new fault) same o.others),
    ))

pub returns-clause-came : goal.returns-clause-came
returns-clause-came g c =
    let old = c.args.lanes.now in
    let mid = c.sync_lanes.new.lanes in
    let new = c.open_lanes.new.lanes in
    let s = c.in_ok-sync_lanes.ensures in
    let o = c.in_ok-open_lanes.ensures in
    let era = c.args.era.now in
    let head = c.args.head.now in
    let same : c.next.new.self ≡ era_behind era = same_era c.next.new.self (era_behind era) c.next.ensures.number c.next.ensures.key in
    opens_all g.D.Disk era head _ old mid new (omega arith) c.requires.made c.requires.count c.sync_lanes.auto.lanes c.open_lanes.auto.lanes
    s.syncs s.synced s.beyond o.beyond
    (subst (λ (e : EraView). OfSpaces head.spaces.items (Works g.D.Disk e head.site) mid new) same o.works)
    (subst (λ (e : EraView). OfSpaces head.spaces.items (IsOpened g.D.Disk e head.site) mid new) same o.opened)
