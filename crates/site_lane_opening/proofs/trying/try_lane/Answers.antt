use Rattle.std.proofs.Common.{◌≡◌, subst, arith, inr, Err}
use Rattle.std.proofs.lemmas.Result.{err_from_is_err_and}
use Rattle.site_disk.specs.Ledger.{EraView}
use Rattle.site_headers.specs.Views.{head_of}
use Rattle.site_lane_opening.specs.Steps.{ChangesTo, ComesOne, ToOpened, era_behind}
use Rattle.site_lane_opening.proofs.TryingLemmas.{one_made, opens_one, same_era, stops_one}
use Rattle.site_lane_opening.proofs.trying.try_lane.Goals as goal

pub open_only-requires-clause-made : goal.open_only-requires-clause-made
open_only-requires-clause-made g c =
    one_made g.D.Disk c.args.era.now c.args.space c.args.lanes.now c.sync_lane.new.lanes c.in_ok-sync_lane.ensures.syncs c.requires.made

pub returns-in_err-open_only-clause-came : goal.returns-in_err-open_only-clause-came
returns-in_err-open_only-clause-came g c =
    let p = err_from_is_err_and c.from_residual-in_err-open_only.result c.from_residual-in_err-open_only.ensures.1 in
    let s = c.in_ok-sync_lane.ensures in
    let old = c.args.lanes.now in
    let mid = c.sync_lane.new.lanes in
    let new = c.open_only.new.lanes in
    let era = c.args.era.now in
    let head = head_of c.args.head.now in
    let fault = c.in_err-open_only.field-0.0 in
    let same : c.next.new.self ≡ era_behind era = same_era c.next.new.self (era_behind era) c.next.ensures.number c.next.ensures.key in
    rw (p.1, p.2)
    (inr (
      omega arith,
      stops_one g.D.Disk era head c.args.space old mid new c.requires.made c.sync_lane.auto.lanes c.open_only.auto.lanes s.syncs s.synced fault
          (subst (λ (e : EraView). ComesOne g.D.Disk e head c.args.space {T = Unit {0}} (Err fault) mid new) same c.in_err-open_only.ensures.came),
    ))

pub returns-clause-came : goal.returns-clause-came
returns-clause-came g c =
    let s = c.in_ok-sync_lane.ensures in
    let old = c.args.lanes.now in
    let mid = c.sync_lane.new.lanes in
    let new = c.open_only.new.lanes in
    let era = c.args.era.now in
    let head = head_of c.args.head.now in
    let same : c.next.new.self ≡ era_behind era = same_era c.next.new.self (era_behind era) c.next.ensures.number c.next.ensures.key in
    opens_one g.D.Disk era head c.args.space old mid new c.requires.made c.sync_lane.auto.lanes c.open_only.auto.lanes s.syncs s.synced
    (subst (λ (e : EraView). ChangesTo g.D.Disk e head c.args.space (ToOpened g.D.Disk e head.site) mid new) same c.in_ok-open_only.ensures.came)
