use Rattle.std.proofs.Common.{◌≡◌, ◌++◌, List, length, map, take, drop, refl, sym, subst, arith}
use Rattle.std.proofs.lemmas.List.{take_at}
use Rattle.std.proofs.lemmas.Result.{err_from_is_err_and}
use Rattle.txn_table.specs.Table.{change_of}
use Rattle.space_lane.specs.Lanes.{IsOpen as IsOpenLane}
use Rattle.space_lane.specs.declared.lane.Lane.{Lane}
use Rattle.site_lanes.specs.Advancing.{Advances, IsAdvanced}
use Rattle.site_lanes.specs.Lanes.{ChangesOne, MayUseEach, OfEach, RoseAt}
use Rattle.show_command.proofs.FrameLemmas.{may_each}
use Rattle.show_command.proofs.advancing.advance_space.Goals as goal

pub advance_lane-requires-clause-era : goal.advance_lane-requires-clause-era
advance_lane-requires-clause-era g c =
    subst (MayUseEach g.D.Disk c.args.era.now) (sym c.deref_mut.ensures.value) (may_each g.D.Disk c.args.era.now c.args.site.now c.requires.may)

pub advance_lane-requires-clause-opened : goal.advance_lane-requires-clause-opened
advance_lane-requires-clause-opened g c =
    subst (OfEach (λ place lane. place ≡ c.args.space → IsOpenLane lane)) (sym c.deref_mut.ensures.value) c.requires.lane

pub returns-in_err-advance_lane-clause-works : goal.returns-in_err-advance_lane-clause-works
returns-in_err-advance_lane-clause-works g c =
    let items = c.args.site.now.lanes.items in
    let moved = c.advance_lane.new.lanes in
    let whole : take c.args.site.now.lanes.len (moved ++ drop (length moved) items) ≡ moved =
    take_at moved (drop (length moved) items) c.args.site.now.lanes.len (omega (arith, c.advance_lane.auto.lanes, c.deref_mut.ensures.len)) in
    subst (λ (l : List (Lane g.row.D.Denot)). ChangesOne (Advances g.D.Disk c.args.era.now c.args.to (map change_of c.args.changes.now)) c.args.space items l) (sym whole)
    (subst (λ (l : List (Lane g.row.D.Denot)). ChangesOne (Advances g.D.Disk c.args.era.now c.args.to (map change_of c.args.changes.now)) c.args.space l moved) c.deref_mut.ensures.value
    c.advance_lane.ensures.works)

pub returns-clause-works : goal.returns-clause-works
returns-clause-works g c =
    let items = c.args.site.now.lanes.items in
    let moved = c.advance_lane.new.lanes in
    let whole : take c.args.site.now.lanes.len (moved ++ drop (length moved) items) ≡ moved =
    take_at moved (drop (length moved) items) c.args.site.now.lanes.len (omega (arith, c.advance_lane.auto.lanes, c.deref_mut.ensures.len)) in
    subst (λ (l : List (Lane g.row.D.Denot)). ChangesOne (Advances g.D.Disk c.args.era.now c.args.to (map change_of c.args.changes.now)) c.args.space items l) (sym whole)
    (subst (λ (l : List (Lane g.row.D.Denot)). ChangesOne (Advances g.D.Disk c.args.era.now c.args.to (map change_of c.args.changes.now)) c.args.space l moved) c.deref_mut.ensures.value
    c.advance_lane.ensures.works)

pub returns-clause-advanced : goal.returns-clause-advanced
returns-clause-advanced g c =
    let items = c.args.site.now.lanes.items in
    let moved = c.advance_lane.new.lanes in
    let whole : take c.args.site.now.lanes.len (moved ++ drop (length moved) items) ≡ moved =
    take_at moved (drop (length moved) items) c.args.site.now.lanes.len (omega (arith, c.advance_lane.auto.lanes, c.deref_mut.ensures.len)) in
    subst (λ (l : List (Lane g.row.D.Denot)). ChangesOne (IsAdvanced g.D.Disk c.args.era.now c.args.to (map change_of c.args.changes.now)) c.args.space items l) (sym whole)
    (subst (λ (l : List (Lane g.row.D.Denot)). ChangesOne (IsAdvanced g.D.Disk c.args.era.now c.args.to (map change_of c.args.changes.now)) c.args.space l moved) c.deref_mut.ensures.value
    c.in_ok-advance_lane.ensures.advanced)

pub returns-in_err-advance_lane-clause-failed : goal.returns-in_err-advance_lane-clause-failed
returns-in_err-advance_lane-clause-failed g c =
    let p = err_from_is_err_and c.from_residual.result c.from_residual.ensures.1 in
    let items = c.args.site.now.lanes.items in
    let moved = c.advance_lane.new.lanes in
    let whole : take c.args.site.now.lanes.len (moved ++ drop (length moved) items) ≡ moved =
    take_at moved (drop (length moved) items) c.args.site.now.lanes.len (omega (arith, c.advance_lane.auto.lanes, c.deref_mut.ensures.len)) in
    rw (p.1, p.2, c.in_err-advance_lane.ensures.failed.0) (
      refl,
      subst (λ (l : List (Lane g.row.D.Denot)). RoseAt g.D.Disk c.args.space items l) (sym whole)
          (subst (λ (l : List (Lane g.row.D.Denot)). RoseAt g.D.Disk c.args.space l moved) c.deref_mut.ensures.value c.in_err-advance_lane.ensures.failed.1),
    )
