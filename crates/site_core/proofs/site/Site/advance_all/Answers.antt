use Rattle.std.proofs.Common.{◌≡◌, ◌++◌, List, length, map, take, drop, refl, sym, ap, subst, arith}
use Rattle.std.specs.Prelude.{OnOk, IfErr}
use Rattle.std.proofs.lemmas.List.{take_at}
use Rattle.txn_table.specs.Table.{change_of}
use Rattle.space_lane.specs.declared.lane.Lane.{Lane}
use Rattle.site_lanes.specs.Advancing.{IsAdvanced}
use Rattle.site_lanes.specs.Lanes.{FailsAt, MayUseEach, OfFirst}
use Rattle.site_core.proofs.FrameLemmas.{have_moved, may_each}
use Rattle.site_core.proofs.site.Site.advance_all.Goals as goal

pub advance_lanes-requires-clause-era : goal.advance_lanes-requires-clause-era
advance_lanes-requires-clause-era g c =
    subst (MayUseEach g.D.Disk c.args.era.now) (sym c.deref_mut.ensures.value) (may_each g.D.Disk c.args.era.now c.args.self.now c.requires.may)

pub returns-clause-moved : goal.returns-clause-moved
returns-clause-moved g c =
    have_moved g.D.Disk c.args.era.now c.args.spaces c.args.to (map change_of c.args.changes.now) c.args.self.now _ c.deref_mut.result.now c.advance_lanes.new.lanes c.args.self.now.lanes.len
    refl refl (omega (arith, c.deref_mut.ensures.len, ap (λ (l : List (Lane g.row.D.Denot)). length l) c.deref_mut.ensures.value)) c.deref_mut.ensures.value c.advance_lanes.auto.lanes
    c.advance_lanes.ensures.beyond c.advance_lanes.ensures.works

pub returns-clause-advanced : goal.returns-clause-advanced
returns-clause-advanced g c =
    let items = c.args.self.now.lanes.items in
    let moved = c.advance_lanes.new.lanes in
    let whole : take c.args.self.now.lanes.len (moved ++ drop (length moved) items) ≡ moved =
    take_at moved (drop (length moved) items) c.args.self.now.lanes.len (omega (arith, c.advance_lanes.auto.lanes, c.deref_mut.ensures.len)) in
    subst (λ (l : List (Lane g.row.D.Denot)). OnOk c.advance_lanes.result
    (OfFirst c.args.spaces (λ n was is. IsAdvanced g.D.Disk c.args.era.now c.args.to (map change_of c.args.changes.now) was is) items l)) (sym whole)
    (subst (λ (l : List (Lane g.row.D.Denot)). OnOk c.advance_lanes.result
    (OfFirst c.args.spaces (λ n was is. IsAdvanced g.D.Disk c.args.era.now c.args.to (map change_of c.args.changes.now) was is) l moved)) c.deref_mut.ensures.value
    c.advance_lanes.ensures.advanced)

pub returns-clause-failed : goal.returns-clause-failed
returns-clause-failed g c =
    let items = c.args.self.now.lanes.items in
    let moved = c.advance_lanes.new.lanes in
    let whole : take c.args.self.now.lanes.len (moved ++ drop (length moved) items) ≡ moved =
    take_at moved (drop (length moved) items) c.args.self.now.lanes.len (omega (arith, c.advance_lanes.auto.lanes, c.deref_mut.ensures.len)) in
    subst (λ (l : List (Lane g.row.D.Denot)). IfErr c.advance_lanes.result (FailsAt g.D.Disk c.args.spaces items l)) (sym whole)
    (subst (λ (l : List (Lane g.row.D.Denot)). IfErr c.advance_lanes.result (FailsAt g.D.Disk c.args.spaces l moved)) c.deref_mut.ensures.value c.advance_lanes.ensures.failed)
