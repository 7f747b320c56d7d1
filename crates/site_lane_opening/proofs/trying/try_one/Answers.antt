use Rattle.std.proofs.Common.{◌≡◌, ◌∙◌, ◌++◌, List, length, take, drop, Some, refl, ap, arith}
use Rattle.std.proofs.lemmas.List.{take_at}
use Rattle.site_headers.specs.declared.heads.SpaceHead.{SpaceHead}
use Rattle.site_headers.specs.Views.{head_of, spaces_of}
use Rattle.site_core.specs.Faults.{of_lanes}
use Rattle.site_lane_opening.specs.Steps.{ToRefused, era_behind}
use Rattle.site_lane_opening.proofs.SiteLemmas.{lanes_may, opens_borrowed, stops_borrowed}
use Rattle.site_lane_opening.proofs.trying.try_one.Goals as goal

pub try_lane-requires-clause-may : goal.try_lane-requires-clause-may
try_lane-requires-clause-may g c = lanes_may g.D.Disk c.args.era.now c.args.site.now c.deref_mut.result.now c.deref_mut.ensures.value c.requires.may

pub returns-in-Err-clause-came : goal.returns-in-Err-clause-came
returns-in-Err-clause-came g c =
    let items = c.args.site.now.lanes.items in
    let moved = c.try_lane.new.lanes in
    let whole : take c.args.site.now.lanes.len (moved ++ drop (length moved) items) ≡ moved =
    take_at moved (drop (length moved) items) c.args.site.now.lanes.len (omega (arith, c.try_lane.auto.lanes, c.deref_mut.ensures.len)) in
    stops_borrowed g.D.Disk c.args.era.now c.args.site.now (Some c.args.space) (head_of c.args.head.now) c.deref_mut.result.now moved _ c.deref_mut.ensures.value whole
    (ToRefused g.D.Disk (era_behind c.args.era.now)) _ c.in-Err.fault c.of_lanes.result (c.of_lanes.ensures ∙ ap (λ (spaces : List SpaceHead). of_lanes (spaces_of spaces) c.in-Err.fault) c.deref.ensures.value)
    c.in-Err.ensures.came _ refl

pub returns-in-Ok-clause-came : goal.returns-in-Ok-clause-came
returns-in-Ok-clause-came g c =
    let items = c.args.site.now.lanes.items in
    let moved = c.try_lane.new.lanes in
    let whole : take c.args.site.now.lanes.len (moved ++ drop (length moved) items) ≡ moved =
    take_at moved (drop (length moved) items) c.args.site.now.lanes.len (omega (arith, c.try_lane.auto.lanes, c.deref_mut.ensures.len)) in
    opens_borrowed g.D.Disk c.args.era.now c.args.site.now (Some c.args.space) (head_of c.args.head.now) c.deref_mut.result.now moved _ c.deref_mut.ensures.value whole c.in-Ok.ensures.came
