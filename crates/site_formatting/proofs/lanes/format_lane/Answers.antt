use Rattle.std.proofs.Common.{◌≡◌, get_or}
use Rattle.std.proofs.lemmas.Option.{slice_get-get_or}
use Rattle.std.specs.Prelude.{slice_get, Some}
use Rattle.site_headers.specs.Views.{head_of}
use Rattle.site_formatting.specs.Lanes.{FormatsLane, MissesLane}
use Rattle.site_core.specs.declared.faults.SiteFault.TheVariants.{DiskFault}
use Rattle.site_model.specs.declared.disk_name.DiskName.TheVariants.{Chunk}
use Rattle.site_formatting.proofs.StepLemmas.{changes_one}
use Rattle.site_formatting.proofs.LaneLemmas.{space_at, count_at, formats_lane, misses_lane}
use Rattle.site_formatting.proofs.lanes.format_lane.Goals as goal

pub format-requires-clause-pages : goal.format-requires-clause-pages
format-requires-clause-pages g c =
    count_at c.args.head.now.spaces.items c.args.place c.index.result.now c.requires.head.each c.requires.within c.index.ensures

pub returns-in-Ok : goal.returns-in-Ok
returns-in-Ok g c =
    let was = get_or c.args.lanes.now c.args.place c.index-lanes-place.result in
    let is = c.format.new.self in
    let head = head_of c.args.head.now in
    let there : slice_get c.args.lanes.now c.args.place ≡ Some was = slice_get-get_or c.args.lanes.now c.args.place c.index-lanes-place.result c.requires.room in
    changes_one (FormatsLane g.D.Disk c.args.era.now head c.args.place) c.args.lanes.now c.args.place was is there
    (formats_lane g.D.Disk c.args.era.now head c.args.place c.index.result.now.pages was is
    (space_at c.args.head.now.spaces.items c.args.place c.index.result.now c.requires.within c.index.ensures) (c.requires.made c.args.place was there)
    c.format.ensures.made c.format.ensures.space c.format.ensures.crash c.format.ensures.ledger c.in-Ok.ensures.stands c.in-Ok.ensures.pages c.in-Ok.ensures.durable)

pub returns-in-Err : goal.returns-in-Err
returns-in-Err g c =
    let was = get_or c.args.lanes.now c.args.place c.index-lanes-place.result in
    let is = c.format.new.self in
    let head = head_of c.args.head.now in
    let there : slice_get c.args.lanes.now c.args.place ≡ Some was = slice_get-get_or c.args.lanes.now c.args.place c.index-lanes-place.result c.requires.room in
    changes_one (MissesLane g.D.Disk c.args.era.now head c.args.place (DiskFault (Chunk c.args.place))) c.args.lanes.now c.args.place was is there
    (misses_lane g.D.Disk c.args.era.now head c.args.place c.index.result.now.pages was is
    (space_at c.args.head.now.spaces.items c.args.place c.index.result.now c.requires.within c.index.ensures) (c.requires.made c.args.place was there)
    c.format.ensures.made c.format.ensures.space c.format.ensures.crash c.format.ensures.ledger c.in-Err.ensures.cause.failed)
