use Rattle.std.proofs.Common.{◌<◌, length, map, arith}
use Rattle.catalogue_slots.specs.Views.{object_of}
use Rattle.store_opening.specs.Opening.{OpensVolume, MissesVolume}
use Rattle.object_store.proofs.ReadingLemmas.{changes_one}
use Rattle.store_opening.proofs.StepLemmas.{match_means}
use Rattle.store_opening.proofs.opening.open_one.Goals as goal

pub returns : goal.returns
returns g c =
    let is = c.open_volume.new.volume in
    let lt : c.from.result < length c.args.volumes.now = omega (arith, c.requires.within, c.from.ensures) in
    match_means c.open_volume.result c.open_volume.ensures
    (λ opens. changes_one (OpensVolume g.D.Disk c.args.era.now c.args.site (map object_of c.args.objects.now) c.args.number) c.args.volumes.now c.from.result c.args.number
    c.index-volumes-from.result is c.from.ensures lt opens)
    (λ fault misses. changes_one (MissesVolume g.D.Disk c.args.era.now c.args.site (map object_of c.args.objects.now) c.args.number fault) c.args.volumes.now c.from.result c.args.number
    c.index-volumes-from.result is c.from.ensures lt misses)
