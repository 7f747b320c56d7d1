use Rattle.std.proofs.Common.{◌≡◌, ◌<◌, ℕ, length, get_or, refl, sym, ap, subst, ◌∙◌, arith}
use Rattle.std.proofs.lemmas.Option.{slice_get-get_or}
use Rattle.std.specs.Prelude.{slice_get}
use Rattle.object_volume.specs.Headers.{HasVolume}
use Rattle.object_volume.specs.Volumes.{disk_of, number_of}
use Rattle.store_opening.specs.Formatting.{MayFormatVolume, FormatsVolume, FailsToFormat}
use Rattle.store_opening.specs.declared.faults.StoreDisk.TheVariants.{Volume as VolumeOf}
use Rattle.store_opening.specs.declared.faults.StoreFault.TheVariants.{DiskFault}
use Rattle.object_store.proofs.ReadingLemmas.{changes_one}
use Rattle.store_opening.proofs.formatting.format_one.Goals as goal

pub returns-in-Ok : goal.returns-in-Ok
returns-in-Ok g c =
    let was = get_or c.args.volumes.now c.from.result c.index-volumes-from.result in
    let is = c.format.new.self in
    let lt : c.from.result < length c.args.volumes.now = omega (arith, c.requires.within, c.from.ensures) in
    let own : number_of was ≡ c.args.number =
    c.requires.number was (ap (slice_get c.args.volumes.now) (sym c.from.ensures) ∙ slice_get-get_or c.args.volumes.now c.from.result c.index-volumes-from.result lt) in
    changes_one (FormatsVolume g.D.Disk c.args.era.now c.args.site c.args.blocks c.args.number) c.args.volumes.now c.from.result c.args.number c.index-volumes-from.result is c.from.ensures lt
    (record {
      value = c.format.ensures.volume;
      header = λ tells. subst (λ (n : ℕ). HasVolume n c.args.site c.args.blocks (g.D.Disk.bytes (disk_of is))) own (c.in-Ok.ensures.header tells);
      durable = λ tells. c.in-Ok.ensures.durable tells;
      crash = subst (λ (n : ℕ). MayFormatVolume g.D.Disk c.args.era.now n c.args.site c.args.blocks (disk_of was) (disk_of is)) own c.format.ensures.crash;
      ledger = c.format.ensures.ledger;
    })

pub returns-in-Err : goal.returns-in-Err
returns-in-Err g c =
    let was = get_or c.args.volumes.now c.from.result c.index-volumes-from.result in
    let is = c.format.new.self in
    let lt : c.from.result < length c.args.volumes.now = omega (arith, c.requires.within, c.from.ensures) in
    let own : number_of was ≡ c.args.number =
    c.requires.number was (ap (slice_get c.args.volumes.now) (sym c.from.ensures) ∙ slice_get-get_or c.args.volumes.now c.from.result c.index-volumes-from.result lt) in
    changes_one (FailsToFormat g.D.Disk c.args.era.now c.args.site c.args.blocks c.args.number (DiskFault (VolumeOf c.args.number))) c.args.volumes.now c.from.result c.args.number c.index-volumes-from.result is c.from.ensures lt
    (record {
      own = refl;
      value = c.format.ensures.volume;
      rose = c.in-Err.ensures.cause.failed;
      crash = subst (λ (n : ℕ). MayFormatVolume g.D.Disk c.args.era.now n c.args.site c.args.blocks (disk_of was) (disk_of is)) own c.format.ensures.crash;
      ledger = c.format.ensures.ledger;
    })
