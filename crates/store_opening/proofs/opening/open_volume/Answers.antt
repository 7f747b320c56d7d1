use Rattle.std.proofs.Common.{◌≡◌, Err, List, map, ap, sym, ◌∙◌, subst}
use Rattle.std.specs.declared.vec.Vec.{Vec}
use Rattle.std.specs.declared.alloc.Global.{Global}
use Rattle.block_chain.specs.declared.runs.Run.{Run}
use Rattle.catalogue_slots.specs.Views.{object_of}
use Rattle.object_volume.specs.declared.faults.VolumeFault.{VolumeFault}
use Rattle.store_opening.specs.Opening.{live_on, MissesVolume}
use Rattle.store_opening.specs.declared.faults.StoreFault.{StoreFault}
use Rattle.store_opening.proofs.LiveLemmas.{runs_in}
use Rattle.store_opening.proofs.OpeningLemmas.{misses, opens}
use Rattle.store_opening.proofs.opening.open_volume.Goals as goal

pub returns-in-Ok-open : goal.returns-in-Ok-open
returns-in-Ok-open g c =
    let lists : map runs_in c.deref.result.now ≡ live_on c.args.number (map object_of c.args.objects.now) =
    ap (λ (l : List (Vec Run Global)). map runs_in l) c.deref.ensures.value ∙ c.in-Ok.ensures in
    opens g.D.Disk c.args.era.now c.args.site (map object_of c.args.objects.now) c.args.number c.deref.result.now c.args.volume.now c.open.new.self lists c.requires.number c.open.ensures.number
    c.open.ensures.crash c.open.ensures.ledger c.in-Ok-open.ensures.opened c.in-Ok-open.ensures.idle (λ tells. c.in-Ok-open.ensures.header tells) c.in-Ok-open.ensures.free c.in-Ok-open.ensures.live c.in-Ok-open.ensures.parted
    c.in-Ok-open.ensures.bytes (λ tells. c.in-Ok-open.ensures.durable tells)

pub returns : goal.returns
returns g c =
    let lists : map runs_in c.deref.result.now ≡ live_on c.args.number (map object_of c.args.objects.now) =
    ap (λ (l : List (Vec Run Global)). map runs_in l) c.deref.ensures.value ∙ c.in-Ok.ensures in
    subst (λ (f : StoreFault). MissesVolume g.D.Disk c.args.era.now c.args.site (map object_of c.args.objects.now) c.args.number f c.args.volume.now c.open.new.self) (sym c.volume_fault.ensures)
    (misses g.D.Disk c.args.era.now c.args.site (map object_of c.args.objects.now) c.args.number c.deref.result.now c.args.volume.now c.open.new.self lists c.requires.number c.open.ensures.number
    c.open.ensures.crash c.open.ensures.ledger c.in-Err.fault (λ tells is. c.in-Err.ensures.no_header tells (ap (λ (f : VolumeFault). Err f) is)) (λ block is. c.in-Err.ensures.overlap block (ap (λ (f : VolumeFault). Err f) is)) (λ is. c.in-Err.ensures.failed (ap (λ (f : VolumeFault). Err f) is))
    (λ is. c.in-Err.ensures.no_header_bytes (ap (λ (f : VolumeFault). Err f) is)) (λ block is. c.in-Err.ensures.overlap_bytes block (ap (λ (f : VolumeFault). Err f) is)) (λ is. c.in-Err.ensures.memory_bytes (ap (λ (f : VolumeFault). Err f) is)))
