use Rattle.std.proofs.Common.{◌≡◌, ℕ, refl, sym, subst}
use Rattle.gated_slots.specs.Header.{StandsClosed}
use Rattle.site_disk.specs.Images.{OnlyAfter}
use Rattle.site_disk.specs.Ledger.{Uses}
use Rattle.site_disk.specs.Seen.{seen}
use Rattle.site_headers.specs.Views.{head_of}
use Rattle.catalogue_journal.specs.Catalogues.{cat_of}
use Rattle.catalogue_journal.specs.declared.catalogue.Catalogue.{Catalogue}
use Rattle.object_volume.specs.Volumes.{disk_of, number_of}
use Rattle.object_volume.specs.declared.volume.Volume.{Volume}
use Rattle.store_opening.specs.Disks.{EachFrom, StopsAt}
use Rattle.store_opening.specs.Formatting.{MayFormatVolume, FormatsVolume, FailsToFormat}
use Rattle.store_opening.specs.declared.faults.StoreFault.{StoreFault}
use Rattle.store_opening.proofs.FormatLemmas.{not_formatted, same_number, made_still, is_durable, formats}
use Rattle.store_opening.proofs.LoopLemmas.{each_now}
use Rattle.store_opening.proofs.StepLemmas.{on_ok_of, if_err_of, each_or_stops, uses_none, uses_store, risen_at}
use Rattle.store_opening.proofs.formatting.format_store.Goals as goal

pub returns-clause-failed : goal.returns-clause-failed
returns-clause-failed g c =
    if_err_of (EachFrom (FormatsVolume g.D.Disk c.args.era.now c.args.head.now.site c.args.head.now.blocks) c.args.store.now.volumes.items c.format_volumes.new.store.volumes.items)
    c.format_volumes.result c.format_volumes.ensures.volumes
    (λ fault stopped.
    let one = stopped.stopped in
    risen_at g.D.Disk.ledger c.args.store.now c.format_volumes.new.store stopped.number fault one.by.own
    (record { was = one.was; is = one.is; there = one.there; behind = one.behind; by = one.by.rose }))

pub returns-clause-volumes_crash : goal.returns-clause-volumes_crash
returns-clause-volumes_crash g c =
    each_or_stops (FormatsVolume g.D.Disk c.args.era.now c.args.head.now.site c.args.head.now.blocks) (FailsToFormat g.D.Disk c.args.era.now c.args.head.now.site c.args.head.now.blocks)
    (λ (place : ℕ) (was is : Volume g.row.D.Denot). MayFormatVolume g.D.Disk c.args.era.now place c.args.head.now.site c.args.head.now.blocks (disk_of was) (disk_of is))
    c.args.store.now.volumes.items c.format_volumes.new.store.volumes.items c.format_volumes.result c.format_volumes.ensures.volumes
    (λ place was is by. by.crash) (λ fault place was is by. by.crash)
    (λ place volume there. not_formatted g.D.Disk c.args.era.now place c.args.head.now.site c.args.head.now.blocks (disk_of volume))

pub returns-clause-ledger : goal.returns-clause-ledger
returns-clause-ledger g c =
    uses_store c.args.store.now c.format_volumes.new.store c.format.new.self c.format_volumes.ensures.cat g.D.Disk.ledger c.args.era.now 1 78849 1 77826 1 4098 c.format.ensures.ledger c.format.ensures.spare_ledger
    (each_or_stops (FormatsVolume g.D.Disk c.args.era.now c.args.head.now.site c.args.head.now.blocks) (FailsToFormat g.D.Disk c.args.era.now c.args.head.now.site c.args.head.now.blocks)
    (λ (place : ℕ) (was is : Volume g.row.D.Denot). Uses c.args.era.now 1 4098 (g.D.Disk.ledger (disk_of was)) (g.D.Disk.ledger (disk_of is)))
    c.args.store.now.volumes.items c.format_volumes.new.store.volumes.items c.format_volumes.result c.format_volumes.ensures.volumes
    (λ place was is by. by.ledger) (λ fault place was is by. by.ledger)
    (λ place volume there. uses_none g.D.Disk.ledger c.args.era.now 1 4098 (disk_of volume) (c.requires.era.volumes place volume there)))

pub returns-clause-formatted : goal.returns-clause-formatted
returns-clause-formatted g c tells =
    on_ok_of (λ (fault : StoreFault). StopsAt (FormatsVolume g.D.Disk c.args.era.now c.args.head.now.site c.args.head.now.blocks) (FailsToFormat g.D.Disk c.args.era.now c.args.head.now.site c.args.head.now.blocks) fault c.args.store.now.volumes.items c.format_volumes.new.store.volumes.items)
    c.format_volumes.result c.format_volumes.ensures.volumes
    (λ from. formats c.args.store.now c.format_volumes.new.store c.format.new.self c.format_volumes.ensures.cat g.D.Disk c.args.era.now (head_of c.args.head.now) tells c.requires.made.capacity
    (c.in_default.ensures.closed tells) (c.in_default.ensures.mark tells) (c.in_default.ensures.journal tells) (c.in_default.ensures.none tells) (c.in_default.ensures.spare tells) from)

pub returns-clause-durable : goal.returns-clause-durable
returns-clause-durable g c tells =
    on_ok_of (λ (fault : StoreFault). StopsAt (FormatsVolume g.D.Disk c.args.era.now c.args.head.now.site c.args.head.now.blocks) (FailsToFormat g.D.Disk c.args.era.now c.args.head.now.site c.args.head.now.blocks) fault c.args.store.now.volumes.items c.format_volumes.new.store.volumes.items)
    c.format_volumes.result c.format_volumes.ensures.volumes
    (λ from. is_durable c.args.store.now c.format_volumes.new.store c.format.new.self c.format_volumes.ensures.cat g.D.Disk c.args.era.now (c.in_default.ensures.durable tells) (c.in_default.ensures.spare_durable tells)
    (each_now (FormatsVolume g.D.Disk c.args.era.now c.args.head.now.site c.args.head.now.blocks)
    (λ (place : ℕ) (volume : Volume g.row.D.Denot). OnlyAfter c.args.era.now.number (g.D.Disk.bytes (disk_of volume)) (g.D.Disk.image (disk_of volume)))
    c.args.store.now.volumes.items c.format_volumes.new.store.volumes.items from (λ place was is there by. by.durable tells)))

pub returns-clause-made : goal.returns-clause-made
returns-clause-made g c =
    made_still c.args.store.now c.format_volumes.new.store c.format.new.self c.format_volumes.ensures.cat c.format.ensures.made c.format.ensures.capacity
    (each_or_stops (FormatsVolume g.D.Disk c.args.era.now c.args.head.now.site c.args.head.now.blocks) (FailsToFormat g.D.Disk c.args.era.now c.args.head.now.site c.args.head.now.blocks)
    (λ (place : ℕ) (was is : Volume g.row.D.Denot). number_of is ≡ number_of was)
    c.args.store.now.volumes.items c.format_volumes.new.store.volumes.items c.format_volumes.result c.format_volumes.ensures.volumes
    (λ place was is by. same_number was is by.value) (λ fault place was is by. same_number was is by.value) (λ place volume there. refl))
    c.requires.made

pub returns-clause-closed : goal.returns-clause-closed
returns-clause-closed g c tells =
    if_err_of (EachFrom (FormatsVolume g.D.Disk c.args.era.now c.args.head.now.site c.args.head.now.blocks) c.args.store.now.volumes.items c.format_volumes.new.store.volumes.items)
    c.format_volumes.result c.format_volumes.ensures.volumes
    (λ fault stopped behind. subst (λ (k : Catalogue g.row.D.Denot). StandsClosed (seen g.D.Disk (cat_of k))) (sym c.format_volumes.ensures.cat) (c.in_default.ensures.closed tells))
