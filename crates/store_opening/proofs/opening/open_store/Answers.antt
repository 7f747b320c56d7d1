use Rattle.std.proofs.Common.{◌≡◌, ℕ, ◌+◌, ◌*◌, refl, subst, ◌∙◌}
use Rattle.std.proofs.lemmas.Result.{err_from_is_err_and}
use Rattle.site_disk.specs.Images.{OnlyAfter}
use Rattle.site_disk.specs.Ledger.{Uses}
use Rattle.site_headers.specs.Areas.{slot_count}
use Rattle.site_headers.specs.Views.{head_of}
use Rattle.catalogue_replay.specs.Answers.{IsCatalogue}
use Rattle.catalogue_journal.specs.Catalogues.{cat_of, spare_of, capacity_of, objects_of, contents_in}
use Rattle.object_volume.specs.Volumes.{disk_of, number_of}
use Rattle.object_volume.specs.declared.volume.Volume.{Volume}
use Rattle.store_opening.specs.Disks.{files_of, KeepsBytes, WritesNothing}
use Rattle.store_opening.specs.Opening.{OpensVolume, MissesVolume}
use Rattle.store_opening.proofs.AgreeLemmas.{HasOpened, has_opened, opens_store, settles_store, is_good, head_is, agrees, opened_catalogue, volumes_refuse, volumes_risen, cat_refuses}
use Rattle.store_opening.proofs.FormatLemmas.{made_still, is_durable}
use Rattle.store_opening.proofs.LoopLemmas.{each_means, each_now, stops_each}
use Rattle.store_opening.proofs.StepLemmas.{writes_nothing, uses_none, each_disk, uses_store}
use Rattle.store_opening.proofs.StoreLemmas.{good_opens, shown_fails, refused_once}
use Rattle.store_opening.proofs.opening.open_store.Goals as goal

pub returns-clause-opened : goal.returns-clause-opened
returns-clause-opened g c =
    opens_store g.D.Disk c.args.era.now c.args.store.now c.open_volumes.new.store c.open.new.self c.open_volumes.ensures.cat c.requires.made c.in-Ok.ensures.opened c.open.ensures.capacity c.in-Ok.head.site c.in_ok-open_volumes.ensures.volumes

pub returns-clause-settled : goal.returns-clause-settled
returns-clause-settled g c =
    (settles_store g.D.Disk c.args.era.now c.args.store.now c.open_volumes.new.store c.open.new.self c.open_volumes.ensures.cat c.requires.made c.in-Ok.ensures.opened c.open.ensures.capacity c.in-Ok.head.site c.in_ok-open_volumes.ensures.volumes).0

pub returns-clause-order : goal.returns-clause-order
returns-clause-order g c =
    (settles_store g.D.Disk c.args.era.now c.args.store.now c.open_volumes.new.store c.open.new.self c.open_volumes.ensures.cat c.requires.made c.in-Ok.ensures.opened c.open.ensures.capacity c.in-Ok.head.site c.in_ok-open_volumes.ensures.volumes).1

pub returns-clause-good : goal.returns-clause-good
returns-clause-good g c tells =
    is_good g.D.Disk c.args.era.now (head_of c.in-Ok.head) c.args.store.now c.open_volumes.new.store tells
    (has_opened g.D.Disk c.args.era.now c.args.store.now c.open_volumes.new.store c.open.new.self c.open_volumes.ensures.cat c.requires.made c.in-Ok.ensures.opened c.open.ensures.capacity (head_of c.in-Ok.head) (4864 + 4097 * capacity_of c.args.store.now.cat) (c.in-Ok.ensures.head tells) (c.in-Ok.ensures.mark tells) (c.in-Ok.ensures.spare tells)
    (c.in-Ok.ensures.stands tells) c.in-Ok.ensures.bytes c.open.ensures.ledger c.open.ensures.spare_ledger c.in_ok-open_volumes.ensures.volumes)

pub returns-clause-shown : goal.returns-clause-shown
returns-clause-shown g c tells head contents taken shows =
    let has : HasOpened g.D.Disk c.args.era.now (head_of c.in-Ok.head) c.args.store.now c.open_volumes.new.store = has_opened g.D.Disk c.args.era.now c.args.store.now c.open_volumes.new.store c.open.new.self c.open_volumes.ensures.cat c.requires.made c.in-Ok.ensures.opened c.open.ensures.capacity (head_of c.in-Ok.head) (4864 + 4097 * capacity_of c.args.store.now.cat) (c.in-Ok.ensures.head tells) (c.in-Ok.ensures.mark tells) (c.in-Ok.ensures.spare tells)
    (c.in-Ok.ensures.stands tells) c.in-Ok.ensures.bytes c.open.ensures.ledger c.open.ensures.spare_ledger c.in_ok-open_volumes.ensures.volumes in (
      head_is g.D.Disk c.args.era.now (head_of c.in-Ok.head) c.args.store.now c.open_volumes.new.store tells has head contents taken shows,
      λ from lt. agrees g.D.Disk c.args.era.now (head_of c.in-Ok.head) c.args.store.now c.open_volumes.new.store tells has head contents taken shows from lt,
    )

pub returns-clause-refuses : goal.returns-clause-refuses
returns-clause-refuses g c tells fault is refuses =
    good_opens (g.D.Disk.bytes (cat_of c.args.store.now.cat)) (g.D.Disk.bytes (spare_of c.args.store.now.cat)) (files_of g.D.Disk.bytes c.args.store.now.volumes.items) (head_of c.in-Ok.head) (contents_in c.open_volumes.new.store.cat) fault
    (is_good g.D.Disk c.args.era.now (head_of c.in-Ok.head) c.args.store.now c.open_volumes.new.store tells
    (has_opened g.D.Disk c.args.era.now c.args.store.now c.open_volumes.new.store c.open.new.self c.open_volumes.ensures.cat c.requires.made c.in-Ok.ensures.opened c.open.ensures.capacity (head_of c.in-Ok.head) (4864 + 4097 * capacity_of c.args.store.now.cat) (c.in-Ok.ensures.head tells) (c.in-Ok.ensures.mark tells) (c.in-Ok.ensures.spare tells)
    (c.in-Ok.ensures.stands tells) c.in-Ok.ensures.bytes c.open.ensures.ledger c.open.ensures.spare_ledger c.in_ok-open_volumes.ensures.volumes)) is refuses

pub returns-clause-made : goal.returns-clause-made
returns-clause-made g c =
    made_still c.args.store.now c.open_volumes.new.store c.open.new.self c.open_volumes.ensures.cat c.open.ensures.made c.open.ensures.capacity (each_means (OpensVolume g.D.Disk c.args.era.now c.in-Ok.head.site (objects_of c.open.new.self)) (λ (place : ℕ) (was is : Volume g.row.D.Denot). number_of is ≡ number_of was) c.args.store.now.volumes.items c.open_volumes.new.store.volumes.items (λ place was is by. by.stays) c.in_ok-open_volumes.ensures.volumes) c.requires.made

pub returns-clause-bytes : goal.returns-clause-bytes
returns-clause-bytes g c =
    each_disk c.args.store.now c.open_volumes.new.store c.open.new.self c.open_volumes.ensures.cat (KeepsBytes g.D.Disk.bytes) c.in-Ok.ensures.bytes c.in-Ok.ensures.spare_bytes (each_means (OpensVolume g.D.Disk c.args.era.now c.in-Ok.head.site (objects_of c.open.new.self)) (λ (place : ℕ) (was is : Volume g.row.D.Denot). KeepsBytes g.D.Disk.bytes (disk_of was) (disk_of is)) c.args.store.now.volumes.items c.open_volumes.new.store.volumes.items (λ place was is by. by.bytes) c.in_ok-open_volumes.ensures.volumes)

pub returns-clause-durable : goal.returns-clause-durable
returns-clause-durable g c tells =
    is_durable c.args.store.now c.open_volumes.new.store c.open.new.self c.open_volumes.ensures.cat g.D.Disk c.args.era.now (c.in-Ok.ensures.durable tells) (c.in-Ok.ensures.spare_durable tells)
    (each_now (OpensVolume g.D.Disk c.args.era.now c.in-Ok.head.site (objects_of c.open.new.self)) (λ (place : ℕ) (volume : Volume g.row.D.Denot). OnlyAfter c.args.era.now.number (g.D.Disk.bytes (disk_of volume)) (g.D.Disk.image (disk_of volume))) c.args.store.now.volumes.items c.open_volumes.new.store.volumes.items c.in_ok-open_volumes.ensures.volumes (λ place was is there by. by.durable tells))

pub returns-clause-crash : goal.returns-clause-crash
returns-clause-crash g c =
    each_disk c.args.store.now c.open_volumes.new.store c.open.new.self c.open_volumes.ensures.cat (WritesNothing g.D.Disk.image c.args.era.now) c.open.ensures.crash c.open.ensures.spare_crash (each_means (OpensVolume g.D.Disk c.args.era.now c.in-Ok.head.site (objects_of c.open.new.self)) (λ (place : ℕ) (was is : Volume g.row.D.Denot). WritesNothing g.D.Disk.image c.args.era.now (disk_of was) (disk_of is)) c.args.store.now.volumes.items c.open_volumes.new.store.volumes.items (λ place was is by. by.crash) c.in_ok-open_volumes.ensures.volumes)

pub returns-clause-ledger : goal.returns-clause-ledger
returns-clause-ledger g c =
    uses_store c.args.store.now c.open_volumes.new.store c.open.new.self c.open_volumes.ensures.cat g.D.Disk.ledger c.args.era.now (4864 + 4097 * 65536) 0 4096 0 4096 0 (subst (λ (n : ℕ). Uses c.args.era.now (4864 + 4097 * n) 0 (g.D.Disk.ledger (cat_of c.args.store.now.cat)) (g.D.Disk.ledger (cat_of c.open.new.self))) c.requires.made.capacity c.open.ensures.ledger) c.open.ensures.spare_ledger (each_means (OpensVolume g.D.Disk c.args.era.now c.in-Ok.head.site (objects_of c.open.new.self)) (λ (place : ℕ) (was is : Volume g.row.D.Denot). Uses c.args.era.now 4096 0 (g.D.Disk.ledger (disk_of was)) (g.D.Disk.ledger (disk_of is))) c.args.store.now.volumes.items c.open_volumes.new.store.volumes.items (λ place was is by. by.ledger) c.in_ok-open_volumes.ensures.volumes)

pub returns-in_err-open_volumes-clause-refused : goal.returns-in_err-open_volumes-clause-refused
returns-in_err-open_volumes-clause-refused g c tells =
    let p = err_from_is_err_and c.from_residual.result c.from_residual.ensures.1 in
    let is : IsCatalogue slot_count (head_of c.in-Ok.head) (contents_in c.open.new.self) (g.D.Disk.bytes (cat_of c.args.store.now.cat)) (g.D.Disk.bytes (spare_of c.args.store.now.cat)) =
    opened_catalogue g.D.Disk c.args.store.now c.open.new.self (head_of c.in-Ok.head) (c.open.ensures.capacity ∙ c.requires.made.capacity) (c.in-Ok.ensures.head tells) (c.in-Ok.ensures.mark tells) (c.in-Ok.ensures.spare tells) (c.in-Ok.ensures.stands tells) c.in-Ok.ensures.bytes in
    rw (p.1, p.2) (volumes_refuse g.D.Disk c.args.era.now (head_of c.in-Ok.head) (contents_in c.open.new.self) c.in_err-open_volumes.field-0.0 c.args.store.now.volumes.items c.open_volumes.new.store.volumes.items (g.D.Disk.bytes (cat_of c.args.store.now.cat)) (g.D.Disk.bytes (spare_of c.args.store.now.cat)) tells is c.in_err-open_volumes.ensures.volumes)

pub returns-in_err-open_volumes-clause-shown : goal.returns-in_err-open_volumes-clause-shown
returns-in_err-open_volumes-clause-shown g c tells head contents taken shows =
    let p = err_from_is_err_and c.from_residual.result c.from_residual.ensures.1 in
    let is : IsCatalogue slot_count (head_of c.in-Ok.head) (contents_in c.open.new.self) (g.D.Disk.bytes (cat_of c.args.store.now.cat)) (g.D.Disk.bytes (spare_of c.args.store.now.cat)) =
    opened_catalogue g.D.Disk c.args.store.now c.open.new.self (head_of c.in-Ok.head) (c.open.ensures.capacity ∙ c.requires.made.capacity) (c.in-Ok.ensures.head tells) (c.in-Ok.ensures.mark tells) (c.in-Ok.ensures.spare tells) (c.in-Ok.ensures.stands tells) c.in-Ok.ensures.bytes in
    rw (p.1, p.2) (shown_fails (g.D.Disk.bytes (cat_of c.args.store.now.cat)) (g.D.Disk.bytes (spare_of c.args.store.now.cat)) (files_of g.D.Disk.bytes c.args.store.now.volumes.items) head contents taken c.in_err-open_volumes.field-0.0 shows (volumes_refuse g.D.Disk c.args.era.now (head_of c.in-Ok.head) (contents_in c.open.new.self) c.in_err-open_volumes.field-0.0 c.args.store.now.volumes.items c.open_volumes.new.store.volumes.items (g.D.Disk.bytes (cat_of c.args.store.now.cat)) (g.D.Disk.bytes (spare_of c.args.store.now.cat)) tells is c.in_err-open_volumes.ensures.volumes))

pub returns-in_err-open_volumes-clause-refuses : goal.returns-in_err-open_volumes-clause-refuses
returns-in_err-open_volumes-clause-refuses g c tells fault refusal refuses =
    let p = err_from_is_err_and c.from_residual.result c.from_residual.ensures.1 in
    let is : IsCatalogue slot_count (head_of c.in-Ok.head) (contents_in c.open.new.self) (g.D.Disk.bytes (cat_of c.args.store.now.cat)) (g.D.Disk.bytes (spare_of c.args.store.now.cat)) =
    opened_catalogue g.D.Disk c.args.store.now c.open.new.self (head_of c.in-Ok.head) (c.open.ensures.capacity ∙ c.requires.made.capacity) (c.in-Ok.ensures.head tells) (c.in-Ok.ensures.mark tells) (c.in-Ok.ensures.spare tells) (c.in-Ok.ensures.stands tells) c.in-Ok.ensures.bytes in
    rw (p.1, p.2) (λ also. refused_once (g.D.Disk.bytes (cat_of c.args.store.now.cat)) (g.D.Disk.bytes (spare_of c.args.store.now.cat)) (files_of g.D.Disk.bytes c.args.store.now.volumes.items) c.in_err-open_volumes.field-0.0 fault also refusal (volumes_refuse g.D.Disk c.args.era.now (head_of c.in-Ok.head) (contents_in c.open.new.self) c.in_err-open_volumes.field-0.0 c.args.store.now.volumes.items c.open_volumes.new.store.volumes.items (g.D.Disk.bytes (cat_of c.args.store.now.cat)) (g.D.Disk.bytes (spare_of c.args.store.now.cat)) tells is c.in_err-open_volumes.ensures.volumes) refuses)

pub returns-in_err-open_volumes-clause-failed : goal.returns-in_err-open_volumes-clause-failed
returns-in_err-open_volumes-clause-failed g c =
    let p = err_from_is_err_and c.from_residual.result c.from_residual.ensures.1 in
    rw (p.1, p.2) (volumes_risen g.D.Disk c.args.era.now c.in-Ok.head.site (objects_of c.open.new.self) c.in_err-open_volumes.field-0.0 c.args.store.now c.open_volumes.new.store c.in_err-open_volumes.ensures.volumes)

pub returns-in_err-open_volumes-clause-made : goal.returns-in_err-open_volumes-clause-made
returns-in_err-open_volumes-clause-made g c =
    made_still c.args.store.now c.open_volumes.new.store c.open.new.self c.open_volumes.ensures.cat c.open.ensures.made c.open.ensures.capacity (stops_each (OpensVolume g.D.Disk c.args.era.now c.in-Ok.head.site (objects_of c.open.new.self)) (MissesVolume g.D.Disk c.args.era.now c.in-Ok.head.site (objects_of c.open.new.self)) c.in_err-open_volumes.field-0.0 c.args.store.now.volumes.items c.open_volumes.new.store.volumes.items c.in_err-open_volumes.ensures.volumes (λ (place : ℕ) (was is : Volume g.row.D.Denot). number_of is ≡ number_of was) (λ place was is by. by.stays) (λ place was is by. by.stays) (λ place volume there. refl)) c.requires.made

pub returns-in_err-open_volumes-clause-refused_bytes : goal.returns-in_err-open_volumes-clause-refused_bytes
returns-in_err-open_volumes-clause-refused_bytes g c =
    let p = err_from_is_err_and c.from_residual.result c.from_residual.ensures.1 in
    rw (p.1, p.2) (λ none. each_disk c.args.store.now c.open_volumes.new.store c.open.new.self c.open_volumes.ensures.cat (KeepsBytes g.D.Disk.bytes) c.in-Ok.ensures.bytes c.in-Ok.ensures.spare_bytes (stops_each (OpensVolume g.D.Disk c.args.era.now c.in-Ok.head.site (objects_of c.open.new.self)) (MissesVolume g.D.Disk c.args.era.now c.in-Ok.head.site (objects_of c.open.new.self)) c.in_err-open_volumes.field-0.0 c.args.store.now.volumes.items c.open_volumes.new.store.volumes.items c.in_err-open_volumes.ensures.volumes (λ (place : ℕ) (was is : Volume g.row.D.Denot). KeepsBytes g.D.Disk.bytes (disk_of was) (disk_of is)) (λ place was is by. by.bytes) (λ place was is by. by.bytes none) (λ place volume there. refl)))

pub returns-in_err-open_volumes-clause-crash : goal.returns-in_err-open_volumes-clause-crash
returns-in_err-open_volumes-clause-crash g c =
    each_disk c.args.store.now c.open_volumes.new.store c.open.new.self c.open_volumes.ensures.cat (WritesNothing g.D.Disk.image c.args.era.now) c.open.ensures.crash c.open.ensures.spare_crash (stops_each (OpensVolume g.D.Disk c.args.era.now c.in-Ok.head.site (objects_of c.open.new.self)) (MissesVolume g.D.Disk c.args.era.now c.in-Ok.head.site (objects_of c.open.new.self)) c.in_err-open_volumes.field-0.0 c.args.store.now.volumes.items c.open_volumes.new.store.volumes.items c.in_err-open_volumes.ensures.volumes (λ (place : ℕ) (was is : Volume g.row.D.Denot). WritesNothing g.D.Disk.image c.args.era.now (disk_of was) (disk_of is)) (λ place was is by. by.crash) (λ place was is by. by.crash) (λ place volume there. writes_nothing g.D.Disk.image c.args.era.now (disk_of volume)))

pub returns-in_err-open_volumes-clause-ledger : goal.returns-in_err-open_volumes-clause-ledger
returns-in_err-open_volumes-clause-ledger g c =
    uses_store c.args.store.now c.open_volumes.new.store c.open.new.self c.open_volumes.ensures.cat g.D.Disk.ledger c.args.era.now (4864 + 4097 * 65536) 0 4096 0 4096 0 (subst (λ (n : ℕ). Uses c.args.era.now (4864 + 4097 * n) 0 (g.D.Disk.ledger (cat_of c.args.store.now.cat)) (g.D.Disk.ledger (cat_of c.open.new.self))) c.requires.made.capacity c.open.ensures.ledger) c.open.ensures.spare_ledger (stops_each (OpensVolume g.D.Disk c.args.era.now c.in-Ok.head.site (objects_of c.open.new.self)) (MissesVolume g.D.Disk c.args.era.now c.in-Ok.head.site (objects_of c.open.new.self)) c.in_err-open_volumes.field-0.0 c.args.store.now.volumes.items c.open_volumes.new.store.volumes.items c.in_err-open_volumes.ensures.volumes (λ (place : ℕ) (was is : Volume g.row.D.Denot). Uses c.args.era.now 4096 0 (g.D.Disk.ledger (disk_of was)) (g.D.Disk.ledger (disk_of is))) (λ place was is by. by.ledger) (λ place was is by. by.ledger) (λ place volume there. uses_none g.D.Disk.ledger c.args.era.now 4096 0 (disk_of volume) (c.requires.era.volumes place volume there)))

pub returns-in-Err-clause-shown : goal.returns-in-Err-clause-shown
returns-in-Err-clause-shown g c tells head contents taken shows =
    shown_fails (g.D.Disk.bytes (cat_of c.args.store.now.cat)) (g.D.Disk.bytes (spare_of c.args.store.now.cat)) (files_of g.D.Disk.bytes c.args.store.now.volumes.items) head contents taken c.catalogue_fault.result shows (cat_refuses (capacity_of c.args.store.now.cat) (g.D.Disk.bytes (cat_of c.args.store.now.cat)) (g.D.Disk.bytes (spare_of c.args.store.now.cat)) (files_of g.D.Disk.bytes c.args.store.now.volumes.items) c.in-Err.fault c.catalogue_fault.result c.requires.made.capacity c.catalogue_fault.ensures (c.in-Err.ensures.bad tells))

pub returns-in-Err-clause-refuses : goal.returns-in-Err-clause-refuses
returns-in-Err-clause-refuses g c tells fault refusal refuses =
    λ also. refused_once (g.D.Disk.bytes (cat_of c.args.store.now.cat)) (g.D.Disk.bytes (spare_of c.args.store.now.cat)) (files_of g.D.Disk.bytes c.args.store.now.volumes.items) c.catalogue_fault.result fault also refusal (cat_refuses (capacity_of c.args.store.now.cat) (g.D.Disk.bytes (cat_of c.args.store.now.cat)) (g.D.Disk.bytes (spare_of c.args.store.now.cat)) (files_of g.D.Disk.bytes c.args.store.now.volumes.items) c.in-Err.fault c.catalogue_fault.result c.requires.made.capacity c.catalogue_fault.ensures (c.in-Err.ensures.bad tells)) refuses
