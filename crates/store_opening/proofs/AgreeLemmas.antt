-- A store that was opened agrees with its disks.
use Rattle.std.proofs.Common.{◌≡◌, ℕ, ◌<◌, IsTrue, List, length, Some, sym, ap, subst, ◌∙◌, arith}
use Rattle.std.proofs.lemmas.Option.{slice_get_within}
use Rattle.std.specs.Prelude.{slice_get}
use Rattle.gated_slots.specs.Slots.{Area, used}
use Rattle.site_disk.specs.Causes.{Rose}
use Rattle.site_disk.specs.Ledger.{EraView, Ledger, Uses}
use Rattle.site_disk.specs.Seen.{seen}
use Rattle.site_disk.specs.declared.disk.Disk.{Ghosts}
use Rattle.site_headers.specs.Areas.{slot_count}
use Rattle.site_headers.specs.Heads.{Head, IsHead}
use Rattle.site_headers.specs.Headers.{HasHeader, catalogue_tail, spare_tail}
use Rattle.catalogue_slots.specs.Records.{Object}
use Rattle.catalogue_replay.specs.Answers.{HasHead, IsBadCatalogue, IsCatalogue}
use Rattle.catalogue_replay.specs.declared.faults.CatFault.{CatFault}
use Rattle.catalogue_replay.specs.Contents.{Contents}
use Rattle.catalogue_replay.specs.Places.{area_of, NamesArea, Journals}
use Rattle.catalogue_journal.specs.Catalogues.{cat_of, spare_of, capacity_of, used_of, objects_of, contents_in, Stands, IsOpen as IsOpenCatalogue}
use Rattle.catalogue_journal.specs.declared.catalogue.Catalogue.{Catalogue}
use Rattle.object_volume.specs.Headers.{HasVolume}
use Rattle.object_volume.specs.Volumes.{disk_of, number_of, blocks_in, free_of, IsIdle}
use Rattle.object_volume.specs.declared.volume.Volume.{Volume}
use Rattle.object_store.specs.Holdings.{Holds}
use Rattle.object_store.specs.Stores.{OfEach, IsOpenAt, IsOpenStore}
use Rattle.object_store.specs.declared.store.Store.{Store}
use Rattle.object_store.proofs.ReturnLemmas.{get-within}
use Rattle.store_opening.specs.Disks.{EachFrom, OneFrom, StopsAt, HasRisen, IsMadeStore, files_of}
use Rattle.store_opening.specs.Faults.{fault_of_catalogue, IsDiskFault, IsOfVolume, IsRefusal}
use Rattle.store_opening.specs.Opening.{live_on, blocks_beside, IsBadPlace, IsFirstBadVolume, IsGoodVolume, IsGoodStore, ShowsStore, StoreRefuses, OpensVolume, MissesVolume}
use Rattle.store_opening.specs.Standing.{IsBehind, IsSettled, FreeInOrder, Agrees}
use Rattle.store_opening.specs.declared.faults.StoreDisk.{StoreDisk}
use Rattle.store_opening.specs.declared.faults.StoreFault.{StoreFault}
use Rattle.store_opening.specs.declared.faults.StoreFault.TheVariants.{OutOfMemory, DiskFault, NotFormatted, BadRecord}
use Rattle.store_opening.proofs.LoopLemmas.{each_now, get-map, map-get}
use Rattle.store_opening.proofs.StoreLemmas.{one_count, one_head, one_contents, refuses_catalogue}

module _ {D : Type 0} (disk : Ghosts D) (era : EraView) (site : ℕ) (objects : List Object) (old new : List (Volume D)) where
  pub good_volume : (place : ℕ) (file : List ℕ) (was is : Volume D) → IsTrue disk.is_modelled → disk.bytes (disk_of was) ≡ file → OpensVolume disk era site objects place was is
      → IsGoodVolume place site objects file
  good_volume place file was is tells same opens =
      subst (IsGoodVolume place site objects) same (record { blocks = blocks_in is; header = opens.header tells; sound = opens.sound })

  module _ (from : EachFrom (OpensVolume disk era site objects) old new) where
    pub opened_each : OfEach (λ place volume. number_of volume ≡ place) old → OfEach IsOpenAt new
    opened_each numbers = each_now (OpensVolume disk era site objects) IsOpenAt old new from
        (λ place was is there opens. record { number = opens.stays ∙ numbers place was there; opened = opens.opened })

    pub good_volumes : IsTrue disk.is_modelled → (place : ℕ) (file : List ℕ) → slice_get (files_of disk.bytes old) place ≡ Some file → IsGoodVolume place site objects file
    good_volumes tells place file there =
        let found = get-map (λ (v : Volume D). disk.bytes (disk_of v)) old place file there in
        let lt : place < length old = slice_get_within old place found.0 found.1 in
        let now = get-within new place (omega (arith, lt, from.count)) in
        good_volume place file found.0 now.0 tells found.2 (from.each place found.0 now.0 found.1 now.1)

-- all that a call says of a store that it opened
pub record HasOpened {D : Type 0} (disk : Ghosts D) (era : EraView) (head : Head) (old new : Store D) : Type 0 where
  pub made : IsMadeStore old
  pub opened : IsOpenCatalogue new.cat
  pub capacity : capacity_of new.cat ≡ slot_count
  pub heads : HasHead head (disk.bytes (cat_of old.cat))
  pub mark : NamesArea (disk.bytes (cat_of old.cat))
  pub spare : HasHeader (spare_tail head.site) (disk.bytes (spare_of old.cat))
  pub stands : Stands (seen disk (cat_of new.cat)) new.cat
  pub bytes : disk.bytes (cat_of new.cat) ≡ disk.bytes (cat_of old.cat)
  pub cat_reads : ℕ
  pub ledger : Uses era cat_reads 0 (disk.ledger (cat_of old.cat)) (disk.ledger (cat_of new.cat))
  pub spare_ledger : Uses era 4096 0 (disk.ledger (spare_of old.cat)) (disk.ledger (spare_of new.cat))
  pub volumes : EachFrom (OpensVolume disk era head.site (objects_of new.cat)) old.volumes.items new.volumes.items

pub open_each : {D : Type 0} {disk : Ghosts D} {era : EraView} {site : ℕ} (old new : Store D) → IsMadeStore old → IsOpenCatalogue new.cat
    → EachFrom (OpensVolume disk era site (objects_of new.cat)) old.volumes.items new.volumes.items → IsOpenStore new
open_each {disk = disk} {era = era} {site = site} old new made opened from = record {
  cat = opened;
  count = from.count ∙ made.count;
  each = opened_each disk era site (objects_of new.cat) old.volumes.items new.volumes.items from made.numbers;
}

-- it is settled, and its free blocks are in order
pub open_settled : {D : Type 0} {disk : Ghosts D} {era : EraView} {site : ℕ} (old new : Store D) → IsMadeStore old → IsOpenCatalogue new.cat
    → EachFrom (OpensVolume disk era site (objects_of new.cat)) old.volumes.items new.volumes.items → IsSettled new × FreeInOrder new
open_settled {disk = disk} {era = era} {site = site} old new made opened from = (
  record {
    opened = open_each old new made opened from;
    idle = each_now (OpensVolume disk era site (objects_of new.cat)) (λ place volume. IsIdle volume) old.volumes.items new.volumes.items from (λ place was is there opens. opens.idle);
    holds = each_now (OpensVolume disk era site (objects_of new.cat)) (λ place volume. Holds volume (live_on place (objects_of new.cat))) old.volumes.items new.volumes.items from
        (λ place was is there opens. opens.holds);
  },
  each_now (OpensVolume disk era site (objects_of new.cat)) (λ place volume. free_of volume ≡ blocks_beside (live_on place (objects_of new.cat)) (blocks_in volume))
      old.volumes.items new.volumes.items from (λ place was is there opens. opens.free),
)

used_in : {D : Type 0} (disk : Ghosts D) (store : Store D) (bytes : List ℕ) → IsOpenCatalogue store.cat → capacity_of store.cat ≡ slot_count
    → Stands (seen disk (cat_of store.cat)) store.cat → disk.bytes (cat_of store.cat) ≡ bytes → used_of store.cat ≡ used (area_of slot_count) bytes
used_in disk store bytes opened capacity stands same =
    sym stands.agrees.now
    ∙ ap (λ (a : Area). used a (disk.bytes (cat_of store.cat))) (opened.made.area ∙ ap area_of capacity)
    ∙ ap (used (area_of slot_count)) same

behind : {D : Type 0} (ledger : D → Ledger) (from reads : ℕ) (era : EraView) (was is : D) → era.number < from → Uses era reads 0 (ledger was) (ledger is) → IsBehind ledger from is
behind ledger from reads era was is lt uses = record { last = omega (arith, lt, uses.no_later); synced = uses.synced }

module _ {D : Type 0} (disk : Ghosts D) (era : EraView) (head : Head) (old new : Store D) (tells : IsTrue disk.is_modelled) (has : HasOpened disk era head old new) where
  abbrev cat_file : List ℕ
  cat_file = disk.bytes (cat_of old.cat)

  abbrev spare_file : List ℕ
  spare_file = disk.bytes (spare_of old.cat)

  abbrev volume_files : List (List ℕ)
  volume_files = files_of disk.bytes old.volumes.items

  is_catalogue : IsCatalogue slot_count head (contents_in new.cat) cat_file spare_file
  is_catalogue = record {
    heads = has.heads;
    mark = has.mark;
    journal = subst (Journals (area_of slot_count) (contents_in new.cat)) has.bytes
        (subst (λ (n : ℕ). Journals (area_of n) (contents_in new.cat) (disk.bytes (cat_of new.cat))) has.capacity has.stands.now);
    spare = has.spare;
  }

  pub is_good : IsGoodStore head (contents_in new.cat) cat_file spare_file volume_files
  is_good = record {
    catalogue = is_catalogue;
    volumes = good_volumes disk era head.site (objects_of new.cat) old.volumes.items new.volumes.items has.volumes tells;
  }

  module _ (other : Head) (contents : Contents) (taken : ℕ) (shows : ShowsStore other contents taken cat_file spare_file volume_files) where
    pub head_is : head ≡ other
    head_is = one_head cat_file spare_file head other (contents_in new.cat) contents is_catalogue shows.catalogue

    contents_are : contents_in new.cat ≡ contents
    contents_are = one_contents cat_file spare_file head other (contents_in new.cat) contents is_catalogue shows.catalogue

    blocks_are : (place : ℕ) (was is : Volume D) → slice_get old.volumes.items place ≡ Some was → OpensVolume disk era head.site (objects_of new.cat) place was is → blocks_in is ≡ other.blocks
    blocks_are place was is there opens =
        one_count place head.site (blocks_in is) other.blocks (disk.bytes (disk_of was)) (opens.header tells)
        (subst (λ (h : Head). HasVolume place h.site other.blocks (disk.bytes (disk_of was))) (sym head_is)
        (shows.headers place (disk.bytes (disk_of was)) (map-get (λ (v : Volume D). disk.bytes (disk_of v)) old.volumes.items place was there)))

    pub agrees : (from : ℕ) → era.number < from → Agrees disk from new contents taken other
    agrees from lt = record {
      opened = open_each old new has.made has.opened has.volumes;
      stands = has.stands;
      contents_are = contents_are;
      used = used_in disk new cat_file has.opened has.capacity has.stands has.bytes ∙ shows.used;
      capacity = has.capacity;
      blocks = each_now (OpensVolume disk era head.site (objects_of new.cat)) (λ place volume. blocks_in volume ≡ other.blocks) old.volumes.items new.volumes.items has.volumes blocks_are;
      idle = each_now (OpensVolume disk era head.site (objects_of new.cat)) (λ place volume. IsIdle volume) old.volumes.items new.volumes.items has.volumes (λ place was is there opens. opens.idle);
      holds = each_now (OpensVolume disk era head.site (objects_of new.cat)) (λ place volume. Holds volume (live_on place contents.objects)) old.volumes.items new.volumes.items has.volumes
          (λ place was is there opens. subst (λ (c : Contents). Holds is (live_on place c.objects)) contents_are opens.holds);
      cat_behind = behind disk.ledger from has.cat_reads era (cat_of old.cat) (cat_of new.cat) lt has.ledger;
      spare_behind = behind disk.ledger from 4096 era (spare_of old.cat) (spare_of new.cat) lt has.spare_ledger;
      volumes_behind = each_now (OpensVolume disk era head.site (objects_of new.cat)) (λ place volume. IsBehind disk.ledger from (disk_of volume)) old.volumes.items new.volumes.items has.volumes
          (λ place was is there opens. behind disk.ledger from 4096 era (disk_of was) (disk_of is) lt opens.ledger);
    }

-- ---- a store that wasn't opened

module _ {D : Type 0} (disk : Ghosts D) (era : EraView) (site : ℕ) (objects : List Object) (fault : StoreFault) (old new : List (Volume D))
    (stopped : StopsAt (OpensVolume disk era site objects) (MissesVolume disk era site objects) fault old new) where
  one : OneFrom (MissesVolume disk era site objects stopped.number fault) stopped.number old new
  one = stopped.stopped

  first_bad : IsTrue disk.is_modelled → IsRefusal fault → IsFirstBadVolume stopped.number site objects (files_of disk.bytes old)
  first_bad tells refusal = record {
    file = disk.bytes (disk_of one.was);
    there = map-get (λ (v : Volume D). disk.bytes (disk_of v)) old stopped.number one.was one.there;
    bad = one.by.bad tells refusal;
    before = λ place file lt there.
        let found = get-map (λ (v : Volume D). disk.bytes (disk_of v)) old place file there in
        let le : place < length old = slice_get_within old place found.0 found.1 in
        let now = get-within new place (omega (arith, le, stopped.count)) in
        good_volume disk era site objects old new place file found.0 now.0 tells found.2 (stopped.before place found.0 now.0 lt found.1 now.1);
  }

refused_by : (cat spare : List ℕ) (files : List (List ℕ)) (head : Head) (contents : Contents) (number : ℕ) (fault : StoreFault) → IsCatalogue slot_count head contents cat spare
    → IsOfVolume number fault → (IsRefusal fault → IsFirstBadVolume number head.site contents.objects files) → StoreRefuses cat spare files fault
refused_by cat spare files head contents number OutOfMemory is own first = tt
refused_by cat spare files head contents number (DiskFault disk) is own first = tt
refused_by cat spare files head contents number NotFormatted is own first = absurd own
refused_by cat spare files head contents number (BadRecord disk slot) is own first =
    subst (λ (d : StoreDisk). IsBadPlace cat spare files d slot) (sym own.0)
    (record { slot_is = own.1; head = head; contents = contents; catalogue = is; first = first tt })

pub volumes_refuse : {D : Type 0} (disk : Ghosts D) (era : EraView) (head : Head) (contents : Contents) (fault : StoreFault) (old new : List (Volume D)) (cat spare : List ℕ)
    → IsTrue disk.is_modelled → IsCatalogue slot_count head contents cat spare
    → StopsAt (OpensVolume disk era head.site contents.objects) (MissesVolume disk era head.site contents.objects) fault old new
    → StoreRefuses cat spare (files_of disk.bytes old) fault
volumes_refuse disk era head contents fault old new cat spare tells is stopped =
    refused_by cat spare (files_of disk.bytes old) head contents stopped.number fault is stopped.stopped.by.own (first_bad disk era head.site contents.objects fault old new stopped tells)

risen_by : {D : Type 0} (ledger : D → Ledger) (old new : Store D) (number : ℕ) (fault : StoreFault) → IsOfVolume number fault
    → (IsDiskFault fault → OneFrom (λ was is. Rose (ledger (disk_of was)).faults (ledger (disk_of is)).faults) number old.volumes.items new.volumes.items) → HasRisen ledger old new fault
risen_by ledger old new number OutOfMemory own rose = tt
risen_by ledger old new number (DiskFault disk) own rose = subst (λ (d : StoreDisk). HasRisen ledger old new (DiskFault d)) (sym own) (rose tt)
risen_by ledger old new number NotFormatted own rose = tt
risen_by ledger old new number (BadRecord disk slot) own rose = tt

pub volumes_risen : {D : Type 0} (disk : Ghosts D) (era : EraView) (site : ℕ) (objects : List Object) (fault : StoreFault) (old new : Store D)
    → StopsAt (OpensVolume disk era site objects) (MissesVolume disk era site objects) fault old.volumes.items new.volumes.items → HasRisen disk.ledger old new fault
volumes_risen disk era site objects fault old new stopped =
    let one = stopped.stopped in
    risen_by disk.ledger old new stopped.number fault one.by.own
    (λ is. record { was = one.was; is = one.is; there = one.there; behind = one.behind; by = one.by.rose is })

-- ---- the call

module _ {D : Type 0} (disk : Ghosts D) (era : EraView) (old new : Store D) (mid : Catalogue D) (same : new.cat ≡ mid) (made : IsMadeStore old) (opened : IsOpenCatalogue mid)
    (capacity : capacity_of mid ≡ capacity_of old.cat) where
  opened_now : IsOpenCatalogue new.cat
  opened_now = subst IsOpenCatalogue (sym same) opened

  volumes_now : (site : ℕ) → EachFrom (OpensVolume disk era site (objects_of mid)) old.volumes.items new.volumes.items → EachFrom (OpensVolume disk era site (objects_of new.cat)) old.volumes.items new.volumes.items
  volumes_now site from = subst (λ (k : Catalogue D). EachFrom (OpensVolume disk era site (objects_of k)) old.volumes.items new.volumes.items) (sym same) from

  pub opens_store : (site : ℕ) → EachFrom (OpensVolume disk era site (objects_of mid)) old.volumes.items new.volumes.items → IsOpenStore new
  opens_store site from = open_each old new made opened_now (volumes_now site from)

  pub settles_store : (site : ℕ) → EachFrom (OpensVolume disk era site (objects_of mid)) old.volumes.items new.volumes.items → IsSettled new × FreeInOrder new
  settles_store site from = open_settled old new made opened_now (volumes_now site from)

  pub has_opened : (head : Head) (reads : ℕ) → IsHead head × HasHeader (catalogue_tail head) (disk.bytes (cat_of old.cat)) → NamesArea (disk.bytes (cat_of old.cat))
      → HasHeader (spare_tail head.site) (disk.bytes (spare_of old.cat)) → Stands (seen disk (cat_of mid)) mid → disk.bytes (cat_of mid) ≡ disk.bytes (cat_of old.cat)
      → Uses era reads 0 (disk.ledger (cat_of old.cat)) (disk.ledger (cat_of mid)) → Uses era 4096 0 (disk.ledger (spare_of old.cat)) (disk.ledger (spare_of mid))
      → EachFrom (OpensVolume disk era head.site (objects_of mid)) old.volumes.items new.volumes.items → HasOpened disk era head old new
  has_opened head reads heads mark spare stands bytes ledger spare_ledger from = record {
    made = made;
    opened = opened_now;
    capacity = ap (λ (k : Catalogue D). capacity_of k) same ∙ capacity ∙ made.capacity;
    heads = record { is_head = heads.0; header = heads.1 };
    mark = mark;
    spare = spare;
    stands = subst (λ (k : Catalogue D). Stands (seen disk (cat_of k)) k) (sym same) stands;
    bytes = subst (λ (k : Catalogue D). disk.bytes (cat_of k) ≡ disk.bytes (cat_of old.cat)) (sym same) bytes;
    cat_reads = reads;
    ledger = subst (λ (k : Catalogue D). Uses era reads 0 (disk.ledger (cat_of old.cat)) (disk.ledger (cat_of k))) (sym same) ledger;
    spare_ledger = subst (λ (k : Catalogue D). Uses era 4096 0 (disk.ledger (spare_of old.cat)) (disk.ledger (spare_of k))) (sym same) spare_ledger;
    volumes = volumes_now head.site from;
  }

-- a catalogue that isn't opened refuses the store
pub cat_refuses : (capacity : ℕ) (cat spare : List ℕ) (files : List (List ℕ)) (fault : CatFault) (found : StoreFault) → capacity ≡ slot_count → found ≡ fault_of_catalogue fault
    → IsBadCatalogue (area_of capacity) cat spare fault → StoreRefuses cat spare files found
cat_refuses capacity cat spare files fault found same is bad =
    subst (StoreRefuses cat spare files) (sym is) (refuses_catalogue cat spare files fault (subst (λ (n : ℕ). IsBadCatalogue (area_of n) cat spare fault) same bad))

-- what the catalogue says once it is opened
pub opened_catalogue : {D : Type 0} (disk : Ghosts D) (old : Store D) (mid : Catalogue D) (head : Head) → capacity_of mid ≡ slot_count → IsHead head × HasHeader (catalogue_tail head) (disk.bytes (cat_of old.cat))
    → NamesArea (disk.bytes (cat_of old.cat)) → HasHeader (spare_tail head.site) (disk.bytes (spare_of old.cat)) → Stands (seen disk (cat_of mid)) mid → disk.bytes (cat_of mid) ≡ disk.bytes (cat_of old.cat)
    → IsCatalogue slot_count head (contents_in mid) (disk.bytes (cat_of old.cat)) (disk.bytes (spare_of old.cat))
opened_catalogue disk old mid head capacity heads mark spare stands bytes = record {
  heads = record { is_head = heads.0; header = heads.1 };
  mark = mark;
  journal = subst (Journals (area_of slot_count) (contents_in mid)) bytes (subst (λ (n : ℕ). Journals (area_of n) (contents_in mid) (disk.bytes (cat_of mid))) capacity stands.now);
  spare = spare;
}
