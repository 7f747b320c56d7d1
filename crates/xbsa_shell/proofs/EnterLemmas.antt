-- A store that is synced, and opened in a later era.
use Rattle.std.specs.Prelude.{slice_get, IfErr, MatchResult, OnOk}
use Rattle.std.specs.Option.{option_map}
use Rattle.std.proofs.Common.{◌≡◌, ◌⊎◌, ℕ, suc, ◌+◌, ◌<◌, ◌≤◌, Bool, true, false, IsTrue, List, [], ◌∷◌, ◌++◌, length, map, Option, None, Some, Result, Ok, Err, inl, inr, refl, sym, ap, ◌∙◌, subst, arith}
use Rattle.std.proofs.lemmas.List.{append-nil}
use Rattle.std.proofs.lemmas.Option.{slice_get-map, slice_get_within}
use mathlib.Core.Path.{fun_ext}
use Rattle.site_disk.specs.CallsLaws.{may_use_again, may_use_later}
use Rattle.site_disk.specs.Ledger.{EraView, MayUse, Uses}
use Rattle.site_disk.specs.declared.disk.Disk.{Ghosts}
use Rattle.site_headers.specs.Areas.{slot_count}
use Rattle.site_headers.specs.Heads.{Head}
use Rattle.block_chain.specs.declared.runs.Run.{Run}
use Rattle.catalogue_slots.specs.Records.{Object}
use Rattle.catalogue_replay.specs.Contents.{Contents}
use Rattle.catalogue_journal.specs.Catalogues.{cat_of, capacity_of, contents_in, objects_of, spare_of, used_of, with_disks, IsMade}
use Rattle.catalogue_journal.specs.declared.catalogue.Catalogue.{Catalogue}
use Rattle.object_volume.specs.Objects.{object, object_part}
use Rattle.object_volume.specs.Volumes.{disk_of, number_of, with_disk}
use Rattle.object_volume.specs.declared.volume.Volume.{Volume}
use Rattle.object_store.specs.Endings.{places, HoldAll}
use Rattle.object_store.specs.Holdings.{Holds}
use Rattle.object_store.specs.Reading.{part_by, part_on, read_by, reads_on}
use Rattle.object_store.specs.Returns.{Placed, place_of_object, runs_on}
use Rattle.object_store.specs.Stores.{MayUseEach}
use Rattle.object_store.specs.declared.store.Store.{Store}
use Rattle.object_store.proofs.ReturnLemmas.{get-within}
use Rattle.session_machine.specs.States.{none}
use Rattle.store_opening.specs.Disks.{files_of, EachDisk, EachFrom, IsMadeStore, IsSynced, KeepsBytes, MayUseStore, UsesStore}
use Rattle.store_opening.specs.Faults.{IsFailure, IsRefusal, NamesAsWell}
use Rattle.store_opening.specs.Opening.{ShowsStore, StoreRefuses, live_on}
use Rattle.store_opening.specs.Standing.{Agrees, IsSettled}
use Rattle.store_opening.specs.declared.faults.StoreFault.{StoreFault}
use Rattle.store_opening.proofs.FormatLemmas.{made_still}
use Rattle.bsa_transcripts.specs.Lines.{Setting, Stand}
use Rattle.xbsa_shell.specs.Opened.{HasOpened, RefusedBy, Shows, opening_setting, opening_stand}
use Rattle.xbsa_shell.specs.Serving.{Serves, first_stand, setting_of}

-- ---- what a read gives

module _ {D : Type 0} (bytes : D → List ℕ) where
  file_of : Volume D → List ℕ
  file_of volume = bytes (disk_of volume)

  files_same : (old new : List (Volume D)) → length new ≡ length old
      → ((place : ℕ) (was is : Volume D) → slice_get old place ≡ Some was → slice_get new place ≡ Some is → bytes (disk_of is) ≡ bytes (disk_of was))
      → files_of bytes new ≡ files_of bytes old
  files_same [] [] count each = refl
  files_same [] (y ∷ new) count each = cc count
  files_same (x ∷ old) [] count each = cc count
  files_same (x ∷ old) (y ∷ new) count each =
      let first : bytes (disk_of y) ≡ bytes (disk_of x) = each 0 x y refl refl in
      let later = files_same old new (cc count) (λ place was is there behind. each (suc place) was is there behind) in
      ap (λ (b : List ℕ). b ∷ files_of bytes new) first ∙ ap (λ (l : List (List ℕ)). bytes (disk_of x) ∷ l) later

  -- what an object reads as, by the files of the volumes
  read_file : Object → Option (List ℕ) → List ℕ
  read_file kept None = []
  read_file kept (Some file) = object kept.runs kept.size file

  part_file : ℕ → Object → ℕ → Option (List ℕ) → List ℕ
  part_file n kept at None = []
  part_file n kept at (Some file) = object_part kept.runs kept.size at n file

  by_file : (kept : Object) (volume : Option (Volume D)) → read_by bytes kept volume ≡ read_file kept (option_map (λ (v : Volume D). bytes (disk_of v)) volume)
  unfolding read_file
  by_file kept None = refl
  by_file kept (Some volume) = refl

  by_part : (n : ℕ) (kept : Object) (at : ℕ) (volume : Option (Volume D))
      → part_by bytes n kept at volume ≡ part_file n kept at (option_map (λ (v : Volume D). bytes (disk_of v)) volume)
  unfolding part_file
  by_part n kept at None = refl
  by_part n kept at (Some volume) = refl

  module _ (old new : List (Volume D)) (same : files_of bytes new ≡ files_of bytes old) where
    file_at : (n : ℕ) → option_map (λ (v : Volume D). bytes (disk_of v)) (slice_get new n) ≡ option_map (λ (v : Volume D). bytes (disk_of v)) (slice_get old n)
    file_at n =
        sym (slice_get-map (λ (v : Volume D). bytes (disk_of v)) new n) ∙ ap (λ (l : List (List ℕ)). slice_get l n) same
        ∙ slice_get-map (λ (v : Volume D). bytes (disk_of v)) old n

    pub reads_same : reads_on bytes new ≡ reads_on bytes old
    reads_same = fun_ext (λ (kept : Object).
        by_file kept (slice_get new kept.volume) ∙ ap (read_file kept) (file_at kept.volume) ∙ sym (by_file kept (slice_get old kept.volume)))

    pub part_same : part_on bytes new ≡ part_on bytes old
    part_same = fun_ext (λ (n : ℕ). fun_ext (λ (kept : Object). fun_ext (λ (at : ℕ).
        by_part n kept at (slice_get new kept.volume) ∙ ap (part_file n kept at) (file_at kept.volume) ∙ sym (by_part n kept at (slice_get old kept.volume)))))

  pub kept_files : (old new : List (Volume D)) → EachFrom (λ place was is. KeepsBytes bytes (disk_of was) (disk_of is)) old new → files_of bytes new ≡ files_of bytes old
  kept_files old new from = files_same old new from.count from.each

-- ---- the sync

module _ {D : Type 0} (disk : Ghosts D) (old mid : Store D) where
  with_same : (place : ℕ) (was is : Volume D) → is ≡ with_disk was (disk_of is) → number_of is ≡ number_of was
  with_same place was is same = ap (λ (v : Volume D). number_of v) same

  pub made_synced : mid.cat ≡ with_disks old.cat (cat_of mid.cat) (spare_of mid.cat) → EachFrom (λ place was is. is ≡ with_disk was (disk_of is)) old.volumes.items mid.volumes.items
      → IsMadeStore old → IsMadeStore mid
  made_synced same volumes made =
      made_still old mid (with_disks old.cat (cat_of mid.cat) (spare_of mid.cat)) same
      (record { area = made.cat.area; mark = made.cat.mark; some = made.cat.some; few = made.cat.few }) refl
      (record { count = volumes.count; each = λ place was is there behind. with_same place was is (volumes.each place was is there behind) }) made

  used_volumes : (era to : EraView) (reads writes : ℕ) → era.number ≤ to.number → to.key ≡ era.key
      → EachFrom (λ place was is. Uses era reads writes (disk.ledger (disk_of was)) (disk.ledger (disk_of is))) old.volumes.items mid.volumes.items
      → MayUseEach disk.ledger era old.volumes.items → MayUseEach disk.ledger to mid.volumes.items
  used_volumes era to reads writes later key uses may place is there =
      let lt = slice_get_within mid.volumes.items place is there in
      let was = get-within old.volumes.items place (omega (arith, lt, uses.count)) in
      may_use_later later key (may_use_again (may place was.0 was.1) (uses.each place was.0 is was.1 there))

  -- the disks may be used in this era or a later one
  pub may_then : (era to : EraView) (a b c d e f : ℕ) → era.number ≤ to.number → to.key ≡ era.key → UsesStore disk.ledger era a b c d e f old mid → MayUseStore disk.ledger era old
      → MayUseStore disk.ledger to mid
  may_then era to a b c d e f later key uses may = record {
    cat = may_use_later later key (may_use_again may.cat uses.cat);
    spare = may_use_later later key (may_use_again may.spare uses.spare);
    volumes = used_volumes era to e f later key uses.volumes may.volumes;
  }

  -- ---- what the disks hold

  pub synced_bytes : (era : EraView) → EachDisk (IsSynced disk era) old mid → EachDisk (KeepsBytes disk.bytes) old mid
  synced_bytes era synced = record {
    cat = synced.cat.bytes;
    spare = synced.spare.bytes;
    volumes = record { count = synced.volumes.count; each = λ place was is there behind. (synced.volumes.each place was is there behind).bytes };
  }

  module _ (kept : EachDisk (KeepsBytes disk.bytes) old mid) where
    abbrev By : (List ℕ → List ℕ → List (List ℕ) → Type 0) → Store D → Type 0
    By P store = P (disk.bytes (cat_of store.cat)) (disk.bytes (spare_of store.cat)) (files_of disk.bytes store.volumes.items)

    -- what they show is the same
    pub by_bytes : (P : List ℕ → List ℕ → List (List ℕ) → Type 0) → By P old → By P mid
    by_bytes P holds =
        let files : List (List ℕ) = files_of disk.bytes mid.volumes.items in
        subst (λ (b : List ℕ). P b (disk.bytes (spare_of mid.cat)) files) (sym kept.cat)
        (subst (λ (b : List ℕ). P (disk.bytes (cat_of old.cat)) b files) (sym kept.spare)
        (subst (P (disk.bytes (cat_of old.cat)) (disk.bytes (spare_of old.cat))) (sym (kept_files disk.bytes old.volumes.items mid.volumes.items kept.volumes)) holds))

    pub by_bytes_back : (P : List ℕ → List ℕ → List (List ℕ) → Type 0) → By P mid → By P old
    by_bytes_back P holds =
        let files : List (List ℕ) = files_of disk.bytes old.volumes.items in
        subst (λ (b : List ℕ). P b (disk.bytes (spare_of old.cat)) files) kept.cat
        (subst (λ (b : List ℕ). P (disk.bytes (cat_of mid.cat)) b files) kept.spare
        (subst (P (disk.bytes (cat_of mid.cat)) (disk.bytes (spare_of mid.cat))) (kept_files disk.bytes old.volumes.items mid.volumes.items kept.volumes) holds))

-- ---- the store then

module _ {D : Type 0} (disk : Ghosts D) where
  settled_serves : (era : EraView) (store : Store D) → IsSettled store → MayUseStore disk.ledger era store → Serves disk era none store
  settled_serves era store settled may = record {
    sound = tt;
    refers = tt;
    there = tt;
    opened = settled.opened;
    fit = settled.idle;
    holds = λ place volume there. record {
      others = [];
      holds = subst (Holds volume) (runs_are place) (settled.holds place volume there);
    };
    may = may;
  }
    where
      runs_are : (place : ℕ) → live_on place (objects_of store.cat) ≡ runs_on place (places (objects_of store.cat) []) ++ []
      runs_are place =
          ap (λ (l : List Placed). runs_on place l) (sym (append-nil (map place_of_object (objects_of store.cat)))) ∙ sym (append-nil (runs_on place (places (objects_of store.cat) [])))

  pub enter_serves : (era : EraView) (mid new : Store D) (a b c d e f : ℕ) → IsSettled new → UsesStore disk.ledger era a b c d e f mid new → MayUseStore disk.ledger era mid
      → Serves disk era none new
  enter_serves era mid new a b c d e f settled uses may = settled_serves era new settled (may_then disk mid new era era a b c d e f (omega arith) refl uses may)

  -- it has what the disks show
  pub opened_shown : (from : ℕ) (old mid new : Store D) (contents : Contents) (taken : ℕ) (head : Head) → EachDisk (KeepsBytes disk.bytes) old mid → EachDisk (KeepsBytes disk.bytes) mid new
      → Agrees disk from new contents taken head → HasOpened disk contents taken old new
  opened_shown from old mid new contents taken head first second agrees =
      let files = kept_files disk.bytes mid.volumes.items new.volumes.items second.volumes ∙ kept_files disk.bytes old.volumes.items mid.volumes.items first.volumes in
      record {
        contents_are = agrees.contents_are;
        used = agrees.used;
        capacity = agrees.capacity;
        reads = reads_same disk.bytes old.volumes.items new.volumes.items files;
        part = part_same disk.bytes old.volumes.items new.volumes.items files;
      }

  -- what stands before the first line, by what the disks show
  pub stand_shown : (contents : Contents) (taken : ℕ) (old new : Store D) → HasOpened disk contents taken old new → first_stand disk new ≡ opening_stand disk old contents taken
  stand_shown contents taken old new opened =
      let stand = first_stand disk new in
      ap (λ (c : Contents). record stand { contents = c }) opened.contents_are
      ∙ ap (λ (n : ℕ). record stand { contents = contents; used = n }) opened.used
      ∙ ap (λ (r : Object → List ℕ). record stand { contents = contents; used = taken; reads = r }) opened.reads
      ∙ ap (λ (p : ℕ → Object → ℕ → List ℕ). record stand { contents = contents; used = taken; reads = reads_on disk.bytes old.volumes.items; part = p }) opened.part

  pub setting_shown : (moment : ℕ) (contents : Contents) (taken : ℕ) (old new : Store D) → HasOpened disk contents taken old new
      → setting_of disk moment new ≡ opening_setting disk old moment
  setting_shown moment contents taken old new opened =
      let At : ℕ → Setting = λ n. record { tells = disk.is_modelled; moment = moment; capacity = n } in
      ap At opened.capacity
