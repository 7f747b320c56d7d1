-- The entries of a transaction and its batch.
use Rattle.std.proofs.Common.{◌≡◌, ℕ, suc, ◌+◌, ◌*◌, ◌^◌, ◌≤◌, List, [], ◌∷◌, ◌++◌, length, map, Bool, true, false, nat_eq, refl, sym, ap, ◌∙◌, subst, arith}
use Rattle.std.specs.Prelude.{sum_by, ◌||◌, IsTrue, if◌then◌else◌}
use Rattle.std.specs.List.{AllByRecursion, flat_map}
use Rattle.std.proofs.lemmas.Bool.{eqb-true}
use Rattle.std.proofs.lemmas.List.{length-append, length-map}
use Rattle.std.proofs.lemmas.List.Concat.{flat_map-append}
use Rattle.std.proofs.lemmas.List.Sums.{sum_by-cons}
use Rattle.block_chain.specs.declared.runs.Run.{Run}
use Rattle.bsa_descriptor.specs.Descriptor.{IsDescriptor}
use Rattle.catalogue_slots.specs.Records.{Object, Record, del, IsRecord, IsObject, slots_for, records_of}
use Rattle.catalogue_slots.specs.Layout.{spelling}
use Rattle.catalogue_slots.specs.SlotLaws.{records_are_records, length-records_of, length-spellings}
use Rattle.catalogue_slots.specs.Views.{object_of}
use Rattle.catalogue_slots.specs.declared.entry.ObjectEntry.{ObjectEntry}
use Rattle.catalogue_replay.specs.Contents.{Contents, has_copy, without, AreRising, IsKept, AreContents}
use Rattle.catalogue_replay.proofs.SoundLemmas.{each-without}
use Rattle.catalogue_journal.specs.Transactions.{Addition, IsAddition, object_with, objects_from, without_all, AreLive, ended, slots_wanted}
use Rattle.catalogue_journal.specs.Views.{addition_of}
use Rattle.catalogue_journal.specs.declared.entries.NewObject.{NewObject}
use Rattle.catalogue_journal.specs.Batches.{HasFewRuns, IsEntry, slots_of_entries, del_bytes, entry_bytes, batch_bytes, records_of_transaction, IsBatch}

module _ {X : Type 0} (P : X → Type 0) where
  pub each-append : (xs ys : List X) → AllByRecursion P xs → AllByRecursion P ys → AllByRecursion P (xs ++ ys)
  each-append [] ys first second = second
  each-append (x ∷ xs) ys first second = (first.0, each-append xs ys first.1 second)

-- no object has too many runs where all are in so few slots
pub few_runs : (entries : List ObjectEntry) → slots_of_entries entries ≤ 65536 → AllByRecursion HasFewRuns entries
few_runs [] few = tt
few_runs (e ∷ entries) few =
    let sum : slots_of_entries (e ∷ entries) ≡ slots_for (length e.runs.items) + slots_of_entries entries = sum_by-cons (λ (entry : ObjectEntry). slots_for (length entry.runs.items)) e entries in
    (omega (arith, sum, few), few_runs entries (omega (arith, sum, few)))

-- entries take the slots of their additions
pub same_slots : (copy : ℕ) (entries : List ObjectEntry) (additions : List Addition) → map object_of entries ≡ objects_from copy additions
    → slots_of_entries entries ≡ sum_by (λ addition. slots_for (length addition.runs)) additions
same_slots copy [] [] e = refl
same_slots copy [] (a ∷ additions) e = cc
same_slots copy (x ∷ entries) [] e = cc
same_slots copy (x ∷ entries) (a ∷ additions) e =
    let here : object_of x ≡ object_with copy a = cc in
    let rest : map object_of entries ≡ objects_from (suc copy) additions = cc in
    let runs : x.runs.items ≡ a.runs = ap (λ (o : Object). o.runs) here in
    let slots : slots_for (length x.runs.items) ≡ slots_for (length a.runs) = ap (λ (l : List Run). slots_for (length l)) runs in
    omega (
      arith,
      sum_by-cons (λ (entry : ObjectEntry). slots_for (length entry.runs.items)) x entries,
      sum_by-cons (λ (addition : Addition). slots_for (length addition.runs)) a additions,
      slots,
      same_slots (suc copy) entries additions rest,
    )

is_object : (copy : ℕ) (x : ObjectEntry) (a : Addition) → object_of x ≡ object_with copy a → IsAddition a → IsEntry x → HasFewRuns x → copy ≤ 2 ^ 48 → IsObject (object_with copy a)
is_object copy x a here is fits few le = record {
  copy = le;
  volume = is.volume;
  size = omega (arith, fits.size, ap (λ (o : Object). o.size) here);
  digest = sym (ap (λ (o : Object). length o.digest) here) ∙ fits.digest;
  few = omega (arith, few, ap (λ (o : Object). length o.runs) here);
  runs = is.runs;
  descriptor = subst (λ (o : Object). IsDescriptor o.descriptor) here fits.descriptor;
  same_copy = refl;
  no_status = refl;
}

-- the additions as objects
additions_are_objects : (copy : ℕ) (entries : List ObjectEntry) (additions : List Addition) → map object_of entries ≡ objects_from copy additions
    → AllByRecursion IsAddition additions → AllByRecursion IsEntry entries → AllByRecursion HasFewRuns entries → copy + length additions ≤ 2 ^ 48 + 1
    → AllByRecursion IsObject (objects_from copy additions)
additions_are_objects copy entries [] e are fit few le = tt
additions_are_objects copy [] (a ∷ additions) e are fit few le = cc
additions_are_objects copy (x ∷ entries) (a ∷ additions) e are fit few le =
    let here : object_of x ≡ object_with copy a = cc in
    let rest : map object_of entries ≡ objects_from (suc copy) additions = cc in
    (is_object copy x a here are.0 fit.0 few.0 (omega (arith, le)), additions_are_objects (suc copy) entries additions rest are.1 fit.1 few.1 (omega (arith, le)))

-- and their records
objects_are_records : (objects : List Object) → AllByRecursion IsObject objects → AllByRecursion IsRecord (flat_map records_of objects)
objects_are_records [] each = tt
objects_are_records (o ∷ objects) each =
    each-append IsRecord (records_of o) (flat_map records_of objects) (records_are_records o each.0) (objects_are_records objects each.1)

length-additions : (copy : ℕ) (additions : List Addition)
    → length (flat_map records_of (objects_from copy additions)) ≡ sum_by (λ addition. slots_for (length addition.runs)) additions
length-additions copy [] = refl
length-additions copy (a ∷ additions) =
    omega (
      arith,
      length-append (records_of (object_with copy a)) (flat_map records_of (objects_from (suc copy) additions)),
      length-records_of (object_with copy a),
      length-additions (suc copy) additions,
      sum_by-cons (λ (addition : Addition). slots_for (length addition.runs)) a additions,
    )

-- the copy id of a live object is at most the last one
copy_below : (copy last : ℕ) (objects : List Object) → IsTrue (has_copy copy objects) → AllByRecursion (λ object. object.copy ≤ last) objects → copy ≤ last
copy_below copy last [] has below = cc
copy_below copy last (o ∷ objects) has below = by (nat_eq o.copy copy) refl has (λ (more : IsTrue (has_copy copy objects)). copy_below copy last objects more below.1)
  where
    by : (b : Bool) → nat_eq o.copy copy ≡ b → IsTrue (b || has_copy copy objects) → (IsTrue (has_copy copy objects) → copy ≤ last) → copy ≤ last
    by true e has others = let same : o.copy ≡ copy = eqb-true o.copy copy e in omega (arith, same, below.0)
    by false e has others = others has

pub each-without_all : (P : Object → Type 0) (copies : List ℕ) (objects : List Object) → AllByRecursion P objects → AllByRecursion P (without_all copies objects)
each-without_all P [] objects each = each
each-without_all P (copy ∷ copies) objects each = each-without_all P copies (without copy objects) (each-without P copy objects each)

deletions_are_records : (copies : List ℕ) (last : ℕ) (objects : List Object) → AreLive copies objects → AllByRecursion (λ object. object.copy ≤ last) objects → last ≤ 2 ^ 48
    → AllByRecursion IsRecord (map del copies)
deletions_are_records [] last objects live below le = tt
deletions_are_records (copy ∷ copies) last objects live below le = (
  (let here : copy ≤ last = copy_below copy last objects live.0 below in omega (arith, here, le)),
  deletions_are_records copies last (without copy objects) live.1 (each-without (λ (object : Object). object.copy ≤ last) copy objects below) le,
)

deletions_spelled : (copies : List ℕ) → flat_map del_bytes copies ≡ flat_map spelling (map del copies)
deletions_spelled [] = refl
deletions_spelled (copy ∷ copies) = ap (λ (l : List ℕ). spelling (del copy) ++ l) (deletions_spelled copies)

entries_spelled : (entries : List ObjectEntry) → flat_map entry_bytes entries ≡ flat_map spelling (flat_map records_of (map object_of entries))
entries_spelled [] = refl
entries_spelled (x ∷ entries) =
    ap (λ (l : List ℕ). flat_map spelling (records_of (object_of x)) ++ l) (entries_spelled entries)
    ∙ sym (flat_map-append spelling (records_of (object_of x)) (flat_map records_of (map object_of entries)))

-- the slots that were laid out are those of the transaction
pub is_batch : (copies : List ℕ) (additions : List Addition) (before : Contents) (entries : List ObjectEntry) (batch : List ℕ) → map object_of entries ≡ objects_from (suc before.last) additions
    → AllByRecursion IsEntry entries → AllByRecursion HasFewRuns entries → AreLive copies before.objects → AllByRecursion (λ object. object.copy ≤ before.last) before.objects
    → AllByRecursion IsAddition additions → before.last + length additions ≤ 2 ^ 48 → batch ≡ batch_bytes copies entries → IsBatch copies additions before batch
is_batch copies additions before entries batch are fit few live below each le e =
    let records : List Record = flat_map records_of (objects_from (suc before.last) additions) in
    let objects : AllByRecursion IsObject (objects_from (suc before.last) additions) = additions_are_objects (suc before.last) entries additions are each fit few (omega (arith, le)) in
    record {
      each = each-append IsRecord (map del copies) records
          (deletions_are_records copies before.last before.objects live below (omega (arith, le)))
          (objects_are_records (objects_from (suc before.last) additions) objects);
      objects = objects;
      count = omega (arith, length-append (map del copies) records, length-map copies del, length-additions (suc before.last) additions);
      spelled = e
          ∙ ap (λ (l : List ℕ). l ++ flat_map entry_bytes entries) (deletions_spelled copies)
          ∙ ap (λ (l : List ℕ). flat_map spelling (map del copies) ++ l) (entries_spelled entries ∙ ap (λ (l : List Object). flat_map spelling (flat_map records_of l)) are)
          ∙ sym (flat_map-append spelling (map del copies) records);
      live = live;
      additions_are = each;
    }

pub length-batch : (copies : List ℕ) (additions : List Addition) (before : Contents) (batch : List ℕ) → IsBatch copies additions before batch → length batch ≡ 4096 * slots_wanted copies additions
length-batch copies additions before batch is =
    let records : List Record = records_of_transaction copies additions before in
    let long : length (flat_map spelling records) ≡ 4096 * length records = length-spellings records is.each in
    let size : length batch ≡ length (flat_map spelling records) = ap length is.spelled in
    omega (arith, size, long, is.count)

-- the objects behind a transaction are in order

rising-less : (a b : ℕ) (objects : List Object) → a ≤ b → AreRising b objects → AreRising a objects
rising-less a b [] le rising = tt
rising-less a b (o ∷ objects) le rising = (omega (arith, le, rising.0), rising.1)

rising-without : (below copy : ℕ) (objects : List Object) → AreRising below objects → AreRising below (without copy objects)
rising-without below copy [] rising = tt
rising-without below copy (o ∷ objects) rising = by (nat_eq o.copy copy) (rising-without o.copy copy objects rising.1)
  where
    by : (b : Bool) → AreRising o.copy (without copy objects) → AreRising below (if b then objects else o ∷ without copy objects)
    by true others = rising-less below o.copy objects (omega (arith, rising.0)) rising.1
    by false others = (rising.0, others)

pub rising-without_all : (below : ℕ) (copies : List ℕ) (objects : List Object) → AreRising below objects → AreRising below (without_all copies objects)
rising-without_all below [] objects rising = rising
rising-without_all below (copy ∷ copies) objects rising = rising-without_all below copies (without copy objects) (rising-without below copy objects rising)

rising-append : (below last : ℕ) (xs ys : List Object) → below ≤ last → AreRising below xs → AllByRecursion (λ object. object.copy ≤ last) xs → AreRising last ys → AreRising below (xs ++ ys)
rising-append below last [] ys le first each second = rising-less below last ys le second
rising-append below last (x ∷ xs) ys le first each second = (first.0, rising-append x.copy last xs ys each.0 first.1 each.1 second)

rising-from : (last : ℕ) (additions : List Addition) → AreRising last (objects_from (suc last) additions)
rising-from last [] = tt
rising-from last (a ∷ additions) = (omega arith, rising-from (suc last) additions)

below-from : (last end : ℕ) (additions : List Addition) → last + length additions ≤ end → AllByRecursion (λ object. object.copy ≤ end) (objects_from (suc last) additions)
below-from last end [] le = tt
below-from last end (a ∷ additions) le = (omega (arith, le), below-from (suc last) end additions (omega (arith, le)))

below-more : (last end : ℕ) (objects : List Object) → last ≤ end → AllByRecursion (λ object. object.copy ≤ last) objects → AllByRecursion (λ object. object.copy ≤ end) objects
below-more last end [] le each = tt
below-more last end (o ∷ objects) le each = (omega (arith, le, each.0), below-more last end objects le each.1)

pub ended_rising : (copies : List ℕ) (additions : List Addition) (before : Contents) → AreRising 0 before.objects → AllByRecursion (λ object. object.copy ≤ before.last) before.objects
    → AreRising 0 (ended copies additions before).objects
ended_rising copies additions before rising below =
    rising-append 0 before.last (without_all copies before.objects) (objects_from (suc before.last) additions) (omega arith)
    (rising-without_all 0 copies before.objects rising)
    (each-without_all (λ (object : Object). object.copy ≤ before.last) copies before.objects below)
    (rising-from before.last additions)

pub ended_below : (copies : List ℕ) (additions : List Addition) (before : Contents) → AllByRecursion (λ object. object.copy ≤ before.last) before.objects
    → AllByRecursion (λ object. object.copy ≤ (ended copies additions before).last) (ended copies additions before).objects
ended_below copies additions before below =
    let end : ℕ = before.last + length additions in
    each-append (λ (object : Object). object.copy ≤ end) (without_all copies before.objects) (objects_from (suc before.last) additions)
    (below-more before.last end (without_all copies before.objects) (omega arith) (each-without_all (λ (object : Object). object.copy ≤ before.last) copies before.objects below))
    (below-from before.last end additions (omega arith))

additions_kept : (copy : ℕ) (additions : List Addition) → AllByRecursion IsObject (objects_from copy additions) → AllByRecursion IsAddition additions
    → AllByRecursion IsKept (objects_from copy additions)
additions_kept copy [] fit each = tt
additions_kept copy (a ∷ additions) fit each = (record { fits = fit.0; blocks = each.0.blocks }, additions_kept (suc copy) additions fit.1 each.1)

-- what a transaction makes of contents are contents
pub ended_sound : (copies : List ℕ) (additions : List Addition) (before : Contents) (batch : List ℕ) → IsBatch copies additions before batch → AreContents before
    → before.last + length additions ≤ 2 ^ 48 → AreContents (ended copies additions before)
ended_sound copies additions before batch is sound le = record {
  rising = ended_rising copies additions before sound.rising sound.below;
  below = ended_below copies additions before sound.below;
  bound = le;
  each = each-append IsKept (without_all copies before.objects) (objects_from (suc before.last) additions)
      (each-without_all IsKept copies before.objects sound.each) (additions_kept (suc before.last) additions is.objects is.additions_are);
}

-- a transaction that takes no slot is empty
pub empty_transaction : (copies : List ℕ) (additions : List Addition) → slots_wanted copies additions ≡ 0 → (copies ≡ []) × (additions ≡ [])
empty_transaction [] [] none = (refl, refl)
empty_transaction (copy ∷ copies) additions none = absurd (omega (arith, none))
empty_transaction [] (a ∷ additions) none = absurd (omega (arith, none, sum_by-cons (λ (addition : Addition). slots_for (length addition.runs)) a additions))

pub without_all-push : (copies : List ℕ) (copy : ℕ) (objects : List Object) → without_all (copies ++ copy ∷ []) objects ≡ without copy (without_all copies objects)
without_all-push [] copy objects = refl
without_all-push (c ∷ copies) copy objects = without_all-push copies copy (without c objects)

-- the copy ids of entries are those of their objects
pub entry_copies : (entries : List ObjectEntry) → map (λ entry. entry.copy) entries ≡ map (λ (object : Object). object.copy) (map object_of entries)
entry_copies [] = refl
entry_copies (x ∷ entries) = ap (λ (l : List ℕ). x.copy ∷ l) (entry_copies entries)

-- the slots of additions are those of the objects that a program adds
pub sum-additions : (objects : List NewObject)
    → sum_by (λ object. slots_for (length object.runs.items)) objects ≡ sum_by (λ addition. slots_for (length addition.runs)) (map addition_of objects)
sum-additions [] = refl
sum-additions (x ∷ objects) =
    omega (
      arith,
      sum_by-cons (λ (object : NewObject). slots_for (length object.runs.items)) x objects,
      sum_by-cons (λ (addition : Addition). slots_for (length addition.runs)) (addition_of x) (map addition_of objects),
      sum-additions objects,
    )

-- objects with the copy ids from one on, and one more
pub objects_from-push : (copy : ℕ) (additions : List Addition) (addition : Addition)
    → objects_from copy (additions ++ addition ∷ []) ≡ objects_from copy additions ++ object_with (copy + length additions) addition ∷ []
objects_from-push copy [] addition = ap (λ (n : ℕ). object_with n addition ∷ []) (omega arith)
objects_from-push copy (a ∷ more) addition =
    let place : suc copy + length more ≡ copy + suc (length more) = omega arith in
    ap (λ (l : List Object). object_with copy a ∷ l)
    (objects_from-push (suc copy) more addition ∙ ap (λ (n : ℕ). objects_from (suc copy) more ++ object_with n addition ∷ []) place)
