use Rattle.std.proofs.Common.{◌≡◌, ◌∙◌, ◌+◌, ◌*◌, ℕ, suc, List, length, map, sym, ap, subst, arith}
use Rattle.std.specs.Prelude.{sum_by}
use Rattle.std.specs.List.{AllByRecursion}
use Rattle.std.proofs.lemmas.List.{length-map}
use Rattle.catalogue_slots.specs.Records.{Object, slots_for}
use Rattle.catalogue_slots.specs.Views.{object_of}
use Rattle.catalogue_slots.specs.declared.entry.ObjectEntry.{ObjectEntry}
use Rattle.catalogue_journal.specs.Batches.{HasFewRuns, slots_of_entries, batch_bytes}
use Rattle.catalogue_replay.specs.Contents.{Contents}
use Rattle.catalogue_journal.specs.Transactions.{Addition, objects_from}
use Rattle.catalogue_journal.specs.Views.{addition_of}
use Rattle.catalogue_journal.specs.declared.entries.NewObject.{NewObject}
use Rattle.catalogue_journal.proofs.EntryLemmas.{few_runs, same_slots, entry_copies, is_batch, length-batch}
use Rattle.catalogue_journal.proofs.ending.prepare.Goals as goal

-- the objects that a program adds are seen through a slice
seen : (first : ℕ) (objects others : List NewObject) (entries : List ObjectEntry) → map object_of entries ≡ objects_from first (map addition_of others) → others ≡ objects
    → map object_of entries ≡ objects_from first (map addition_of objects)
seen first objects others entries are same = are ∙ ap (λ (l : List NewObject). objects_from first (map addition_of l)) same

slots_seen : (first : ℕ) (objects others : List NewObject) (entries : List ObjectEntry) → map object_of entries ≡ objects_from first (map addition_of others) → others ≡ objects
    → slots_of_entries entries ≡ sum_by (λ addition. slots_for (length addition.runs)) (map addition_of objects)
slots_seen first objects others entries are same = same_slots first entries (map addition_of objects) (seen first objects others entries are same)

pub batch_of-requires-clause-few : goal.batch_of-requires-clause-few
batch_of-requires-clause-few c =
    let slots = slots_seen (c.args.last + 1) c.args.staged.now.add.items c.deref.result.now c.in_ok-entries.entries.items c.in_ok-entries.ensures.objects c.deref.ensures.value in
    subst (λ (l : List ObjectEntry). AllByRecursion HasFewRuns l) (sym c.deref-4.ensures.value)
    (few_runs c.in_ok-entries.entries.items (omega (arith, slots, c.requires.slots, c.requires.few)))

pub batch_of-requires-clause-slots : goal.batch_of-requires-clause-slots
batch_of-requires-clause-slots c =
    let slots = slots_seen (c.args.last + 1) c.args.staged.now.add.items c.deref.result.now c.in_ok-entries.entries.items c.in_ok-entries.ensures.objects c.deref.ensures.value in
    omega (arith, slots, c.requires.slots, ap (λ (l : List ℕ). length l) c.deref-3.ensures.value, ap (λ (l : List ObjectEntry). slots_of_entries l) c.deref-4.ensures.value)

pub returns-clause-copies : goal.returns-clause-copies
returns-clause-copies c =
    c.in_ok-copies.ensures
    ∙ ap (λ (l : List ObjectEntry). map (λ (entry : ObjectEntry). entry.copy) l) c.deref-2.ensures.value
    ∙ entry_copies c.in_ok-entries.entries.items
    ∙ ap (λ (l : List Object). map (λ (object : Object). object.copy) l)
    (seen (c.args.last + 1) c.args.staged.now.add.items c.deref.result.now c.in_ok-entries.entries.items c.in_ok-entries.ensures.objects c.deref.ensures.value)

pub returns-clause-batch : goal.returns-clause-batch
returns-clause-batch c =
    let copies = c.args.staged.now.delete.items in
    let additions : List Addition = map addition_of c.args.staged.now.add.items in
    let entries = c.in_ok-entries.entries.items in
    let before : Contents = record { last = c.args.last; objects = map object_of c.args.objects.now.items } in
    let first : c.args.last + 1 ≡ suc c.args.last = omega arith in
    let slots = slots_seen (c.args.last + 1) c.args.staged.now.add.items c.deref.result.now entries c.in_ok-entries.ensures.objects c.deref.ensures.value in
    is_batch copies additions before entries c.in_ok-batch.batch.items
    (seen (c.args.last + 1) c.args.staged.now.add.items c.deref.result.now entries c.in_ok-entries.ensures.objects c.deref.ensures.value ∙ ap (λ (k : ℕ). objects_from k additions) first)
    c.in_ok-entries.ensures.fit (few_runs entries (omega (arith, slots, c.requires.slots, c.requires.few)))
    c.requires.deletions c.requires.below c.requires.additions (omega (arith, c.requires.ids, length-map c.args.staged.now.add.items addition_of))
    (c.in_ok-batch.ensures ∙ ap (λ (l : List ℕ). batch_bytes l c.deref-4.result.now) c.deref-3.ensures.value ∙ ap (λ (l : List ObjectEntry). batch_bytes copies l) c.deref-4.ensures.value)

pub returns-clause-long : goal.returns-clause-long
returns-clause-long c =
    let before : Contents = record { last = c.args.last; objects = map object_of c.args.objects.now.items } in
    length-batch c.args.staged.now.delete.items (map addition_of c.args.staged.now.add.items) before c.in_ok-batch.batch.items (returns-clause-batch c)
    ∙ ap (λ (k : ℕ). 4096 * k) (sym c.requires.slots)
