use Rattle.std.proofs.Common.{◌≡◌, ℕ, ◌+◌, ◌<◌, List, [], ◌∷◌, ◌++◌, length, take, map, get_or, ap, sym, ◌∙◌, arith}
use Rattle.std.proofs.lemmas.List.{map_push, take_more, length-map, length-take-le}
use Rattle.catalogue_slots.specs.Records.{Object}
use Rattle.catalogue_slots.specs.Views.{object_of}
use Rattle.catalogue_slots.specs.declared.entry.ObjectEntry.{ObjectEntry}
use Rattle.catalogue_journal.specs.Transactions.{Addition, object_with, objects_from}
use Rattle.catalogue_journal.specs.Views.{addition_of}
use Rattle.catalogue_journal.specs.declared.entries.NewObject.{NewObject}
use Rattle.catalogue_journal.specs.Batches.{IsEntry}
use Rattle.catalogue_journal.proofs.EntryLemmas.{each-append}
use Rattle.catalogue_journal.proofs.EntryLemmas.{objects_from-push}
use Rattle.catalogue_journal.proofs.entries.new_entries.Goals as goal

-- one object more
next_entry : (first i : ℕ) (objects : List NewObject) (object : NewObject) (entries : List ObjectEntry) (entry : ObjectEntry) → i < length objects
    → object ≡ get_or objects i object → map object_of entries ≡ objects_from first (map addition_of (take i objects))
    → object_of entry ≡ object_with (first + i) (addition_of object)
    → map object_of (entries ++ entry ∷ []) ≡ objects_from first (map addition_of (take (i + 1) objects))
next_entry first i objects object entries entry lt is before made =
    let front : List Addition = map addition_of (take i objects) in
    let count : length front ≡ i = length-map (take i objects) addition_of ∙ length-take-le i objects (omega arith) in
    let more : map addition_of (take (i + 1) objects) ≡ front ++ addition_of object ∷ [] =
    ap (map addition_of) (take_more objects i object lt ∙ ap (λ (x : NewObject). take i objects ++ x ∷ []) (sym is)) ∙ map_push addition_of (take i objects) object in
    map_push object_of entries entry ∙ ap (λ (l : List Object). l ++ object_of entry ∷ []) before
    ∙ ap (λ (o : Object). objects_from first front ++ o ∷ []) (made ∙ ap (λ (n : ℕ). object_with (first + n) (addition_of object)) (sym count))
    ∙ sym (objects_from-push first front (addition_of object)) ∙ ap (objects_from first) (sym more)

pub loop-i-preserved : goal.loop-i-preserved
loop-i-preserved c = record {
  made = rw c.in_ok-push.ensures.items
      (next_entry c.args.first c.loop-i.i c.args.objects.now c.index-objects-i.result c.loop-i.entries.items c.in_ok-new_entry.field-0 c.loop-i-test.true
      c.index-objects-i.is c.loop-i.invariant.made c.in_ok-new_entry.ensures.object);
  fit = rw c.in_ok-push.ensures.items
      (each-append IsEntry c.loop-i.entries.items (c.in_ok-new_entry.field-0 ∷ []) c.loop-i.invariant.fit (c.in_ok-new_entry.ensures.fits, tt));
}
