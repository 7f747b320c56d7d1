use Rattle.std.proofs.Common.{◌≡◌, ℕ, List, take, map}
use Rattle.std.specs.List.{AllByRecursion}
use Rattle.catalogue_slots.specs.Views.{object_of}
use Rattle.catalogue_slots.specs.declared.entry.ObjectEntry.{ObjectEntry}
use Rattle.catalogue_journal.specs.Batches.{IsEntry}
use Rattle.catalogue_journal.specs.Transactions.{objects_from}
use Rattle.catalogue_journal.specs.Views.{addition_of}
use Rattle.catalogue_journal.specs.declared.entries.NewObject.{NewObject}
use Rattle.catalogue_journal.proofs.entries.new_entries.Given as goal

-- the entries of so many objects
pub record HasMade (first : ℕ) (objects : List NewObject) (entries : List ObjectEntry) : Type 0 where
  pub made : map object_of entries ≡ objects_from first (map addition_of objects)
  pub fit : AllByRecursion IsEntry entries

abbrev pub invariant-loop-i : goal.invariant-loop-i
invariant-loop-i l = HasMade l.first (take l.i l.objects) l.entries.items
