use Rattle.std.proofs.Common.{◌≡◌, ◌+◌, ◌*◌, ◌++◌, ℕ, List, take}
use Rattle.std.specs.List.{flat_map}
use Rattle.catalogue_slots.specs.declared.entry.ObjectEntry.{ObjectEntry}
use Rattle.catalogue_journal.specs.Batches.{slots_of_entries, entry_bytes}
use Rattle.catalogue_journal.proofs.batch.lay_entries.Given as goal

-- so many entries are laid out
pub record HasLaid (first at : ℕ) (old batch : List ℕ) (laid : List ObjectEntry) : Type 0 where
  pub place : at ≡ first + 4096 * slots_of_entries laid
  pub stands : take at batch ≡ take first old ++ flat_map entry_bytes laid

abbrev pub invariant-loop-entry : goal.invariant-loop-entry
invariant-loop-entry l = HasLaid l.first l.at l.initial.batch l.batch (take l.entry-index l.entries)
