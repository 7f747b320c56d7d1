-- Entries that are deleted.
use Rattle.std.specs.Prelude.{ℕ, Bool, not, nat_eq, List}
use Rattle.std.specs.List.{list_any}
use Rattle.catalogue_slots.specs.declared.entry.ObjectEntry.{ObjectEntry}

-- an entry has none of these copy ids
abbrev pub is_other : List ℕ → ObjectEntry → Bool
is_other copies entry = not (list_any (λ copy. nat_eq copy entry.copy) copies)
