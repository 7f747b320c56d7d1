-- The set of the copies that are gone.
use Rattle.std.specs.Prelude.{◌≡◌, ℕ, List}
use Rattle.std.specs.BTreeSet.{BTreeSet, contains}
use Rattle.std.specs.List.{list_any}
use Rattle.std.specs.Ordering.{nat_cmp}
use Rattle.backup_lines.specs.Lines.{Line, tells_gone}

-- a set has the copy ids that the lines say are gone, and no others
abbrev pub AreGone : List Line → BTreeSet ℕ → Type 0
AreGone lines gone = (copy : ℕ) → contains nat_cmp gone copy ≡ list_any (tells_gone copy) lines
