use Rattle.std.proofs.Common.{◌≡◌, ◌+◌, ◌*◌, ◌++◌, take}
use Rattle.std.specs.List.{flat_map}
use Rattle.catalogue_slots.specs.Layout.{run_bytes}
use Rattle.catalogue_slots.proofs.runs.write_each.Given as goal

abbrev pub invariant-loop-i : goal.invariant-loop-i
invariant-loop-i l = take (l.at + 8 * l.i) l.into ≡ take l.at l.initial.into ++ flat_map run_bytes (take l.i l.runs)
