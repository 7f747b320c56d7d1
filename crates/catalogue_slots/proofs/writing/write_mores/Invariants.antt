use Rattle.std.proofs.Common.{◌≡◌, ◌+◌, ◌*◌, ◌++◌, take}
use Rattle.std.specs.List.{flat_map}
use Rattle.catalogue_slots.specs.Records.{mores}
use Rattle.catalogue_slots.specs.Layout.{spelling}
use Rattle.catalogue_slots.proofs.writing.write_mores.Given as goal

abbrev pub invariant-loop-i : goal.invariant-loop-i
invariant-loop-i l = take (l.at + 4096 * l.i) l.into ≡ take l.at l.initial.into ++ flat_map spelling (mores l.copy l.i l.runs)
