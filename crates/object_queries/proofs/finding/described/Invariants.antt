use Rattle.std.proofs.Common.{◌≡◌, map, drop}
use Rattle.catalogue_slots.specs.Views.{object_of}
use Rattle.object_queries.specs.Queries.{description_of}
use Rattle.object_queries.proofs.finding.described.Given as goal

abbrev pub invariant-loop-i : goal.invariant-loop-i
invariant-loop-i l = description_of l.copy (map object_of (drop l.i l.objects)) ≡ description_of l.copy (map object_of l.objects)
