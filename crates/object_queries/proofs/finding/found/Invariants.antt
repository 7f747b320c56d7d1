use Rattle.std.proofs.Common.{◌≡◌, ◌++◌, map, drop}
use Rattle.catalogue_slots.specs.Views.{object_of}
use Rattle.object_queries.specs.Queries.{found_by}
use Rattle.object_queries.proofs.finding.found.Given as goal

abbrev pub invariant-loop-i : goal.invariant-loop-i
invariant-loop-i l = l.copies.items ++ found_by l.query (map object_of (drop l.i l.objects)) ≡ found_by l.query (map object_of l.objects)
