use Rattle.std.proofs.Common.{◌≡◌, ◌*◌, take}
use Rattle.std.specs.List.{flat_map}
use Rattle.catalogue_journal.specs.Batches.{del_bytes}
use Rattle.catalogue_journal.proofs.batch.lay_deletions.Given as goal

abbrev pub invariant-loop-i : goal.invariant-loop-i
invariant-loop-i l = take (4096 * l.i) l.batch ≡ flat_map del_bytes (take l.i l.copies)
