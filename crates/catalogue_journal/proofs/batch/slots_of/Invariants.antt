use Rattle.std.proofs.Common.{◌≡◌, ◌-◌, ◌^◌, min, take, length, sum_by}
use Rattle.catalogue_slots.specs.Records.{slots_for}
use Rattle.catalogue_journal.proofs.batch.slots_of.Given as goal

abbrev pub invariant-loop-object : goal.invariant-loop-object
invariant-loop-object l = l.slots ≡ min (sum_by (λ object. slots_for (length object.runs.items)) (take l.object-index l.objects)) (2 ^ 64 - 1)
