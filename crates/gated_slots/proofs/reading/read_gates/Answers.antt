use Rattle.std.proofs.Common.{arith, take}
use Rattle.std.proofs.lemmas.List.{length-take}
use Rattle.gated_slots.specs.SlotsLaws.{used_of_le}
use Rattle.gated_slots.proofs.reading.read_gates.Goals as goal

pub returns-clause-within : goal.returns-clause-within
returns-clause-within g c = omega (arith, used_of_le (take c.in_ok-got.got c.read_at.new.into), length-take c.in_ok-got.got c.read_at.new.into)
