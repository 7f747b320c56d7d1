use Rattle.std.proofs.Common.{sym, ◌∙◌, arith, take}
use Rattle.gated_slots.specs.SlotsLaws.{used_of-nil, used_of_le}
use Rattle.log_scan.proofs.CountLemmas.{open_more, closed_more}
use Rattle.std.proofs.lemmas.List.{length-take}
use Rattle.log_scan.proofs.counting.last_open.Goals as goal
use Rattle.log_scan.proofs.counting.last_open.Goals.{then-gate-ne0, else-gate-ne0}

pub loop-i-init : goal.loop-i-init
loop-i-init c = sym used_of-nil

pub loop-i-preserved : goal.loop-i-preserved
loop-i-preserved c = elim c.if-gate-ne0.branch [
  | then-gate-ne0 w ↦ w.used-is ∙ open_more c.args.gates.now c.loop-i.i (omega arith) w.if-gate-ne0.true
  | else-gate-ne0 w ↦ w.used-is ∙ c.loop-i.invariant ∙ closed_more c.args.gates.now c.loop-i.i (omega arith) w.if-gate-ne0.false
]

pub returns-clause-few : goal.returns-clause-few
returns-clause-few c = omega (arith, c.loop-i.invariant, used_of_le (take c.loop-i.i c.args.gates.now), length-take c.loop-i.i c.args.gates.now)
