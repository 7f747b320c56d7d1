use Rattle.std.proofs.Common.{arith}
use Rattle.command_texts.proofs.ListLemmas.{front_more, within_more}
use Rattle.command_texts.proofs.printing.print_all.Goals as goal

pub loop-at-preserved : goal.loop-at-preserved
loop-at-preserved g c = record {
  within = within_more _ _ _ c.loop-at.invariant.within c.in_ok-at.ensures.bound;
  taken = λ tells. front_more _ _ _ _ _ _ (c.loop-at.invariant.taken tells) (c.in_ok-at.ensures.taken tells);
  faults = omega arith;
}
